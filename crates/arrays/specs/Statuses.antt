-- The code's statuses, seen as the machine's.
use Rattle.std.specs.Prelude.{◌≡◌, refl}
use Rattle.protocol.specs.State as machine
use Rattle.arrays.specs.declared.status.Status.{Status}
use Rattle.arrays.specs.declared.status.Status.TheVariants.{NoJob, Ready, Waiting, Asleep}

abbrev pub status_seen : Status → machine.Status
status_seen NoJob = machine.none
status_seen Ready = machine.ready
status_seen Waiting = machine.waiting
status_seen Asleep = machine.asleep

-- the way back
abbrev pub status_told : machine.Status → Status
status_told machine.none = NoJob
status_told machine.ready = Ready
status_told machine.waiting = Waiting
status_told machine.asleep = Asleep

-- nothing is lost
pub status_back : (x : Status) → status_told (status_seen x) ≡ x
status_back NoJob = refl
status_back Ready = refl
status_back Waiting = refl
status_back Asleep = refl
