-- A call of the code, seen as the machine's.
use Rattle.std.specs.Prelude.{◌≡◌, refl}
use Rattle.protocol.specs.Checks as machine
use Rattle.scheduler.specs.declared.calls.Call.{Call}
use Rattle.scheduler.specs.declared.calls.Call.TheVariants.{Release, Resume, Lock, Unlock, Suspend, Complete}

abbrev pub machine_call : Call → machine.Call
machine_call (Release p) = machine.release p
machine_call (Resume job) = machine.resume job.priority job.serial
machine_call (Lock job r) = machine.lock job.priority job.serial r
machine_call (Unlock job r) = machine.unlock job.priority job.serial r
machine_call (Suspend job) = machine.suspend job.priority job.serial
machine_call (Complete job) = machine.complete job.priority job.serial

-- the way back
abbrev pub code_call : machine.Call → Call
code_call (machine.release p) = Release p
code_call (machine.resume p n) = Resume (record { priority = p; serial = n })
code_call (machine.lock p n r) = Lock (record { priority = p; serial = n }) r
code_call (machine.unlock p n r) = Unlock (record { priority = p; serial = n }) r
code_call (machine.suspend p n) = Suspend (record { priority = p; serial = n })
code_call (machine.complete p n) = Complete (record { priority = p; serial = n })

-- nothing is lost
pub call_back : (c : Call) → code_call (machine_call c) ≡ c
call_back (Release p) = refl
call_back (Resume job) = refl
call_back (Lock job r) = refl
call_back (Unlock job r) = refl
call_back (Suspend job) = refl
call_back (Complete job) = refl
