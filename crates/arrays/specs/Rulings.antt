-- What a call's checks come to in the code, seen as the machine's ruling.
use Rattle.std.specs.Prelude.{◌≡◌, refl, ℕ, ◌<◌, ◌≤◌, Result, Ok, Err, Option, Some, option_map}
use Rattle.std.proofs.Common.{ap}
use Rattle.protocol.specs.Checks.{Ruling, refuse, grant}
use Rattle.arrays.specs.declared.denial.Denial.{Denial}
use Rattle.arrays.specs.declared.entries.Entries.{Entries}
use Rattle.arrays.specs.View.{count_of}
use Rattle.arrays.specs.Denials.{denial_number, denial_of, denial_back}

-- granted to the job at a place, or refused with a number
abbrev pub ruling_of : Result ℕ Denial → Ruling
ruling_of (Ok i) = grant i
ruling_of (Err d) = refuse (denial_number d)

-- the way back, none for a number that is no refusal's
abbrev pub ruled_as : Ruling → Option (Result ℕ Denial)
ruled_as (grant i) = Some (Ok i)
ruled_as (refuse n) = option_map Err (denial_of n)

-- nothing is lost
pub ruling_back : (r : Result ℕ Denial) → ruled_as (ruling_of r) ≡ Some r
ruling_back (Ok i) = refl
ruling_back (Err d) = ap (option_map Err) (denial_back d)

-- Room for a section more of the resource r at the place i, where n are open, and one that is counted.
abbrev pub Roomy : Entries → ℕ → ℕ → ℕ → Type 0
Roomy e n r i = (n < 16) × (0 < r) × (r ≤ 16) × (count_of e.opened i r < 255)
