-- The refusals of calls by name and by number.
use Rattle.std.specs.Prelude.{◌≡◌, refl, ℕ, Option, None, Some, ◌==◌, if◌then◌else◌}
use Rattle.arrays.specs.declared.denial.Denial.{Denial}
use Rattle.arrays.specs.declared.denial.Denial.TheVariants.{NoTask, Unfinished, Stranger, NoUse, Held, Reached, NotHeld, Inside, Sleepless, NoSleeper, Unfit}

-- the number of a refusal
abbrev pub denial_number : Denial → ℕ
denial_number NoTask = 11
denial_number Unfinished = 12
denial_number Stranger = 13
denial_number NoUse = 14
denial_number Held = 15
denial_number Reached = 16
denial_number NotHeld = 17
denial_number Inside = 18
denial_number Sleepless = 19
denial_number NoSleeper = 20
denial_number Unfit = 26

-- the refusal that has a number, none where none has it
abbrev pub denial_of : ℕ → Option Denial
denial_of n =
    if n == 11 then Some NoTask else
    if n == 12 then Some Unfinished else
    if n == 13 then Some Stranger else
    if n == 14 then Some NoUse else
    if n == 15 then Some Held else
    if n == 16 then Some Reached else
    if n == 17 then Some NotHeld else
    if n == 18 then Some Inside else
    if n == 19 then Some Sleepless else
    if n == 20 then Some NoSleeper else
    if n == 26 then Some Unfit else None

-- the number in a reply, 0 where nothing is refused
abbrev pub refusal_number : Option Denial → ℕ
refusal_number None = 0
refusal_number (Some d) = denial_number d

-- a refusal's number is its own
pub denial_back : (d : Denial) → denial_of (denial_number d) ≡ Some d
denial_back NoTask = refl
denial_back Unfinished = refl
denial_back Stranger = refl
denial_back NoUse = refl
denial_back Held = refl
denial_back Reached = refl
denial_back NotHeld = refl
denial_back Inside = refl
denial_back Sleepless = refl
denial_back NoSleeper = refl
denial_back Unfit = refl
