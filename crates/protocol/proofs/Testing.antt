-- What a passed test of a status says.
use mathlib.Core.Path.{◌≡◌, refl}
use mathlib.Core.Bool.{true}
use Rattle.protocol.specs.State.{Status, none, ready, waiting, asleep, is_none, is_ready, is_waiting, is_asleep}

-- a job that tests as ready is so
pub ready_is : (x : Status) → is_ready x ≡ true → x ≡ ready
ready_is none e = cc
ready_is ready e = refl
ready_is waiting e = cc
ready_is asleep e = cc

-- one that tests as no job is none
pub none_is : (x : Status) → is_none x ≡ true → x ≡ none
none_is none e = refl
none_is ready e = cc
none_is waiting e = cc
none_is asleep e = cc

-- one that tests as asleep is so
pub asleep_is : (x : Status) → is_asleep x ≡ true → x ≡ asleep
asleep_is none e = cc
asleep_is ready e = cc
asleep_is waiting e = cc
asleep_is asleep e = refl

-- one that tests as waiting is so
pub waiting_is : (x : Status) → is_waiting x ≡ true → x ≡ waiting
waiting_is none e = cc
waiting_is ready e = cc
waiting_is waiting e = refl
waiting_is asleep e = cc
