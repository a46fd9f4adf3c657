-- When nothing runs: no section is open, and every unfinished job sleeps or is held back by one that does.
use Rattle.std.specs.Prelude.{◌≡◌, ◌⊎◌, [], ℕ, ◌≤◌, ◌<◌}
use Rattle.protocol.specs.Tasks.{Table, priority, setting}
use Rattle.protocol.specs.State.{State, none, ready, asleep}

-- The job at the place i is not above the setting of a job that sleeps.
pub record BehindSleeper (T : Table) (s : State) (i : ℕ) : Type 0 where
  pub sleeper : ℕ
  pub inside : sleeper < T.size
  pub sleeps : (s.entry sleeper).status ≡ asleep
  pub reaches : priority T i ≤ setting T sleeper

-- What a state in which nothing runs is like.
pub record Idle (T : Table) (s : State) : Type 0 where
  pub none_open : s.sections ≡ []
  pub none_holds : (i : ℕ) → (s.entry i).held ≡ 0
  pub held_back : (i : ℕ) → ((s.entry i).status ≡ none → ⊥)
      → ((s.entry i).status ≡ asleep) ⊎ (((s.entry i).status ≡ ready) × BehindSleeper T s i)
