-- What is asked of a table and of a rule. Every table that the reader accepts is so, and the rule in force is.
use Rattle.std.specs.Prelude.{◌≡◌, Bool, true, false, ℕ, ◌≤◌, ◌<◌}
use Rattle.protocol.specs.Tasks.{Table, priority, setting}
use Rattle.protocol.specs.Running.{Rule}

-- At most 32 tasks, no two of one priority, each setting below its priority, and no use of a resource 0.
pub record Accepted (T : Table) : Type 0 where
  pub few : T.size ≤ 32
  pub unique : (i j : ℕ) → i < T.size → j < T.size → priority T i ≡ priority T j → i ≡ j
  pub below : (i : ℕ) → i < T.size → setting T i < priority T i
  pub proper : (i : ℕ) → (T.task i).uses 0 ≡ 0

-- Above the system priority a job is eligible; one that holds nothing is eligible only there; and a holder is where a lower holder is.
pub record Lawful (E : Rule) : Type 0 where
  pub above : (system p : ℕ) (h : Bool) → system < p → E system p h ≡ true
  pub only_above : (system p : ℕ) → E system p false ≡ true → system < p
  pub rises : (system p q : ℕ) → E system p true ≡ true → p < q → E system q true ≡ true
