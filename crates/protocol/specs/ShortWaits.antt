-- Short waits: no resource has two holders, a permitted lock never meets a held resource, and a waiting job sees a lower one run only inside a
-- section that was open when its wait began; in the states that count, one section to a wait.
use Rattle.std.specs.Prelude.{◌≡◌, ◌⊎◌, List, [], ◌∷◌, length, ℕ, ◌+◌, ◌≤◌, ◌<◌}
use Rattle.searches.specs.Searches.{at}
use Rattle.protocol.specs.Tasks.{Table, priority, setting}
use Rattle.protocol.specs.State.{asleep, Entry, State}
use Rattle.protocol.specs.Running.{system_priority, Rule, running}
use Rattle.protocol.specs.Trace.{Event, opened, Open, Waits, Has}

-- lists of different numbers
abbrev pub Among : ℕ → List ℕ → Type 0
Among x [] = ⊥
Among x (y ∷ l) = (x ≡ y) ⊎ Among x l

abbrev pub Distinct : List ℕ → Type 0
Distinct [] = Unit {0}
Distinct (x ∷ l) = ((y : ℕ) → Among y l → x ≡ y → ⊥) × Distinct l

-- Which states count for a job that waits, by the table, the entries and its priority.
abbrev pub Counts : Type 1
Counts = Table → (ℕ → Entry) → ℕ → Type 0

-- all states
abbrev pub always : Counts
always T f p = Unit {0}

-- those in which the job is above the system priority
abbrev pub while_above : Counts
while_above T f p = system_priority T f < p

-- those in which it is above the setting of every job that sleeps
abbrev pub past_sleepers : Counts
past_sleepers T f p = (j : ℕ) → j < T.size → (f j).status ≡ asleep → setting T j < p

-- `T k` and `S k` are the table and the state after k calls, and `ev k` is what the call k brings about.
module _ (E : Rule) (C : Counts) (T : ℕ → Table) (S : ℕ → State) (ev : ℕ → Event) where
  -- After k calls the job at the place q runs, and is lower than p.
  pub record Sees (p q k : ℕ) : Type 0 where
    pub runs : running E (T k) (S k).entry ≡ at q
    pub lower : priority (T k) q < p

  -- The state after k calls counts for p.
  abbrev pub Counted : ℕ → ℕ → Type 0
  Counted p k = C (T k) (S k).entry p

  -- p then meets the section o, which the running job has open, in a state that counts.
  pub record Meets (p o k : ℕ) : Type 0 where
    pub lower : ℕ
    pub resource : ℕ
    pub sees : Sees p lower k
    pub has : Open ev o (priority (T k) lower) resource k
    pub counted : Counted p k

  -- The job that the call a released meets the section o in some wait, within k calls.
  pub record Met (p a k o : ℕ) : Type 0 where
    pub wait : ℕ
    pub time : ℕ
    pub within : (a ≤ wait) × (time ≤ k)
    pub waits : Waits ev p wait time
    pub meets : Meets p o time

  -- All meetings of one wait are with one section.
  abbrev pub OneToAWait : Type 0
  OneToAWait = (p a j k o u : ℕ) → Waits ev p a j → Waits ev p a k → Meets p o j → Meets p u k → o ≡ u

  -- A job has met at most one section more than it made sleeps.
  abbrev pub OneMoreThanSleeps : Type 0
  OneMoreThanSleeps = (p a k i : ℕ) → i < (T k).size → priority (T k) i ≡ p → Has ev p a k
      → (l : List ℕ) → Distinct l → ((o : ℕ) → Among o l → Met p a k o) → length l ≤ ((S k).entry i).sleeps + 1

  -- After its first sleep a job meets only sections of tasks above its own setting.
  abbrev pub AboveSetting : Type 0
  AboveSetting = (p a q k i : ℕ) → i < (T k).size → priority (T k) i ≡ p → Waits ev p a k → Sees p q k → Counted p k
      → 0 < ((S k).entry i).sleeps → setting (T k) i < priority (T k) q

  pub record ShortWaits : Type 0 where
    -- A resource is in one open section at most, and held by one job at most.
    pub one_section_open : (k r o u p q : ℕ) → Open ev o p r k → Open ev u q r k → o ≡ u
    pub one_holder : (k i j : ℕ) → (((S k).entry i).held ≡ 0 → ⊥) → ((S k).entry i).held ≡ ((S k).entry j).held → i ≡ j
    -- A permitted lock finds its resource in no open section, and held by nobody.
    pub finds_free : (k p r o q : ℕ) → ev k ≡ opened p r → Open ev o q r k → ⊥
    pub finds_unheld : (k p r i : ℕ) → ev k ≡ opened p r → ((S k).entry i).held ≡ r → ⊥
    -- A lower job that runs during a wait has a section open, and that was open when the wait began: in every state.
    pub only_older : (p a q k : ℕ) → Waits ev p a k → Sees p q k
        → (o r : ℕ) × Open ev o (priority (T k) q) r k × Open ev o (priority (T k) q) r a
    -- In the states that count:
    pub one_to_a_wait : OneToAWait
    pub one_more_than_sleeps : OneMoreThanSleeps
    pub above_setting : AboveSetting
