-- What is proved of the scheduler's own calls, told by their replies alone: short waits, when idle is replied, and job numbers that tell jobs apart.
use mathlib.Core.Path.{◌≡◌, refl, sym, ap, ap₂, subst, fun_ext, ◌∙◌}
use mathlib.Core.Logic.{◌↔◌}
use mathlib.Core.List.{List}
use Prim.Native.Nat.{ℕ, zero, suc, ◌<◌}
use lib.Dec.{eqb}
use Rattle.searches.proofs.Testing.{impossible}
use Rattle.protocol.specs.Tasks.{Table, priority, setting}
use Rattle.protocol.specs.State.{none, asleep, State, serial}
use Rattle.protocol.specs.Running.{in_force}
use Rattle.protocol.specs.Checks.{Call, Ruling, refuse, grant, ruling}
use Rattle.protocol.specs.Step as machine
use Rattle.protocol.specs.Accepted.{Accepted}
use Rattle.protocol.specs.Trace.{Event, released, after, event}
use Rattle.protocol.specs.ShortWaits.{always, while_above, past_sleepers, ShortWaits}
use Rattle.protocol.specs.Idling.{Idle}
use Rattle.protocol.specs.Numbers.{Entitled, releases, Wraps}
use Rattle.protocol.proofs.Idling.{someone_sleeps}
use Rattle.protocol.proofs.Runner.{lawful}
use Rattle.protocol.proofs.Theorems.{refused_keeps, short_waits, short_waits_past, short_waits_always, never_unfit, idle_only, answered_idle}
use Rattle.protocol.proofs.Theorems.{entitled, number_again}
use Rattle.table.specs.declared.Shape.{Shape}
use Rattle.std.proofs.Common.{Ok}
use Rattle.table.specs.Reading.{read_table}
use Rattle.table.proofs.Accepted.{well_formed}
use Rattle.std.proofs.Common.{None}
use Rattle.arrays.specs.Denials.{denial_of, refusal_number}
use Rattle.scheduler.specs.declared.Scheduler.{Scheduler}
use Rattle.scheduler.specs.declared.Reply.{Reply}
use Rattle.scheduler.specs.View.{Sized, table_of, state_of}
use Rattle.scheduler.specs.Replies.{running_of, written, replied}
use Rattle.scheduler.specs.Fresh.{fresh_of, set_up}
use Rattle.scheduler.specs.Driven.{Driven, event_if, told}
use Rattle.scheduler.proofs.Written.{beside_self, written_again}
use Rattle.scheduler.proofs.Following.{replied_follows, replied_sized}
use Rattle.scheduler.proofs.Naming.{refusal_kept}
use Rattle.scheduler.proofs.Events.{event_told, granted_to}
use Rattle.scheduler.proofs.Beginning.{fresh_view, fresh_sized, fresh_accepted, set_up_fresh}

-- a refused call leaves the scheduler as it is, to the last byte
pub refused_same : {s : Scheduler} → Sized s → (c : Call) → (refusal_number (replied s c).refusal ≡ 0 → ⊥) → (replied s c).state ≡ s
unfolding machine.step
refused_same {s} Z c n = go (ruling in_force (table_of s) (state_of s) c) refl
  where
    go : (q : Ruling) → ruling in_force (table_of s) (state_of s) c ≡ q → (replied s c).state ≡ s
    go (refuse k) e =
        ap (written s) (refused_keeps in_force (table_of s) (state_of s) c k e) ∙ sym (written_again Z (beside_self s))
    go (grant i) e = absurd (n (ap (λ q. refusal_number (denial_of (machine.answer in_force (table_of s) (state_of s) c q).refusal)) e))

-- ---- calls one after the other

-- the scheduler after k calls on accepted bytes, each handed what the last one answered
unfoldable pub driven : List ℕ → (ℕ → Call) → ℕ → Scheduler
driven bytes calls zero = (set_up bytes).scheduler
driven bytes calls (suc k) = (replied (driven bytes calls k) (calls k)).state

-- so any calls can be made
pub drives : (bytes : List ℕ) (h : Shape) → read_table bytes ≡ Ok h → (calls : ℕ → Call)
    → Driven bytes h calls (driven bytes calls) (λ k. replied (driven bytes calls k) (calls k))
unfolding driven
drives bytes h e calls = record { reads = e; starts = refl; replies = λ k. refl; goes_on = λ k. refl }

module _ {bytes : List ℕ} {h : Shape} {calls : ℕ → Call} {S : ℕ → Scheduler} {R : ℕ → Reply} (D : Driven bytes h calls S R) where
  -- the table of the bytes
  abbrev T : Table
  T = table_of (fresh_of bytes h)

  -- it is accepted
  accepted : Accepted T
  accepted = fresh_accepted bytes h (well_formed bytes h D.reads)

  -- the first scheduler
  first_is : S 0 ≡ fresh_of bytes h
  first_is = D.starts ∙ set_up_fresh bytes h D.reads

  -- the next one
  next_is : (k : ℕ) → S (suc k) ≡ (replied (S k) (calls k)).state
  next_is k = D.goes_on k ∙ ap (λ r. r.state) (D.replies k)

  -- every scheduler's arrays have their lengths
  sizes : (k : ℕ) → Sized (S k)
  sizes zero = subst Sized (sym first_is) (fresh_sized bytes h)
  sizes (suc k) = subst Sized (sym (next_is k)) (replied_sized (sizes k) (calls k))

  -- its table is that of the bytes
  table_is : (k : ℕ) → table_of (S k) ≡ T
  table_is zero = ap table_of first_is
  table_is (suc k) = ap table_of (next_is k) ∙ table_is k

  -- the machine's step on what the scheduler shows is that on the machine's own state, where the two are the same
  step_by : (k : ℕ) → state_of (S k) ≡ after in_force T calls k
      → machine.step in_force (table_of (S k)) (state_of (S k)) (calls k) ≡ machine.step in_force T (after in_force T calls k) (calls k)
  step_by k e = ap₂ (λ U s. machine.step in_force U s (calls k)) (table_is k) e

  -- they are: its state is the machine's
  pub state_is : (k : ℕ) → state_of (S k) ≡ after in_force T calls k
  unfolding after
  state_is zero = ap state_of first_is ∙ fresh_view bytes h
  state_is (suc k) = ap state_of (next_is k) ∙ replied_follows (sizes k) (calls k) ∙ ap (λ m. m.state) (step_by k (state_is k))

  -- its reply tells what the machine's call brings about
  pub event_is : (k : ℕ) → told (R k) (calls k) ≡ event in_force T calls k
  event_is k =
      ap (λ r. told r (calls k)) (D.replies k)
      ∙ ap (λ m. event_if (eqb (refusal_number (denial_of m.refusal)) 0) (calls k)) (step_by k (state_is k))
      ∙ event_told in_force T (after in_force T calls k) (calls k)

  -- names the job that the machine's names
  pub running_is : (k : ℕ) → (R k).running ≡ running_of (machine.step in_force T (after in_force T calls k) (calls k)).running
  running_is k = ap (λ r. r.running) (D.replies k) ∙ ap (λ m. running_of m.running) (step_by k (state_is k))

  -- and has the machine's refusal
  pub refusal_is : (k : ℕ) → refusal_number (R k).refusal ≡ (machine.step in_force T (after in_force T calls k) (calls k)).refusal
  refusal_is k =
      ap (λ r. refusal_number r.refusal) (D.replies k) ∙ ap (λ m. refusal_number (denial_of m.refusal)) (step_by k (state_is k))
      ∙ refusal_kept in_force T (after in_force T calls k) (calls k)

  -- what holds of the machine's states and events holds of the scheduler's
  seen : (Q : (ℕ → Table) → (ℕ → State) → (ℕ → Event) → Type 0) → Q (λ k. T) (after in_force T calls) (event in_force T calls)
      → Q (λ k. table_of (S k)) (λ k. state_of (S k)) (λ k. told (R k) (calls k))
  seen Q q =
      subst (λ ev. Q (λ k. table_of (S k)) (λ k. state_of (S k)) ev) (sym (fun_ext event_is))
      (subst (λ s. Q (λ k. table_of (S k)) s (event in_force T calls)) (sym (fun_ext state_is))
      (subst (λ U. Q U (after in_force T calls) (event in_force T calls)) (sym (fun_ext table_is)) q))

  -- ---- short waits

  -- any calls on a scheduler that is set up on accepted bytes keep waits short
  pub calls_short_waits : ShortWaits in_force while_above (λ k. table_of (S k)) (λ k. state_of (S k)) (λ k. told (R k) (calls k))
  calls_short_waits = seen (ShortWaits in_force while_above) (short_waits in_force lawful T accepted calls)

  -- also counting the states in which the job is above the settings of those that sleep
  pub calls_short_waits_past : ShortWaits in_force past_sleepers (λ k. table_of (S k)) (λ k. state_of (S k)) (λ k. told (R k) (calls k))
  calls_short_waits_past = seen (ShortWaits in_force past_sleepers) (short_waits_past in_force lawful T accepted calls)

  -- and every state, where all settings are 0
  pub calls_short_waits_always : ((i : ℕ) → i < T.size → setting T i ≡ 0)
      → ShortWaits in_force always (λ k. table_of (S k)) (λ k. state_of (S k)) (λ k. told (R k) (calls k))
  calls_short_waits_always z = seen (ShortWaits in_force always) (short_waits_always in_force lawful T accepted calls z)

  -- ---- idling

  -- a reply of idle is the machine's
  idle_told : (k : ℕ) → (R k).running ≡ None → (machine.step in_force T (after in_force T calls k) (calls k)).running ≡ machine.idle
  idle_told k e = go (machine.step in_force T (after in_force T calls k) (calls k)).running (sym (running_is k) ∙ e)
    where
      go : (r : machine.Running) → running_of r ≡ None → r ≡ machine.idle
      go machine.Running.idle q = refl
      go (machine.Running.job p n) q = absurd (impossible cc)

  -- a call replies idle only where no section is open, and every unfinished job sleeps or is behind one that does
  pub calls_idle_only : (k : ℕ) → (R k).running ≡ None → Idle (table_of (S (suc k))) (state_of (S (suc k)))
  unfolding after
  calls_idle_only k e =
      seen (λ U s ev. Idle (U (suc k)) (s (suc k)))
      (idle_only T accepted calls (suc k)
      (answered_idle in_force T (after in_force T calls k) (calls k) (never_unfit in_force lawful T accepted calls k) (idle_told k e)))

  -- so where some job is unfinished and none sleeps, it names one that runs
  pub calls_never_idle : (k i : ℕ) → (((state_of (S (suc k))).entry i).status ≡ none → ⊥)
      → ((j : ℕ) → ((state_of (S (suc k))).entry j).status ≡ asleep → ⊥) → (R k).running ≡ None → ⊥
  calls_never_idle k i u n e = let w = someone_sleeps (calls_idle_only k e) i u in n w.0 w.1

  -- ---- job numbers

  -- only the one who is entitled to a call has it accepted
  pub calls_entitled : (k : ℕ) → refusal_number (R k).refusal ≡ 0 → Entitled in_force (table_of (S k)) (state_of (S k)) (calls k)
  calls_entitled k e =
      let g = granted_to in_force (table_of (S k)) (state_of (S k)) (calls k) (sym (refusal_kept in_force (table_of (S k)) (state_of (S k)) (calls k)) ∙ sym (ap (λ r. refusal_number r.refusal) (D.replies k)) ∙ e) in
      entitled in_force (table_of (S k)) (state_of (S k)) (calls k) g.0 g.1

  -- a job's number comes back just when the releases of its task between are a multiple of 65,536
  pub calls_number_again : (i a b : ℕ) → i < T.size → told (R a) (calls a) ≡ released (priority T i) → told (R b) (calls b) ≡ released (priority T i)
      → (serial ((state_of (S (suc a))).entry i) ≡ serial ((state_of (S (suc b))).entry i))
      ↔ Wraps (releases (λ k. told (R k) (calls k)) (priority T i) a) (releases (λ k. told (R k) (calls k)) (priority T i) b)
  calls_number_again i a b lt e f =
      seen (λ U s ev. (serial ((s (suc a)).entry i) ≡ serial ((s (suc b)).entry i)) ↔ Wraps (releases ev (priority T i) a) (releases ev (priority T i) b))
      (number_again in_force T accepted calls i a b lt (sym (event_is a) ∙ e) (sym (event_is b) ∙ f))
