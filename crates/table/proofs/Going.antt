-- The loop over the records: each walk that it comes to is sound, and what is left to read from there is what the whole table is.
use Prim.Native.Nat.{ℕ, zero, suc, ◌+◌, ◌*◌, ◌^◌, ◌-◌, ◌≤◌, ◌<◌}
use mathlib.Core.Path.{◌≡◌, refl, sym, ap, ◌∙◌}
use mathlib.Core.List.{List}
use lib.ListN.{get_or, length}
use native.Mathlib.Omega.{arith}
use Rattle.std.specs.Prelude.{Result, Ok, Err}
use Rattle.table.specs.declared.Shape.{Shape}
use Rattle.table.specs.declared.Refusal.{Refusal}
use Rattle.table.specs.declared.walk.Walk.{Walk}
use Rattle.table.specs.declared.walk.Step.{Step}
use Rattle.table.specs.declared.walk.Step.TheVariants.{On, Done}
use Rattle.table.specs.Fields.{word_at, task_at, use_at}
use Rattle.table.specs.Rules.{task_rule, use_rule, with_task, with_use, stands}
use Rattle.table.specs.Reading.{start_walk, user_at, onward, step_at, read_from, read_table}
use Rattle.table.specs.Sound.{Sound}
use Rattle.table.proofs.Laws.{place_within}
use Rattle.table.proofs.Told.{use_stands}
use Rattle.table.proofs.Walked.{step_on, step_kept}

-- ---- a step leaves a sound walk

module _ (s : List ℕ) (bytes : (i : ℕ) → get_or s i 0 < 256) where
  -- a word fits its type
  word_small : (i : ℕ) → word_at s i < 2 ^ 32
  unfolding word_at
  word_small i = omega (arith, bytes i, bytes (i + 1), bytes (i + 2), bytes (i + 3))

  sound_task : (w : Walk) → Sound s w → get_or s w.at 0 ≡ 1 → w.at + 20 ≤ length s → task_rule w (task_at s w.at) ≡ stands
      → Sound s (with_task w (task_at s w.at))
  sound_task w g k room e = record { within = room; behind = omega (arith, g.behind); user = omega (arith, g.user); small = g.small }

  sound_use : (w : Walk) → Sound s w → get_or s w.at 0 ≡ 2 → w.at + 8 ≤ length s
      → use_rule w (use_at s w.at) (user_at s w) (word_at s (20 * user_at s w + 4)) ≡ stands → Sound s (with_use w (use_at s w.at) (user_at s w))
  sound_use w g k room e =
      let run = 20 * user_at s w + 4 in
      let st = use_stands w (use_at s w.at) (user_at s w) (word_at s run) e in
      record {
        within = room;
        behind = omega (arith, g.behind);
        user = omega (arith, g.user, place_within (w.tasks - w.user) s w.user (use_at s w.at).priority);
        small = omega (arith, st.sum, word_small run);
      }

  pub sound_next : (w n : Walk) → Sound s w → step_at s w ≡ Ok (On n) → Sound s n × (w.at < n.at)
  sound_next w n g e = (step_kept s (Sound s) sound_task sound_use w g n e, step_on s w n e)

-- ---- a turn of the loop

pub record Going (s : List ℕ) (w : Walk) : Type 0 where
  pub sound : Sound s w
  pub fuel : ℕ
  pub enough : length s < w.at + fuel
  pub same : read_from fuel s w ≡ read_table s

pub going_start : (s : List ℕ) → Going s start_walk
going_start s = record {
  sound = record { within = omega arith; behind = omega arith; user = omega arith; small = omega arith };
  fuel = length s + 1;
  enough = omega arith;
  same = refl;
}

-- one turn of the definition: the fuel is not used up, since the place is within the bytes
record Turned (s : List ℕ) (w : Walk) (r : Result Step Refusal) : Type 0 where
  fuel : ℕ
  enough : length s < w.at + suc fuel
  same : onward r (read_from fuel s) ≡ read_table s

turned_from : (k : ℕ) (s : List ℕ) (w : Walk) (r : Result Step Refusal) → length s < w.at + k → w.at ≤ length s → read_from k s w ≡ read_table s
    → r ≡ step_at s w → Turned s w r
unfolding read_from
turned_from zero s w r e h same st = absurd (omega arith)
turned_from (suc k) s w r e h same st = record { fuel = k; enough = e; same = ap (λ (t : Result Step Refusal). onward t (read_from k s)) st ∙ same }

module _ (s : List ℕ) (w : Walk) (r : Result Step Refusal) (g : Going s w) (st : r ≡ step_at s w) where
  turned : Turned s w r
  turned = turned_from g.fuel s w r g.enough g.sound.within g.same st

  -- further on
  pub going_further : (n : Walk) → r ≡ Ok (On n) → w.at < n.at
  going_further n e = step_on s w n (sym st ∙ e)

  -- to such a walk again
  pub going_on : ((i : ℕ) → get_or s i 0 < 256) → (n : Walk) → r ≡ Ok (On n) → Going s n
  going_on bytes n e =
      let t = turned in
      let f = sound_next s bytes w n g.sound (sym st ∙ e) in
      record {
        sound = f.0;
        fuel = t.fuel;
        enough = omega (arith, t.enough);
        same = ap (λ (x : Result Step Refusal). onward x (read_from t.fuel s)) (sym e) ∙ t.same;
      }

  -- to the end, or to a refusal
  pub going_done : (h : Shape) → r ≡ Ok (Done h) → Ok h ≡ read_table s
  going_done h e = let t = turned in ap (λ (x : Result Step Refusal). onward x (read_from t.fuel s)) (sym e) ∙ t.same

  pub going_refused : (f : Refusal) → r ≡ Err f → Err f ≡ read_table s
  going_refused f e = let t = turned in ap (λ (x : Result Step Refusal). onward x (read_from t.fuel s)) (sym e) ∙ t.same
