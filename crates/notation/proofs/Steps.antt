-- Laws for the steps of packing: the records so far with an end behind them, and what the reader says of them.
use Prim.Native.Nat.{ℕ, ◌+◌, ◌*◌, ◌≤◌, ◌<◌}
use mathlib.Core.Path.{◌≡◌, refl, sym, ap, subst, ◌∙◌}
use mathlib.Core.List.{List, [], ◌∷◌, ◌++◌}
use native.Mathlib.Numerals.{add-one}
use native.Mathlib.Omega.{arith}
use lib.ListN.{length, take, set, length-append, length-set}
use lib.Seq.{take-suc-set, take-set-le, length-take-le}
use Rattle.table.specs.Reading.{Reading}
use Rattle.std.specs.Prelude.{Ok, Err}
use Rattle.table.specs.declared.Refusal.{Refusal}
use Rattle.table.specs.declared.Shape.{Shape}
use Rattle.table.specs.Reading.{read_table}
use Rattle.table.proofs.Accepted.{well_formed}
use Rattle.notation.specs.declared.Fault.{Fault as NamedFault}
use Rattle.notation.specs.declared.stepping.Position.{Position}
use Rattle.notation.specs.declared.rows.Taken.{Taken}
use Rattle.notation.specs.Numbered.{Packed, Faulty, fault_of}
use Rattle.notation.specs.Packing.{Outcome, whole, packed, past, ended, end_of, judged}
use Rattle.notation.specs.Stepping.{Ready, Judgeable, Stepped, PackedTo, judged_of}

-- an end behind the first n bytes of a buffer
pub ended_front : (b : List ℕ) (n : ℕ) → n < length b → take (n + 1) (set b n 3) ≡ take n b ++ 3 ∷ []
ended_front b n l = rw add-one (take-suc-set b n 3 l)

-- and how long they are with it
pub ended_length : (b : List ℕ) (n : ℕ) → n < length b → length (take n b ++ 3 ∷ []) ≡ n + 1
ended_length b n l = length-append (take n b) (3 ∷ []) ∙ ap (λ (k : ℕ). k + 1) (length-take-le n b (omega arith))

-- a fault of the whole text has no bytes
pub whole_to : (line cause : ℕ) (b : List ℕ) (f : NamedFault) → Faulty (fault_of f) ≡ (whole line cause).packing → PackedTo (whole line cause) b (Err f)
whole_to line cause b f e = record { same = e; front = refl; count = refl; few = omega arith }

-- the end of a text whose records are accepted
pub end_accepted : (w : Position) (b : List ℕ) (r : Reading) (h : Shape) → 4800 ≤ length b → w.count ≤ 4736
    → r ≡ read_table (take (w.count + 1) (set b w.count 3)) → r ≡ Ok h
    → PackedTo (end_of w (take w.count b)) (set b w.count 3) (Ok (w.count + 1))
unfolding end_of
end_accepted w b r h room few told known =
    let n = w.count in
    let l : n < length b = omega arith in
    let s = take n b ++ 3 ∷ [] in
    let reads : read_table s ≡ Ok h = ap read_table (sym (ended_front b n l)) ∙ sym told ∙ known in
    let long = ended_length b n l in
    let meant : packed s ≡ ended (read_table s) w s = ap (λ (x : Reading). ended x w s) (sym reads) in
    subst (λ (o : Outcome). PackedTo o (set b n 3) (Ok (n + 1))) meant
    (record {
      same = ap Packed (sym long);
      front = ap (λ (k : ℕ). take k (set b n 3)) long ∙ ended_front b n l;
      count = refl;
      few = omega arith;
    })

-- and of one whose records are not
pub end_refused : (w : Position) (b : List ℕ) (r : Reading) (f : Refusal) (p : NamedFault) → 4800 ≤ length b → w.count ≤ 4736
    → r ≡ read_table (take (w.count + 1) (set b w.count 3)) → r ≡ Err f → Faulty (fault_of p) ≡ (whole w.line 17).packing
    → PackedTo (end_of w (take w.count b)) (set b w.count 3) (Err p)
unfolding end_of
end_refused w b r f p room few told known e =
    let n = w.count in
    let l : n < length b = omega arith in
    let s = take n b ++ 3 ∷ [] in
    let reads : read_table s ≡ Err f = ap read_table (sym (ended_front b n l)) ∙ sym told ∙ known in
    subst (λ (o : Outcome). PackedTo o (set b n 3) (Err p)) (ap (λ (x : Reading). ended x w s) (sym reads)) (whole_to w.line 17 (set b n 3) p e)

-- ---- a record that was put after those before it

-- what an accepted front with an end says of its length
front_sized : (b : List ℕ) (n : ℕ) (h : Shape) → n < length b → read_table (take n b ++ 3 ∷ []) ≡ Ok h → (n ≤ 4736) × (20 * h.tasks ≤ n)
front_sized b n h l e =
    let f = well_formed (take n b ++ 3 ∷ []) h e in
    let long = ended_length b n l in
    (omega (arith, f.whole, f.start, f.tasks_most, f.uses_most), omega (arith, f.whole, f.start))

module _ (s : List ℕ) (w : Position) (b : List ℕ) (taken : Taken) (ready : Ready s w b) (g : Judgeable s w b taken) where
  -- there is room for the end
  pub judge_room : taken.count < length b
  judge_room = omega (arith, ready.room, ready.few, g.few)

  -- the reader accepts the records: on to the next line
  pub judge_on : (r : Reading) (h : Shape) (n : Position) → r ≡ read_table (take (taken.count + 1) (set b taken.count 3)) → r ≡ Ok h
      → n ≡ past s w taken.at taken.count h.tasks → n.at ≤ length s + 1 → Stepped s w (judged_of s w taken b) (set b taken.count 3) (Ok n)
  judge_on r h next told known is within =
      let n = taken.count in
      let front = take n b in
      let reads : read_table (front ++ 3 ∷ []) ≡ Ok h = ap read_table (sym (ended_front b n judge_room)) ∙ sym told ∙ known in
      let sized = front_sized b n h judge_room reads in
      let long : length front ≡ n = length-take-le n b (omega (arith, judge_room)) in
      let at = ap (λ (x : Position). x.at) is in
      let line = ap (λ (x : Position). x.line) is in
      let count = ap (λ (x : Position). x.count) is in
      let tasks = ap (λ (x : Position). x.tasks) is in
      subst (λ (x : Reading). Stepped s w (judged x s w taken.at front) (set b n 3) (Ok next)) (sym reads)
      (record {
        same = is ∙ ap (λ (k : ℕ). past s w taken.at k h.tasks) (sym long);
        holds = ap (λ (k : ℕ). take k (set b n 3)) count ∙ take-set-le n b n 3 (omega arith);
        ready = record {
          room = omega (arith, ready.room, length-set b n 3);
          few = omega (arith, count, sized.0);
          tasks = omega (arith, count, tasks, sized.1);
          text = ready.text;
          within = within;
          line = omega (arith, ready.line, g.at, at, line);
        };
        further = omega (arith, g.at, at);
      })
