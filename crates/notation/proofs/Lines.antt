-- Laws for one line of a text, and for packing line by line.
use Prim.Native.Nat.{ℕ, zero, suc, ◌+◌, ◌≤◌, ◌<◌}
use mathlib.Core.Path.{◌≡◌, refl, sym, ap, subst, ◌∙◌}
use mathlib.Core.Bool.{Bool, cond}
use mathlib.Core.List.{List, [], ◌∷◌, ◌++◌, append-nil}
use native.Mathlib.Omega.{arith}
use lib.ListN.{length, take}
use borrow.Author.Tests.{ne_eqb, le-leb, lt-leb, le-ltb, lt-ltb}
use Rattle.std.proofs.Common.{Result, Ok, Err}
use Rattle.table.specs.Reading.{read_table}
use Rattle.words.proofs.Puts.{put_front, put_length}
use Rattle.notation.specs.declared.Fault.{Fault as NamedFault}
use Rattle.notation.specs.declared.rows.Misfit.{Misfit}
use Rattle.notation.specs.declared.stepping.Position.{Position}
use Rattle.notation.specs.declared.rows.Taken.{Taken}
use Rattle.notation.specs.Causes.{cause_number}
use Rattle.notation.specs.Columns.{column_or_none}
use Rattle.notation.specs.Numbered.{Faulty, fault_of}
use Rattle.notation.specs.Rows.{Row, row_at}
use Rattle.notation.specs.Taking.{TakenPut}
use Rattle.notation.specs.Packing.{longest, Outcome, whole, Step, on, over, past, judged, line_step, end_of, step_at, onward, pack_from, start, pack_text}
use Rattle.notation.specs.Stepping.{Ready, Judgeable, Stepped, PackedTo, judged_of}
use Rattle.notation.proofs.Steps.{whole_to}
use Rattle.notation.proofs.Froms.{row_from, row_few}

-- a list of no length is empty
pub empty_list : (l : List ℕ) → length l ≡ 0 → l ≡ []
empty_list [] e = refl
empty_list (x ∷ l) e = absurd (omega (arith, e))

-- ---- one line

-- a line at fault
pub line_fault : (s : List ℕ) (w : Position) (b b₁ : List ℕ) (m : Misfit) (f : NamedFault) → TakenPut s (row_at s w.at) b w.count b₁ (Err m)
    → fault_of f ≡ record { line = w.line; cause = cause_number m.cause; column = column_or_none m.column; at = m.at; value = 0; other = 0 }
    → Stepped s w (line_step s w (take w.count b)) b₁ (Err f)
unfolding line_step
line_fault s w b b₁ m f put is =
    let row = row_at s w.at in
    let read = put.read in
    rw (ne_eqb row.cause 0 (λ e. omega (arith, read.some, e)))
    (record {
      same = ap Faulty is ∙ (λ i. Faulty (record { line = w.line; cause = sym read.cause i; column = sym read.named i; at = sym read.at i; value = 0; other = 0 }));
      front = refl;
      count = refl;
      few = omega arith;
    })

module _ (s : List ℕ) (w : Position) (b b₁ : List ℕ) (taken : Taken) (ready : Ready s w b) (put : TakenPut s (row_at s w.at) b w.count b₁ (Ok taken)) where
  -- the row of the line
  abbrev row : Row
  row = row_at s w.at

  -- there is room for it
  room : w.count + length row.bytes ≤ length b
  room = omega (arith, row_few s w.at, ready.room, ready.few)

  -- the records before it, and its bytes
  front_is : take taken.count b₁ ≡ take w.count b ++ row.bytes
  front_is =
      ap (λ (n : ℕ). take n b₁) put.read.count ∙ put_front b w.count row.bytes b₁ (w.count + length row.bytes) (omega (arith, room)) put.put

  -- the buffer is as long as before
  pub line_room : length b₁ ≡ length b
  line_room = put_length b w.count row.bytes b₁ (w.count + length row.bytes) (omega (arith, room)) put.put

  -- the record may be judged
  pub line_judgeable : Judgeable s w b₁ taken
  line_judgeable = record {
    at = omega (arith, row_from s w.at, put.read.at);
    within = put.read.within;
    more = omega (arith, put.read.count);
    few = omega (arith, put.read.count, row_few s w.at);
  }

  -- nothing that is known between lines is lost
  pub line_ready : Ready s w b₁
  line_ready = record {
    room = omega (arith, ready.room, line_room);
    few = ready.few;
    tasks = ready.tasks;
    text = ready.text;
    within = ready.within;
    line = ready.line;
  }

  -- an empty line
  pub line_empty : (n : Position) → taken.count ≡ w.count → n ≡ past s w taken.at w.count w.tasks → n.at ≤ length s + 1
      → Stepped s w (line_step s w (take w.count b)) b₁ (Ok n)
  unfolding line_step
  line_empty n empty is within =
      let none : length row.bytes ≡ 0 = omega (arith, put.read.count) in
      let further = row_from s w.at in
      let at = ap (λ (x : Position). x.at) is in
      let line = ap (λ (x : Position). x.line) is in
      let count = ap (λ (x : Position). x.count) is in
      let tasks = ap (λ (x : Position). x.tasks) is in
      let here = put.read.at in
      rw (put.read.cause, none)
      (record {
        same = is ∙ ap (λ (x : ℕ). past s w x w.count w.tasks) (sym here);
        holds = ap (λ (k : ℕ). take k b₁) (count ∙ sym empty) ∙ front_is ∙ ap (λ (x : List ℕ). take w.count b ++ x) (empty_list row.bytes none) ∙ append-nil (take w.count b);
        ready = record {
          room = omega (arith, ready.room, line_room);
          few = omega (arith, ready.few, count);
          tasks = omega (arith, ready.tasks, count, tasks);
          text = ready.text;
          within = within;
          line = omega (arith, ready.line, at, line, here, further);
        };
        further = omega (arith, at, here, further);
      })

  -- a line with a record, as that is judged
  pub line_judged : (b₂ : List ℕ) (r : Result Position NamedFault) → (taken.count ≡ w.count → ⊥) → Stepped s w (judged_of s w taken b₁) b₂ r
      → Stepped s w (line_step s w (take w.count b)) b₂ r
  unfolding line_step
  line_judged b₂ r some =
      let filled : length row.bytes ≡ 0 → ⊥ = λ z. some (omega (arith, put.read.count)) in
      let all = take w.count b ++ row.bytes in
      let meant : judged_of s w taken b₁ ≡ judged (read_table (all ++ 3 ∷ [])) s w row.at all =
      ap (λ (x : List ℕ). judged (read_table (x ++ 3 ∷ [])) s w taken.at x) front_is
      ∙ ap (λ (a : ℕ). judged (read_table (all ++ 3 ∷ [])) s w a all) (sym put.read.at) in
      rw (put.read.cause, ne_eqb (length row.bytes) 0 filled) (subst (λ (x : Step). Stepped s w x b₂ r) meant)

-- ---- line by line

-- what is left to pack from here is what the whole text is packed as
pub record Going (s : List ℕ) (w : Position) (b : List ℕ) : Type 0 where
  pub ready : Ready s w b
  pub fuel : ℕ
  pub some : 1 ≤ fuel
  pub enough : length s < w.at + fuel
  pub same : pack_from fuel s w (take w.count b) ≡ pack_text s

-- before the first line
pub go_start : (s b : List ℕ) → length s ≤ longest → 4800 ≤ length b → Going s start b
unfolding pack_text
go_start s b l room = record {
  ready = record { room = room; few = omega arith; tasks = omega arith; text = l; within = omega arith; line = omega arith };
  fuel = length s + 1;
  some = omega arith;
  enough = omega arith;
  same = rw (le-ltb longest (length s) l);
}

-- a text that is too long
pub go_long : (s b : List ℕ) (f : NamedFault) → longest < length s → Faulty (fault_of f) ≡ (whole 1 18).packing → PackedTo (pack_text s) b (Err f)
unfolding pack_text
go_long s b f l e = rw (lt-ltb longest (length s) l) (whole_to 1 18 b f e)

-- the end of the text
end_from : (k : ℕ) (s : List ℕ) (w : Position) (b b₁ : List ℕ) (r : Result ℕ NamedFault) → 1 ≤ k → pack_from k s w (take w.count b) ≡ pack_text s → length s ≤ w.at
    → PackedTo (end_of w (take w.count b)) b₁ r → PackedTo (pack_text s) b₁ r
unfolding pack_from step_at
end_from zero s w b b₁ r some same h p = absurd (omega arith)
end_from (suc k) s w b b₁ r some same h p =
    subst (λ (o : Outcome). PackedTo o b₁ r)
    (ap (λ (x : Bool). onward (cond x (over (end_of w (take w.count b))) (line_step s w (take w.count b))) (pack_from k s)) (sym (le-leb (length s) w.at h)) ∙ same) p

pub go_end : (s : List ℕ) (w : Position) (b b₁ : List ℕ) (r : Result ℕ NamedFault) → Going s w b → length s ≤ w.at
    → PackedTo (end_of w (take w.count b)) b₁ r → PackedTo (pack_text s) b₁ r
go_end s w b b₁ r g h p = end_from g.fuel s w b b₁ r g.some g.same h p

-- one turn of the definition
turned : (k : ℕ) (s : List ℕ) (w : Position) (front : List ℕ) (x : Step) → w.at < length s → pack_from (suc k) s w front ≡ pack_text s → line_step s w front ≡ x
    → onward x (pack_from k s) ≡ pack_text s
unfolding pack_from step_at
turned k s w front x h same e =
    ap (λ (y : Step). onward y (pack_from k s)) (sym e)
    ∙ ap (λ (y : Bool). onward (cond y (over (end_of w front)) (line_step s w front)) (pack_from k s)) (sym (lt-leb (length s) w.at h)) ∙ same

-- what a step leaves: on, or the answer
abbrev Left : List ℕ → Position → List ℕ → Result Position NamedFault → Type 0
Left s w b (Ok n) = Going s n b × (w.at < n.at)
Left s w b (Err r) = PackedTo (pack_text s) b (Err r)

step_from : (k : ℕ) (s : List ℕ) (w : Position) (b b₁ : List ℕ) (x : Step) (t : Result Position NamedFault) → w.at < length s → length s < w.at + k
    → pack_from k s w (take w.count b) ≡ pack_text s → line_step s w (take w.count b) ≡ x → Stepped s w x b₁ t → Left s w b₁ t
step_from zero s w b b₁ x t h l same e p = absurd (omega arith)
step_from (suc k) s w b b₁ (on meant front) (Ok n) h l same e p =
    let rest : pack_from k s meant front ≡ pack_text s = turned k s w (take w.count b) (on meant front) h same e in (
      record {
        ready = p.ready;
        fuel = k;
        some = omega arith;
        enough = omega (arith, p.further);
        same = ap (λ (v : Position). pack_from k s v (take n.count b₁)) p.same ∙ ap (pack_from k s meant) p.holds ∙ rest;
      },
      p.further,
    )
step_from (suc k) s w b b₁ (on meant front) (Err r) h l same e p = absurd p
step_from (suc k) s w b b₁ (over o) (Ok n) h l same e p = absurd p
step_from (suc k) s w b b₁ (over o) (Err r) h l same e p =
    subst (λ (x : Outcome). PackedTo x b₁ (Err r)) (turned k s w (take w.count b) (over o) h same e) p

module _ (s : List ℕ) (w : Position) (b b₁ : List ℕ) (t : Result Position NamedFault) (g : Going s w b) (h : w.at < length s) (p : Stepped s w (line_step s w (take w.count b)) b₁ t) where
  pub go_left : Left s w b₁ t
  go_left = step_from g.fuel s w b b₁ (line_step s w (take w.count b)) t h g.enough g.same refl p

  pub go_on : (n : Position) → t ≡ Ok n → Going s n b₁ × (w.at < n.at)
  go_on n e = subst (Left s w b₁) e go_left

  pub go_last : (r : NamedFault) → t ≡ Err r → PackedTo (pack_text s) b₁ (Err r)
  go_last r e = subst (Left s w b₁) e go_left
