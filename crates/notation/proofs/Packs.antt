-- Laws for the answer of pack and the lent buffer after it.
use Prim.Native.Nat.{ℕ, ◌≤◌}
use mathlib.Core.Path.{◌≡◌, sym, ap, subst, ◌∙◌}
use mathlib.Core.List.{List, ◌++◌}
use native.Mathlib.Nat.{zero-add}
use native.Mathlib.Omega.{arith}
use lib.ListN.{length, drop}
use borrow.Author.Tests.{le-ltb}
use Rattle.words.specs.Text.{fitted}
use Rattle.words.specs.Writing.{Put}
use Rattle.std.proofs.Common.{Result, Ok, Err}
use Rattle.notation.specs.declared.Fault.{Fault as NamedFault}
use Rattle.notation.specs.Numbered.{Packing, Packed, fault_of, packing_of}
use Rattle.notation.specs.Packing.{Outcome, pack_text, pack_into}
use Rattle.notation.specs.Faults.{fault_line, printed_by, pack_printed}
use Rattle.notation.proofs.Answers.{packed_accepted, faulty_nothing, bytes_most}

-- an answer, and the buffer after it
abbrev pub Answered : Outcome → List ℕ → Result ℕ NamedFault → List ℕ → Type 0
Answered o out r after = (packing_of r ≡ o.packing) × (after ≡ o.bytes ++ drop (length o.bytes) out)

-- ---- what the program prints

module _ (s out after : List ℕ) (r : Result ℕ NamedFault) (room : 8192 ≤ length out) (told : Answered (pack_into (length out) s) out r after) where
  -- there is room for every table
  roomy : pack_into (length out) s ≡ pack_text s
  roomy = rw (le-ltb (length out) (length (pack_text s).bytes) (omega (arith, room, bytes_most s)))

  -- so the answer and the buffer are those of the text
  plain : Answered (pack_text s) out r after
  plain = subst (λ (o : Outcome). Answered o out r after) roomy told

  -- the bytes of a table
  pub reply_packed : (n : ℕ) → r ≡ Ok n → Put out 0 (pack_printed s) after n
  reply_packed n e =
      let known : (pack_text s).packing ≡ Packed n = sym plain.0 ∙ ap packing_of e in
      let counted = packed_accepted s n known in
      subst (λ (x : Packing). Put out 0 (printed_by x s (pack_text s).bytes) after n) (sym known)
      (record { end = omega (arith, counted.2); holds = plain.1 ∙ ap (λ (k : ℕ). (pack_text s).bytes ++ drop k out) (sym (zero-add (length (pack_text s).bytes))) })

  -- a fault leaves the buffer, and its line is printed
  pub reply_kept : (f : NamedFault) → r ≡ Err f → after ≡ out
  reply_kept f e = plain.1 ∙ ap (λ (x : List ℕ). x ++ drop (length x) out) (faulty_nothing s (fault_of f) (sym plain.0 ∙ ap packing_of e))

  pub reply_faulty : (f : NamedFault) (end : List ℕ) (n : ℕ) → r ≡ Err f → Put after 0 (fitted 256 (length after) (fault_line s (fault_of f))) end n
      → Put out 0 (fitted 8192 (length out) (pack_printed s)) end n
  reply_faulty f end n e p =
      let line = fault_line s (fault_of f) in
      let told : Put out 0 (fitted 256 (length out) line) end n = subst (λ (x : List ℕ). Put x 0 (fitted 256 (length x) line) end n) (reply_kept f e) p in
      rw (le-ltb (length out) 8192 room)
      (subst (λ (x : Packing). Put out 0 (printed_by x s (pack_text s).bytes) end n) (sym (ap packing_of e) ∙ plain.0)
      (rw (le-ltb (length out) 256 (omega arith)) at told))
