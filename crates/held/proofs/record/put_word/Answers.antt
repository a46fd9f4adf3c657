-- What is left of `held::record::put_word`.
use lib.ListN.{take, drop}
use lib.Seq.{take-length}
use mathlib.Core.List.{List, ◌++◌}
use mathlib.Core.Path.{refl, sym, ap, ◌∙◌}
use native.Mathlib.Omega.{arith}
use Prim.Native.Nat.{ℕ, ◌+◌}
use Rattle.std.proofs.lemmas.List.Edits.{sets-eq}
use Rattle.std.proofs.lemmas.Slice.{put_mid-paste}
use Rattle.held.specs.Writing.{word_bytes}
use Rattle.held.proofs.record.put_word.Goals as goal

pub returns : goal.returns
returns c =
    let b = c.args.buffer.now in
    let w = word_bytes c.args.word in
    put_mid-paste c.args.at _ b _ w 4 (c.copy_from_slice.ensures.after ∙ c.to_le_bytes.ensures) (omega arith) refl
    ∙ ap (λ (x : List ℕ). take c.args.at b ++ x ++ drop (c.args.at + 4) b) (take-length w) ∙ sym (sets-eq w b c.args.at c.requires)
