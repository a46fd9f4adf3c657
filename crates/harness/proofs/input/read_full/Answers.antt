-- A read puts its bytes behind those that were read before.
use Rattle.std.proofs.Common.{◌≡◌, ℕ, ◌+◌, ◌≤◌, List, ◌++◌, rules, arith, length, take, drop, ap, ◌∙◌, sym, subst, le_refl, drop_at, length-take-le}
use Rattle.std.proofs.lemmas.Slice.{take-put_mid_below}
use Rattle.std.specs.Io.KnownBytes.{Consumes}
use Rattle.std.proofs.KnownBytes.{Consumes-trans}
use borrow.Rule.Slice.PartMut.{put_mid, post_of}
use lib.Seq.{take-add, take-append-le}
use Rattle.harness.proofs.input.read_full.Goals as goal

-- the front of a buffer, and behind it what was put there
taken_put : (a k n : ℕ) (xs ys : List ℕ) → a ≤ length xs → n ≤ length ys → take (a + n) (put_mid a k xs ys) ≡ take a xs ++ take n ys
taken_put a k n xs ys within fits =
    let new = put_mid a k xs ys in
    let after = post_of a k xs in
    take-add a n new
    ∙ ap (λ l. l ++ take n (drop a new)) (take-put_mid_below _ _ _ _ _ (le_refl _) within)
    ∙ ap (λ l. take a xs ++ take n l) (drop_at (take a xs) (ys ++ after) a (length-take-le a xs within))
    ∙ ap (λ l. take a xs ++ l) (take-append-le n ys after fits)

pub loop-preserved : goal.loop-preserved
loop-preserved g c =
    let from = c.loop.count in
    let within = c.loop.invariant.1 in
    let bytes = c.in_ok-more.ensures.bytes in
    let bound = c.in_ok-more.ensures.bound in (
      omega (arith, c.if-more-eq0.false),
      search rules,
      search rules,
      subst (Consumes _ _) (sym (taken_put from _ c.in_ok-more.more c.loop.buffer c.read.new.buf within bound.0)) (Consumes-trans _ _ _ _ _ c.loop.invariant.3 bytes.0),
    )
