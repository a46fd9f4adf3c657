-- Each step of `harness::any::AnyChecksum::with_bytes` adds one byte.
use Rattle.std.proofs.Common.{rules, ◌≡◌, [], ◌∷◌, refl, ap, ◌∙◌, sym}
use Rattle.std.proofs.lemmas.Fn.{fold_over, fronts, slice_gives}
use Rattle.std.proofs.lemmas.List.Sums.{fold-append}
use Rattle.harness.specs.declared.any.AnyChecksum.{AnyChecksum}
use Rattle.harness.specs.Sums.{after_number, after_numbers}
use Rattle.harness.proofs.any.AnyChecksum.with_bytes.Goals as goal

pub returns : goal.returns
returns c =
    let from = c.args.self.value in
    let ran = fold_over fronts (λ y. y.now) _ (λ ys (a : AnyChecksum). a.value ≡ after_numbers from ys) _
    (λ ys a x b f' before call.
    let step : b.value ≡ after_number a.value x.now = search rules in
    (step ∙ ap (λ h. after_number h x.now) before ∙ sym (fold-append after_number from ys (x.now ∷ [])), search rules))
    c.iter.result c.iter.result.rest.now _ _ (slice_gives c.iter.result) refl c.fold.ensures.ran in
    ran ∙ ap (after_numbers from) c.iter.ensures.rest
