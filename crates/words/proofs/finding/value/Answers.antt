-- What is left of `words::finding::value`.
use Rattle.std.proofs.Common.{◌≡◌, ◌∙◌, rules}
use Rattle.std.specs.List.{fold}
use Rattle.words.specs.Finding.{with_digit}
use Rattle.words.proofs.Words.{value_folds}
use Rattle.words.proofs.finding.value.Goals as goal

pub returns : goal.returns
returns c =
    let folded : c.fold.result ≡ fold with_digit 0 c.args.word.now = search rules in
    folded ∙ value_folds 0 c.args.word.now
