-- What is left of `notation::showing::put_shown`.
use mathlib.Core.Path.{sym, ◌∙◌}
use Rattle.held.proofs.Loads.{counts_fit}
use Rattle.notation.proofs.showing.put_shown.Goals as goal

pub put_table-requires : goal.put_table-requires
put_table-requires c =
    let fit = counts_fit c.args.bytes.now _ (sym c.read.ensures ∙ c.in-Ok.is) in
    (fit.0, fit.1, fit.2, c.requires)
