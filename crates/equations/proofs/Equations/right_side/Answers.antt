-- What is left of `equations::Equations::right_side`.
use mathlib.Core.Path.{ap, ◌∙◌}
use native.Mathlib.Omega.{arith}
use Rattle.table.specs.declared.Task.{Task}
use Rattle.equations.proofs.Sided.{picking, parts_most, side_is}
use Rattle.equations.proofs.Equations.right_side.Goals as goal

pub two_sums-sums-requires : goal.two_sums-sums-requires
two_sums-sums-requires c =
    let E = c.args.self.now in
    let T = E.table in
    let K = c.args.kept.now in
    picking T.bytes.now T.shape T.well_formed T.are_bytes E.settings.now c.args.vector.now K.words K.count c.args.query c.args.t c.requires

pub overflow_add-query : goal.overflow_add-query
overflow_add-query c =
    let E = c.args.self.now in
    let T = E.table in
    let K = c.args.kept.now in
    let small = parts_most T.bytes.now T.shape T.well_formed T.are_bytes E.settings.now c.args.vector.now K.words K.count c.args.query c.args.t c.requires
    c.two_sums-sums.result c.two_sums-sums.ensures in
    omega arith

pub overflow_add-result-2 : goal.overflow_add-result-2
overflow_add-result-2 c =
    let E = c.args.self.now in
    let T = E.table in
    let K = c.args.kept.now in
    let small = parts_most T.bytes.now T.shape T.well_formed T.are_bytes E.settings.now c.args.vector.now K.words K.count c.args.query c.args.t c.requires
    c.two_sums-sums.result c.two_sums-sums.ensures in
    let run = c.from.ensures ∙ ap (λ (t : Task). t.run) c.task-task.ensures in
    let sleep = c.from-2.ensures ∙ ap (λ (t : Task). t.sleep) c.task-task.ensures in
    omega (arith, run, sleep)

pub overflow_add-result-3 : goal.overflow_add-result-3
overflow_add-result-3 c =
    let E = c.args.self.now in
    let T = E.table in
    let K = c.args.kept.now in
    let small = parts_most T.bytes.now T.shape T.well_formed T.are_bytes E.settings.now c.args.vector.now K.words K.count c.args.query c.args.t c.requires
    c.two_sums-sums.result c.two_sums-sums.ensures in
    let run = c.from.ensures ∙ ap (λ (t : Task). t.run) c.task-task.ensures in
    let sleep = c.from-2.ensures ∙ ap (λ (t : Task). t.sleep) c.task-task.ensures in
    omega (arith, run, sleep, c.additions-added.ensures.1)

pub returns : goal.returns
returns c =
    let E = c.args.self.now in
    let T = E.table in
    let K = c.args.kept.now in
    let small = parts_most T.bytes.now T.shape T.well_formed T.are_bytes E.settings.now c.args.vector.now K.words K.count c.args.query c.args.t c.requires
    c.two_sums-sums.result c.two_sums-sums.ensures in
    let run = c.from.ensures ∙ ap (λ (t : Task). t.run) c.task-task.ensures in
    let sleep = c.from-2.ensures ∙ ap (λ (t : Task). t.sleep) c.task-task.ensures in (
      side_is T.bytes.now T.shape T.well_formed T.are_bytes E.settings.now c.args.vector.now K.words K.count c.args.query c.args.t c.requires
          c.from.result c.from-2.result c.max-blocking.result c.additions-added.result c.two_sums-sums.result c.two_sums-sums.ensures run sleep
          c.max-blocking.ensures c.additions-added.ensures.0,
      omega (arith, run, sleep, c.additions-added.ensures.1),
    )
