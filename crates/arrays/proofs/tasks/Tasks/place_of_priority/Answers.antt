-- What is left of `arrays::tasks::Tasks::place_of_priority`.
use Rattle.std.proofs.Common.{◌≤◌, length, take, rules}
use Rattle.std.proofs.iter.runs.Made.{chains}
use Rattle.arrays.proofs.Turns.{FirstOf, found_first}
use Rattle.arrays.proofs.tasks.Tasks.place_of_priority.Goals as goal

pub returns-clause-found : goal.returns-clause-found
returns-clause-found c =
    let t = c.args.self.now in
    let within : t.count ≤ length t.priorities = search rules in
    let found : FirstOf (take t.count t.priorities) c.args.priority c.map.result = search (rules, chains) in
    found_first t.priorities c.args.priority t.count c.map.result within found
