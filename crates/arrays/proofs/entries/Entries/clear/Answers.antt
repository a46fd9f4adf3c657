-- What is left of `arrays::entries::Entries::clear`.
use Rattle.std.proofs.Common.{◌≡◌, ◌+◌, ◌-◌, ◌*◌, length, replicate, ap, ◌∙◌, arith, rules, length-take, length-drop}
use borrow.Rule.Slice.PartMut.{mid_of}
use Rattle.arrays.proofs.Counting.{cleared}
use Rattle.arrays.proofs.entries.Entries.clear.Goals as goal

pub returns-clause-cleared : goal.returns-clause-cleared
returns-clause-cleared c =
    let a = c.args.self.now.opened in
    let i = c.index-first.result in
    let n = i * 16 + 16 - i * 16 in
    let long : length a ≡ 512 = search rules in
    let part : length (mid_of (i * 16) n a) ≡ n = simp (length-take, length-drop) (omega arith) in
    rw (← c.index-first.ensures.0) (cleared a c.fill.new.self i n c.index-first.ensures.1 long (omega arith) (c.fill.ensures.after (λ y e. e) ∙ ap (λ k. replicate k 0) part))
