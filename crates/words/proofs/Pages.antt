-- Texts put on a page one after the other are their texts put together.
use Rattle.std.proofs.Common.{◌≡◌, ℕ, ◌+◌, ◌-◌, List, [], ◌++◌, length, drop, append_assoc, arith, length-append, length-drop, ◌≤◌, take, sym, ap, ap₂, ◌∙◌}
use lib.ListN.{take-append-drop}
use Rattle.words.specs.declared.page.Page.{Page}
use Rattle.words.specs.Pages.{sheet, Puts}
use Rattle.words.specs.Writing.{Put}
use Rattle.std.proofs.lemmas.Grind.{common_steps}
use Rattle.words.specs.Sheet.{Sheet, onward}

-- a text put after another: both together
pub onward_on : (s : Sheet) (t u : List ℕ) → onward (onward s t) u ≡ onward s (t ++ u)
unfolding onward
onward_on s t u = grind (arith, common_steps)

-- no text put: the page stays
pub onward_none : (s : Sheet) → onward s [] ≡ s
unfolding onward
onward_none s = grind (arith, common_steps)

-- a text takes its length of the room
pub room_onward : (s : Sheet) (t : List ℕ) → length (onward s t).rest ≡ length s.rest - length t
unfolding onward
room_onward s t = length-drop (length t) s.rest

-- what a text does to the buffer: it stands at the place, what stood before and after it stays, and the place is the one after it
pub puts_put : (p q : Page) (t : List ℕ) → Puts p t q → Put p.out.now p.at t q.out.now q.at
unfolding sheet onward
puts_put p q t h =
    let front : take q.at q.out.now ≡ take p.at p.out.now ++ t = ap (λ (s : Sheet). s.put) h in
    let rest : drop q.at q.out.now ≡ drop (length t) (drop p.at p.out.now) = ap (λ (s : Sheet). s.rest) h in
    let sized : length (take q.at q.out.now) ≡ length (take p.at p.out.now ++ t) = ap length front in
    record {
      end = grind (arith, common_steps, sized, p.within, q.within);
      holds = sym (take-append-drop q.at q.out.now) ∙ rw (front, rest) (grind (arith, common_steps));
    }

-- the laws of pages
pub ruleset pages = (onward_on, onward_none, room_onward, length-append, append_assoc)
