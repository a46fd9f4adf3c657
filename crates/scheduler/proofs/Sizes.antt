-- The lengths of a scheduler's arrays.
use mathlib.Core.Path.{◌≡◌, sym, ◌∙◌}
use mathlib.Core.List.{List, [], ◌∷◌, map}
use Prim.Native.Nat.{ℕ}
use lib.ListN.{length, length-map}
use borrow.Author.Rules.{rules}
use denote.Laws.{Is}
use denote.Struct.Declared.{row}
use denote.Struct.Laws.{val}
use Rattle.scheduler.specs.contracts.Scheduler.{the_type}
use Rattle.scheduler.proofs.Scheduler.TheLaws.{the_laws}
use Rattle.scheduler.specs.declared.Scheduler.{Scheduler}
use Rattle.scheduler.specs.View.{Sized}

-- a field's list is as long as the array, where what is known of it stands at a map
long : (X Y : Type 0) (f : X → Y) (l : List X) (n : ℕ) → length (map f l) ≡ n → length l ≡ n
long X Y f l n e = sym (length-map l f) ∙ e

-- a value of the struct has its arrays' lengths
pub sized : (s : Scheduler) → Is (row the_type) s (val the_type the_laws s ∷ []) → Sized s
sized s g = record {
  priorities = search (rules, long);
  settings = search (rules, long);
  most = search (rules, long);
  uses = search (rules, long);
  states = search (rules, long);
  started = search (rules, long);
  sleeps = search (rules, long);
  opened = search (rules, long);
  held = search (rules, long);
  serials = search (rules, long);
  places = search (rules, long);
  resources = search (rules, long);
}
