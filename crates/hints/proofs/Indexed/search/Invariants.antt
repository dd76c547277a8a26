-- The invariant: what is left to search is the table from this place on.
use Prim.Native.Nat.{◌+◌}
use mathlib.Core.Path.{◌≡◌}
use lib.ListN.{drop}
use Rattle.lists.specs.Lists.{find}
use Rattle.hints.specs.Hints.{ids_of, is_id}
use Rattle.hints.proofs.Indexed.search.Given as goal

abbrev pub invariant-loop-place : goal.invariant-loop-place
invariant-loop-place g l =
    find (is_id l.id) (ids_of g.row.WIDTH g.row.PLACES l.self.words.now)
    ≡ l.place + find (is_id l.id) (drop l.place (ids_of g.row.WIDTH g.row.PLACES l.self.words.now))
