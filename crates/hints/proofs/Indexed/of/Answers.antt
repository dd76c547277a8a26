use Prim.Native.Nat.{◌*◌}
use mathlib.Core.Path.{sym, subst, ◌∙◌}
use native.Mathlib.Omega.{arith}
use borrow.Author.Rules.{rules}
use lib.ListN.{get_or}
use Rattle.hints.proofs.Table.{Filling, filling-noted}
use Rattle.hints.proofs.Indexed.of.Goals as goal
use Rattle.hints.proofs.Indexed.of.Goals.{then-id-ne0, else-id-ne0}

pub loop-place-init : goal.loop-place-init
loop-place-init g c = (search rules, c.requires.hinted)

pub loop-place-preserved : goal.loop-place-preserved
loop-place-preserved g c =
    elim c.if-id-ne0.branch [
      | then-id-ne0 w ↦
          filling-noted g.row.PLACES c.loop-place.hints c.if-id-ne0.hints
          (get_or c.args.words.now (c.loop-place.place * g.row.WIDTH) 0) c.loop-place.place c.loop-place.invariant
          (omega arith) (w.hints-is ∙ w.note.ensures)
      | else-id-ne0 w ↦ subst (Filling g.row.PLACES) (sym w.hints-is) c.loop-place.invariant
    ]
