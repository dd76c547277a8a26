-- `store_action` meets its contract: the discard of an ignored signal, and the action. Assumes nothing.
use mathlib.Core.Path.{sym, ◌∙◌}
use Rattle.effects.proofs.Makes.{ready-as, made_as, ready-first, ready-last, made-last}
use Rattle.effects.proofs.Stores.{stores-not-ignored, stores_both}
use Rattle.effects.proofs.store_action.Goals as goal
use Rattle.effects.proofs.store_action.Goals.{then-is_ignored, else-is_ignored}

pub discard-requires : goal.discard-requires
discard-requires c =
    ready-first c.requires
    (stores_both c.args.process c.args.signal c.args.a
    (sym c.is_ignored.ensures ∙ c.if-is_ignored.true) c.of_signal.result c.of_signal.ensures)

pub set_action-requires : goal.set_action-requires
set_action-requires c =
    elim c.if-is_ignored.branch [
      | then-is_ignored w ↦
          rw (w.ps-is, w.ts-is, w.tb-is, w.pb-is)
          (ready-last c.requires w.discard.ensures
          (stores_both c.args.process c.args.signal c.args.a (sym c.is_ignored.ensures ∙ w.if-is_ignored.true)
          w.of_signal.result w.of_signal.ensures))
      | else-is_ignored w ↦
          rw (w.ps-is, w.ts-is, w.tb-is, w.pb-is)
          (ready-as c.requires
          (stores-not-ignored c.args.process c.args.signal c.args.a
          (sym c.is_ignored.ensures ∙ w.if-is_ignored.false)))
    ]

pub returns : goal.returns
returns c =
    elim c.if-is_ignored.branch [
      | then-is_ignored w ↦
          rw (w.ts-is, w.tb-is, w.pb-is)
          (made-last w.discard.ensures (rw (w.ps-is, w.ts-is, w.tb-is, w.pb-is) at c.set_action.ensures)
          (stores_both c.args.process c.args.signal c.args.a (sym c.is_ignored.ensures ∙ w.if-is_ignored.true)
          w.of_signal.result w.of_signal.ensures))
      | else-is_ignored w ↦
          rw (w.ts-is, w.tb-is, w.pb-is)
          (made_as (rw (w.ps-is, w.ts-is, w.tb-is, w.pb-is) at c.set_action.ensures)
          (stores-not-ignored c.args.process c.args.signal c.args.a
          (sym c.is_ignored.ensures ∙ w.if-is_ignored.false)))
    ]
