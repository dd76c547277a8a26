-- `block_zero` meets its contract. Assumes nothing.
use Rattle.std.proofs.Common.{◌∙◌, ap, sym, ◌&&◌}
use Rattle.lists.proofs.Loops.{all_none}
use Rattle.zeros.proofs.Zeros.{all-more}
use Rattle.zeros.proofs.block_zero.Goals as goal

pub loop-w-init : goal.loop-w-init
loop-w-init g c =
    ap g.T.Word.is_zero c.ZERO-some.ensures
    ∙ g.met.T.Word.zero_is_zero
    ∙ sym (all_none g.T.Word.is_zero c.ZERO-some.result c.args.ws.now)

pub loop-w-preserved : goal.loop-w-preserved
loop-w-preserved g c =
    c.or-some.ensures
    ∙ ap (λ b. b && g.T.Word.is_zero c.w-item.result) c.loop-w.invariant
    ∙ sym (all-more g.T.Word.is_zero c.args.ws.now c.loop-w.w-index c.w-item.result c.loop-w-test.true c.w-item.is)
