-- `all_zero` meets its contract. Assumes nothing.
use Rattle.std.proofs.Common.{◌∙◌, sym}
use Rattle.zeros.proofs.Zeros.{all-front, not-front}
use Rattle.zeros.proofs.all_zero.Goals as goal

pub returns-then-not-block_zero : goal.returns-then-not-block_zero
returns-then-not-block_zero g c =
    sym (c.loop-block.invariant
    ∙ not-front _ _ _ _ _ c.in-Some.ensures.cases (sym c.if-not-block_zero.true ∙ c.block_zero.ensures))

pub loop-block-preserved : goal.loop-block-preserved
loop-block-preserved g c =
    c.loop-block.invariant
    ∙ all-front _ _ _ _ _ c.in-Some.ensures.cases (sym c.if-not-block_zero.false ∙ c.block_zero.ensures)
