-- `mask_after` meets its contract, a case for each way. Assumes nothing.
use mathlib.Core.Path.{◌∙◌}
use Rattle.masks.proofs.Masks.{mask-added, mask-removed, mask-replaced}
use Rattle.masks.proofs.mask_after.Goals as goal

pub returns-then-way-eq-SIG_BLOCK : goal.returns-then-way-eq-SIG_BLOCK
returns-then-way-eq-SIG_BLOCK c =
    let a = c.args in
    c.maskable.ensures ∙ mask-added a.old a.set a.way c.if-way-eq-SIG_BLOCK.true
    c.union.result c.union.ensures

pub returns-then-way-eq-SIG_UNBLOCK : goal.returns-then-way-eq-SIG_UNBLOCK
returns-then-way-eq-SIG_UNBLOCK c =
    let a = c.args in
    c.maskable-then-way-eq-SIG_UNBLOCK.ensures ∙ mask-removed a.old a.set a.way c.if-way-eq-SIG_UNBLOCK.true
    c.without.result c.without.ensures

pub returns : goal.returns
returns c =
    let a = c.args in
    c.maskable-2.ensures
    ∙ mask-replaced a.old a.set a.way c.if-way-eq-SIG_BLOCK.false c.if-way-eq-SIG_UNBLOCK.false
