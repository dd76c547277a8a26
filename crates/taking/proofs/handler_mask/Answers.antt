-- `handler_mask` meets its contract, with the signal or without it. Assumes nothing.
use Rattle.taking.proofs.Handlers.{mask-bare, mask-blocking}
use Rattle.taking.proofs.handler_mask.Goals as goal

pub returns-then-a-ne0 : goal.returns-then-a-ne0
returns-then-a-ne0 c =
    let a = c.args in
    let both = c.union-both in
    let all = c.union in
    mask-bare a.old a.a a.signal both.result both.ensures all.result c.maskable.result
    c.maskable.ensures c.if-a-ne0.true all.ensures

pub returns : goal.returns
returns c =
    let a = c.args in
    let both = c.union-both in
    let all = c.union-2 in
    let one = c.of_signal in
    mask-blocking a.old a.a a.signal both.result both.ensures all.result c.maskable-2.result
    c.maskable-2.ensures c.if-a-ne0.false one.result one.ensures all.ensures
