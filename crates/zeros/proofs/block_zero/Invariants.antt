-- `block_zero` meets its contract. Assumes nothing.
use Rattle.std.proofs.Common.{◌≡◌, take}
use Rattle.lists.specs.Lists.{all}
use Rattle.zeros.proofs.block_zero.Given as goal

abbrev pub invariant-loop-w : goal.invariant-loop-w
invariant-loop-w g l = g.T.Word.is_zero l.some ≡ all g.T.Word.is_zero (take l.w-index l.ws)
