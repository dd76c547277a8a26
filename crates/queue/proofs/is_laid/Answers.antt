-- `is_laid` meets its contract. Assumes nothing.
use mathlib.Core.Path.{sym, ap, ◌∙◌}
use native.Mathlib.Omega.{arith}
use lib.ListN.{drop}
use Rattle.lists.specs.Lists.{all}
use Rattle.rules.specs.Sound.{is_zero}
use Rattle.queue.specs.Queue.{slots_of}
use Rattle.queue.proofs.Buffer.{length-records_of, laid-test, not-laid}
use Rattle.queue.proofs.is_laid.Goals as goal

pub returns-then-b-ne-BUFFER_BYTES : goal.returns-then-b-ne-BUFFER_BYTES
returns-then-b-ne-BUFFER_BYTES c = sym (not-laid c.args.b.now c.if-b-ne-BUFFER_BYTES.true)

pub zero_from-requires : goal.zero_from-requires
zero_from-requires c = omega (arith, length-records_of c.args.b.now)

pub returns : goal.returns
returns c =
    let b = c.args.b.now in
    c.zero_from.ensures ∙ ap (λ n. all is_zero (drop n (slots_of b))) c.used-n.ensures
    ∙ laid-test b c.if-b-ne-BUFFER_BYTES.false
