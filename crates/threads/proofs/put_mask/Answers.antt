-- `put_mask` meets its contract. Assumes nothing.
use Rattle.std.proofs.Common.{sym, ◌∙◌}
use Rattle.threads.proofs.Search.{mask-changed, mask-unchanged}
use Rattle.threads.proofs.put_mask.Goals as goal

pub returns-in-Some : goal.returns-in-Some
returns-in-Some c =
    mask-changed c.args.ts.now c.set_mask.new.ts c.args.id c.in-Some.i c.args.m
    (sym c.find_thread.ensures ∙ c.in-Some.is) c.set_mask.ensures

pub returns-in_default : goal.returns-in_default
returns-in_default c = mask-unchanged c.args.ts.now c.args.id c.args.m (sym c.find_thread.ensures ∙ c.in_default.is)
