-- `SigSet::maskable` meets its contract: the constant is the set of KILL and STOP. Assumes nothing.
use mathlib.Core.Path.{◌≡◌, sym, ap, ◌∙◌}
use Rattle.sigset.specs.declared.SigSet.{SigSet}
use Rattle.sigset.specs.Set.{without, unmaskable, maskable}
use Rattle.sigset.proofs.Laws.{unmaskable-is}
use Rattle.sigset.proofs.SigSet.maskable.Goals as goal

-- over plain sets, so that a refusal shows the constant
less : (a u r : SigSet) → r ≡ without a u → u ≡ unmaskable → r ≡ maskable a
unfolding maskable
less a u r e is = e ∙ ap (without a) is

pub returns : goal.returns
returns c = less c.args.self _ _ c.without.ensures (sym unmaskable-is)
