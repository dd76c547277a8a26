-- `SigSet::of_signal` meets its contract. Assumes nothing.
use mathlib.Core.Path.{◌≡◌, sym, ap, ◌∙◌}
use Prim.Native.Nat.{◌*◌, ◌-◌, ◌^◌, ◌<◌}
use native.Mathlib.Nat.{mod-eq_of_lt}
use native.Mathlib.Omega.{arith}
use lib.Pow.{pow-lt}
use Rattle.limits.specs.Limits.{signals}
use Rattle.sigset.specs.Set.{bits}
use Rattle.sigset.proofs.Laws.{of_none, of_is}
use Rattle.sigset.proofs.SigSet.of_signal.Goals as goal
use Rattle.sigset.proofs.SigSet.of_signal.Goals.{then-s-eq0-via-then-s-eq0, then-s-eq0-via-else-s-eq0+then-s-gt-SIGNALS}

pub returns-then-s-eq0 : goal.returns-then-s-eq0
returns-then-s-eq0 c =
    elim c.then-s-eq0.branch [
      | then-s-eq0-via-then-s-eq0 w ↦ sym (of_none c.args.s (λ h. omega arith))
      | then-s-eq0-via-else-s-eq0+then-s-gt-SIGNALS w ↦ sym (of_none c.args.s (λ h. omega arith))
    ]

pub returns : goal.returns
returns c =
    let s = c.args.s in
    let fits : 1 * 2 ^ (s - 1) < 2 ^ signals = omega (arith, pow-lt {i = s - 1} {j = signals} (omega arith)) in
    let one : 1 * 2 ^ (s - 1) ≡ 2 ^ (s - 1) = omega arith in
    ap bits (mod-eq_of_lt fits ∙ one) ∙ sym (of_is s (record { low = omega arith; high = omega arith }))
