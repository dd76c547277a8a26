-- Marks that have no ignored signal: as one test of two sets, and signal by signal. Assumes nothing.
use Prim.Native.Nat.{ℕ}
use mathlib.Core.Path.{◌≡◌, sym, ap, ◌∙◌}
use mathlib.Core.Bool.{Bool, not, ◌&&◌}
use native.Mathlib.Omega.{arith}
use borrow.Author.Tests.{eqb-true, eq-eqb, not-true}
use Rattle.limits.specs.Limits.{signals}
use Rattle.lists.specs.Lists.{range}
use Rattle.lists.proofs.Bools.{same_test, not-and}
use Rattle.lists.proofs.Lists.{Pass, All-all, all-All}
use Rattle.lists.proofs.Loops.{All-range, All-range-at}
use Rattle.sigset.specs.declared.SigSet.{SigSet}
use Rattle.sigset.specs.Set.{Signal, bits, has, intersect}
use Rattle.sigset.proofs.Laws.{has-set, has-empty, has-intersect, set-none}
use Rattle.rules.specs.Types.{Process}
use Rattle.rules.specs.Signals.{ignored}
use Rattle.rules.specs.View.{action_of}
use Rattle.rules.specs.Sound.{mark_not_ignored, marks_not_ignored}
use Rattle.soundness.specs.Check.{ignored_by, disjoint}

module _ (p : Process) where
  -- marks that no ignored signal has
  mark-apart : (marks : SigSet) (s : ℕ) → Signal s
      → mark_not_ignored marks (action_of p) s ≡ not (has (intersect marks (ignored_by p)) s)
  unfolding ignored_by
  mark-apart marks s i =
      sym (not-and (has marks s) (ignored (action_of p s) s))
      ∙ ap not
      (sym
      (has-intersect marks (ignored_by p) s i
      ∙ ap (λ (b : Bool). has marks s && b) (has-set (λ t. ignored (action_of p t) t) s i)))

  pub disjoint-is : (marks : SigSet) → disjoint marks (ignored_by p) ≡ marks_not_ignored marks (action_of p)
  unfolding disjoint marks_not_ignored intersect
  disjoint-is marks =
      let both : SigSet = intersect marks (ignored_by p) in
      same_test (disjoint marks (ignored_by p)) (marks_not_ignored marks (action_of p))
      (λ e.
      All-all (mark_not_ignored marks (action_of p)) (range 1 signals)
      (All-range (Pass (mark_not_ignored marks (action_of p))) 1 signals
      (λ s l h.
      mark-apart marks s (record { low = l; high = omega arith })
      ∙ ap not (ap (λ (n : ℕ). has (bits n) s) (eqb-true both.0 0 e) ∙ has-empty s))))
      (λ e.
      eq-eqb both.0 0
      (ap (λ (a : SigSet). a.0)
      (set-none (λ s. has marks s && has (ignored_by p) s)
      (λ s i.
      sym (has-intersect marks (ignored_by p) s i)
      ∙ not-true (has both s)
      (sym (mark-apart marks s i)
      ∙ All-range-at (Pass (mark_not_ignored marks (action_of p))) 1 signals s i.low (omega (arith, i.high))
      (all-All (mark_not_ignored marks (action_of p)) (range 1 signals) e))))))
