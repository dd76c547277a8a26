use mathlib.Core.Path.{◌≡◌, refl, sym, ap, ◌∙◌}
use mathlib.Core.Bool.{not}
use lib.ListN.{get_or, set}
use Rattle.sigset.specs.declared.SigSet.{SigSet}
use Rattle.sigset.specs.Set.{bits, has, union, of_signal}
use Rattle.soundness.specs.Check.{bumped, noted}
use Rattle.records.proofs.Endings.{fresh-by}
use Rattle.records.proofs.Pending.admit.Goals as goal

pub returns-then-has : goal.returns-then-has
returns-then-has g c =
    let a = c.args in
    let hit = c.has.ensures ∙ ap (λ (b : SigSet). has b a.s) c.intersect-once.ensures in
    record {
      value = sym (ap not c.if-has.true) ∙ fresh-by a.self.now.seen a.at.queue a.s hit;
      counts_after = refl;
      seen_after = refl;
    }

pub returns : goal.returns
unfolding bumped noted
returns g c =
    let a = c.args in
    let hit = c.has.ensures ∙ ap (λ (b : SigSet). has b a.s) c.intersect-once.ensures in
    let e : c.union-after.result ≡ union (bits (get_or a.self.now.seen a.at.queue 0)) (of_signal a.s) =
    c.union-after.ensures ∙ ap (union (bits (get_or a.self.now.seen a.at.queue 0))) c.of_signal.ensures in
    record {
      value = sym (ap not c.if-has.false) ∙ fresh-by a.self.now.seen a.at.queue a.s hit;
      counts_after = refl;
      seen_after = ap (λ (u : SigSet). set a.self.now.seen a.at.queue u.0) e;
    }
