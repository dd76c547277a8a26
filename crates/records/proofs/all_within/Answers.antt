use mathlib.Core.Path.{refl, ◌∙◌}
use borrow.Author.Rules.{rules}
use borrow.Author.Tests.{tests}
use Rattle.std.proofs.lemmas.Iterator.{YieldsList-from_range}
use Rattle.std.proofs.lemmas.Iterator.Search.{all_from_yields_List}
use Rattle.limits.specs.Limits.{process_places}
use Rattle.soundness.specs.Check.{within_at, all_within}
use Rattle.places.proofs.Ranges.{all-range}
use Rattle.records.proofs.all_within.Goals as goal

pub returns : goal.returns
unfolding all_within
returns c =
    let within = within_at c.args.cs.now c.args.ds.now in
    all_from_yields_List within _ _ c.all.result c.all.ensures.ran
    (YieldsList-from_range 0 process_places process_places refl refl)
    (λ x b q k. search (rules, tests))
    ∙ all-range within process_places
