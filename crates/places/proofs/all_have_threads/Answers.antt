use mathlib.Core.Path.{refl, ◌∙◌}
use borrow.Author.Rules.{rules}
use borrow.Author.Tests.{tests}
use Rattle.std.proofs.lemmas.Iterator.{YieldsList-from_range}
use Rattle.std.proofs.lemmas.Iterator.Search.{all_from_yields_List}
use Rattle.limits.specs.Limits.{process_places}
use Rattle.tables.specs.Tables.{processes_of}
use Rattle.places.specs.Notes.{threaded_by}
use Rattle.places.proofs.Ranges.{all-range}
use Rattle.places.proofs.all_have_threads.Goals as goal

pub returns : goal.returns
returns c =
    let has = threaded_by (processes_of c.args.ps.now.words.now) c.args.threaded.now in
    all_from_yields_List has _ _ c.all.result c.all.ensures.ran
    (YieldsList-from_range 0 process_places process_places refl refl)
    (λ x b q k. search (rules, tests))
    ∙ all-range has process_places
