use mathlib.Core.Path.{◌≡◌, ap, subst, ◌∙◌}
use mathlib.Core.Bool.{true}
use borrow.Author.Rules.{rules}
use native.Mathlib.Nat.{zero-add}
use native.Mathlib.Omega.{arith}
use lib.ListN.{replicate}
use Rattle.limits.specs.Limits.{process_places}
use Rattle.lists.specs.Lists.{all, range}
use Rattle.lists.proofs.Loops.{range_none, range-more, range-fails}
use Rattle.sigset.specs.Set.{empty}
use Rattle.tables.specs.Tables.{processes_of}
use Rattle.soundness.specs.Check.{process_ok_at, processes_ok, process_by}
use Rattle.places.specs.Notes.{IgnoredNoted}
use Rattle.places.proofs.Notes.{ignored-none, ignored-more}
use Rattle.places.proofs.processes_ok.Goals as goal

pub loop-place-init : goal.loop-place-init
loop-place-init c =
    let ws = c.args.ps.now.words.now in
    let xs = processes_of ws in
    let ok = range_none (process_ok_at (process_by c.args.ps.now.hints.now ws) xs) 0 in
    (search rules, (ok, ignored-none xs (replicate process_places empty)))

pub returns-in_err-ignored : goal.returns-in_err-ignored
unfolding processes_ok
returns-in_err-ignored c =
    let ws = c.args.ps.now.words.now in
    let f = process_ok_at (process_by c.args.ps.now.hints.now ws) (processes_of ws) in
    rw c.from_residual.ensures
    (range-fails f 0 process_places c.loop-place.place (omega arith)
    (ap f (zero-add c.loop-place.place) ∙ c.in_err-ignored.ensures))

pub loop-place-preserved : goal.loop-place-preserved
loop-place-preserved c =
    let ws = c.args.ps.now.words.now in
    let xs = processes_of ws in
    let f = process_ok_at (process_by c.args.ps.now.hints.now ws) xs in
    let l = c.loop-place in (
      search rules,
      (
        range-more f 0 l.place l.invariant.1.0 (ap f (zero-add l.place) ∙ c.in_ok-ignored.ensures.0),
        ignored-more xs l.place l.ignored l.invariant.1.1 _ (omega arith) c.in_ok-ignored.ensures.1,
      ),
    )

pub returns : goal.returns
unfolding processes_ok
returns c =
    let ws = c.args.ps.now.words.now in
    let xs = processes_of ws in
    let l = c.loop-place in
    let e : l.place ≡ process_places = omega arith in (
      subst (λ k. all (process_ok_at (process_by c.args.ps.now.hints.now ws) xs) (range 0 k) ≡ true) e l.invariant.1.0,
      subst (λ k. IgnoredNoted xs k l.ignored) e l.invariant.1.1,
    )
