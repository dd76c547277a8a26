use mathlib.Core.Path.{◌≡◌}
use native.Mathlib.Nat.{add-sub_cancel_left}
use mathlib.Core.Bool.{true}
use Rattle.lists.proofs.Bools.{clash}
use Rattle.sigset.specs.declared.SigSet.{SigSet}
use Rattle.sigset.specs.Set.{empty}
use Rattle.rules.specs.Sound.{is_live, process_id}
use Rattle.tables.specs.Tables.{process_at}
use Rattle.tables.proofs.Words.{length-actions}
use Rattle.soundness.specs.Check.{process_by, ignored_by}
use Rattle.places.proofs.Sets.{gathered-chosen}
use Rattle.places.proofs.Endings.{free-process, no-process, live-process-at, some-if}
use Rattle.places.proofs.ProcessPlace.ignored_if_sound.Goals as goal

pub returns-then-field-eq0 : goal.returns-then-field-eq0
returns-then-field-eq0 c =
    let s = c.args.self.now in
    let ws = s.table.words.now in
    let x = process_at ws s.place in
    rw c.then_some.ensures
    (some-if (λ (i : SigSet). is_live process_id x ≡ true → i ≡ ignored_by x.holds) c.all_zero-is_zero.result empty
    (free-process (process_by s.table.hints.now ws) ws s.place c.field.result c.field.ensures s.table.long
    s.inside c.if-field-eq0.true (simp add-sub_cancel_left at c.all_zero-is_zero.ensures))
    (λ live. clash live (no-process (process_by s.table.hints.now ws) ws s.place c.field.result c.field.ensures
    c.if-field-eq0.true)))

pub ignored-ignores-requires : goal.ignored-ignores-requires
ignored-ignores-requires c =
    let s = c.args.self.now in
    let ws = s.table.words.now in
    gathered-chosen (process_at ws s.place).holds (length-actions ws s.place s.inside) c.gather-g.result
    c.gather-g.ensures

pub returns : goal.returns
returns c =
    let s = c.args.self.now in
    let ws = s.table.words.now in
    let x = process_at ws s.place in
    rw c.then_some-2.ensures
    (some-if (λ (i : SigSet). is_live process_id x ≡ true → i ≡ ignored_by x.holds) c.live_ok.result
    c.ignored-ignores.result
    (live-process-at (process_by s.table.hints.now ws) ws s.place c.field.result c.field.ensures
    c.if-field-eq0.false c.live_ok.ensures)
    (λ live. c.ignored-ignores.ensures))
