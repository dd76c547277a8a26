use Prim.Native.Nat.{ℕ, ◌<◌}
use mathlib.Core.Path.{◌≡◌, refl}
use Rattle.limits.specs.Limits.{process_places}
use Rattle.tables.specs.Tables.{held_processes, thread_at}
use Rattle.soundness.specs.Check.{process_by, thread_by, owner_place}
use Rattle.places.proofs.Endings.{some-if}
use Rattle.places.proofs.Owning.{at-owner, orphan, live-thread}
use Rattle.places.proofs.ThreadPlace.owner_if_sound.Goals as goal

pub returns-in_err-owner : goal.returns-in_err-owner
returns-in_err-owner c =
    let s = c.args.self.now in
    let ws = c.args.ps.now.words.now in
    let vs = s.table.words.now in
    let find = thread_by s.table.hints.now vs in
    let ph = c.args.ps.now.hints.now in
    rw c.from_residual.ensures
    (orphan find ws vs s.place ph c.field-process.result (process_by ph ws c.field-process.result) c.requires.live
    c.field-process.ensures c.args.ps.now.hinted c.requires.one_place refl c.in_err-owner.ensures)

pub returns : goal.returns
returns c =
    let s = c.args.self.now in
    let ws = c.args.ps.now.words.now in
    let vs = s.table.words.now in
    let find = thread_by s.table.hints.now vs in
    let owner = c.in_ok-owner.owner in
    let at = at-owner find ws vs s.place c.args.ps.now.hints.now c.field-process.result owner c.requires.live
    c.field-process.ensures c.args.ps.now.hinted c.requires.one_place c.in_ok-owner.ensures.1 in
    rw c.then_some.ensures
    (some-if (λ (o : ℕ). (o < process_places) × (o ≡ owner_place (held_processes ws) (thread_at vs s.place)))
    c.live_ok.result owner
    (live-thread find ws vs s.place c.args.ps.now.hints.now c.field-process.result owner c.requires.live
    c.field-process.ensures c.args.ps.now.hinted c.requires.one_place c.in_ok-owner.ensures.1
    c.in_ok-owner.ensures.0 c.args.ignored.now c.requires.noted
    c.live_ok.ensures)
    (c.in_ok-owner.ensures.0, at))
