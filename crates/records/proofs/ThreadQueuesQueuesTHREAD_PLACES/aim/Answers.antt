use Prim.Native.Nat.{◌<◌}
use mathlib.Core.Path.{◌≡◌, ◌∙◌}
use native.Mathlib.Omega.{arith}
use lib.ListN.{get_or}
use Rattle.limits.specs.Limits.{process_places, thread_places}
use Rattle.tables.specs.Tables.{processes_of, threads_of}
use Rattle.soundness.specs.Check.{process_place, thread_place}
use Rattle.places.proofs.Endings.{some-if}
use Rattle.records.specs.declared.Aim.{Aim}
use Rattle.records.proofs.Endings.{found-thread, thread-lost}
use Rattle.records.proofs.ThreadQueuesQueuesTHREAD_PLACES.aim.Goals as goal

pub returns-in_err-queue : goal.returns-in_err-queue
returns-in_err-queue c =
    rw c.from_residual.ensures (thread-lost c.args.self.now.0.now c.args.r c.in_err-queue.ensures)

pub field_at-requires : goal.field_at-requires
field_at-requires c =
    let p = c.args.self.now.0.now in
    let f = found-thread p c.args.r c.in_ok-queue.queue c.in_ok-queue.ensures in
    (p.processes.long, (f.inside, omega arith))

pub returns-then-field_at-r : goal.returns-then-field_at-r
returns-then-field_at-r c =
    let f = found-thread c.args.self.now.0.now c.args.r c.in_ok-queue.queue c.in_ok-queue.ensures in
    f.of_another c.field_at.result c.field_at.ensures c.if-field_at-r.true

pub bounds-places-process : goal.bounds-places-process
bounds-places-process c =
    (found-thread c.args.self.now.0.now c.args.r c.in_ok-queue.queue c.in_ok-queue.ensures).inside

pub returns : goal.returns
returns c =
    let p = c.args.self.now.0.now in
    let r = c.args.r in
    let queue = c.in_ok-queue.queue in
    let f = found-thread p r queue c.in_ok-queue.ensures in
    let w = c.field_at in
    let z = c.if-field_at-r.false in
    rw c.then_some.ensures
    (some-if
    (λ (a : Aim). ((a.process < process_places)
    × (a.process ≡ process_place (processes_of p.processes.words.now) r))
    × ((a.queue < thread_places) × (a.queue ≡ thread_place (threads_of p.threads.words.now) r)))
    c.is_delivered.result (let a : Aim = record { process = get_or p.owners queue 0; queue = queue } in a)
    (c.is_delivered.ensures ∙ f.delivery w.result w.ensures z)
    ((f.inside, f.process w.result w.ensures z), (c.in_ok-queue.ensures.0, f.at)))
