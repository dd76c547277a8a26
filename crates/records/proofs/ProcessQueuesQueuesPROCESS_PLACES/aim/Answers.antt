use Prim.Native.Nat.{◌<◌}
use mathlib.Core.Path.{◌≡◌, ap, ◌∙◌}
use mathlib.Core.Bool.{◌&&◌}
use lib.Dec.{eqb}
use Rattle.limits.specs.Limits.{process_places}
use Rattle.tables.specs.Tables.{processes_of}
use Rattle.soundness.specs.Check.{process_place}
use Rattle.places.proofs.Endings.{some-if}
use Rattle.records.specs.declared.Aim.{Aim}
use Rattle.records.proofs.Endings.{found-process, process-lost}
use Rattle.records.proofs.ProcessQueuesQueuesPROCESS_PLACES.aim.Goals as goal

pub returns-in_err-process : goal.returns-in_err-process
returns-in_err-process c =
    rw c.from_residual.ensures (process-lost c.args.self.now.0.now c.args.r c.in_err-process.ensures)

pub returns : goal.returns
returns c =
    let p = c.args.self.now.0.now in
    let r = c.args.r in
    let place = c.in_ok-process.process in
    let f = found-process p r place c.in_ok-process.ensures in
    let at = process_place (processes_of p.processes.words.now) r in
    let here : (place < process_places) × (place ≡ at) = (c.in_ok-process.ensures.0, f.at) in
    rw c.then_some.ensures
    (some-if
    (λ (a : Aim). ((a.process < process_places) × (a.process ≡ at)) × ((a.queue < process_places) × (a.queue ≡ at)))
    (eqb r.thread 0 && c.is_delivered.result) (let a : Aim = record { process = place; queue = place } in a)
    (ap (λ b. eqb r.thread 0 && b) c.is_delivered.ensures ∙ f.delivery) (here, here))
