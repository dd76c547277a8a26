-- `look_slot` meets its contract. Assumes nothing.
use mathlib.Core.Path.{sym, ap, ◌∙◌}
use native.Mathlib.Omega.{arith}
use Rattle.std.specs.Prelude.{is_some, Some}
use Rattle.lists.proofs.Finds.{is-some, find-some}
use Rattle.types.specs.Answers.{refused_by}
use Rattle.rules.specs.View.{in_queue, queue_of}
use Rattle.queue.specs.Queue.{records_of}
use Rattle.sound.specs.Lent.{lent}
use Rattle.sound.proofs.Facts.{thread-buffer-long, process-buffer-long}
use Rattle.answers.proofs.Endings.{err-number, ok-number}
use Rattle.looking.proofs.Looks.{look-with, found-small, slot-refused, slot-none, found-shared, found-own}
use Rattle.looking.proofs.Looks.{slot-shared, slot-own}
use Rattle.looking.proofs.look_slot.Goals as goal

pub returns-then-is_err : goal.returns-then-is_err
returns-then-is_err c =
    slot-refused (lent c.args.ps.now c.args.ts.now c.args.tb.now c.args.pb.now) c.args.thread
    (refused_by c.check_thread.result) c.check_thread.ensures
    (err-number c.check_thread.result (sym c.is_err.ensures.value ∙ c.if-is_err.true))

pub next_of-requires : goal.next_of-requires
next_of-requires c =
    look-with (lent c.args.ps.now c.args.ts.now c.args.tb.now c.args.pb.now) c.args.thread
    (refused_by c.check_thread.result) c.check_thread.ensures
    (ok-number c.check_thread.result (sym c.is_err.ensures.value ∙ c.if-is_err.false))

pub first_of-requires : goal.first_of-requires
first_of-requires c =
    process-buffer-long (lent c.args.ps.now c.args.ts.now c.args.tb.now c.args.pb.now)
    (look-with (lent c.args.ps.now c.args.ts.now c.args.tb.now c.args.pb.now) c.args.thread
    (refused_by c.check_thread.result) c.check_thread.ensures
    (ok-number c.check_thread.result (sym c.is_err.ensures.value ∙ c.if-is_err.false))).sound

pub unwrap-k-requires : goal.unwrap-k-requires
unwrap-k-requires c =
    let p = in_queue (queue_of c.in-Some-Record.r) c.in-Some-Record.r.signal in
    let rs = records_of c.args.pb.now in
    ap is_some c.first_of.ensures ∙ is-some p rs
    ∙ found-shared (lent c.args.ps.now c.args.ts.now c.args.tb.now c.args.pb.now) c.args.thread
    (refused_by c.check_thread.result) c.check_thread.ensures
    (ok-number c.check_thread.result (sym c.is_err.ensures.value ∙ c.if-is_err.false))
    c.next_of.result c.next_of.ensures c.in-Some-Record.r
    (c.in-Some-Record.is ∙ ap Some c.in-Some-Record.field-0-is) c.if-r-eq0.true

pub overflow_add-result : goal.overflow_add-result
overflow_add-result c =
    omega (
      arith,
      found-small _ _ _
          (sym (find-some (in_queue (queue_of c.in-Some-Record.r) c.in-Some-Record.r.signal) (records_of c.args.pb.now)
          c.unwrap-k.result
          (sym c.first_of.ensures ∙ c.unwrap-k.ensures))),
    )

pub overflow_add-result-then-r-eq0 : goal.overflow_add-result-then-r-eq0
overflow_add-result-then-r-eq0 c =
    omega (
      arith,
      found-small _ _ _
          (sym (find-some (in_queue (queue_of c.in-Some-Record.r) c.in-Some-Record.r.signal) (records_of c.args.pb.now)
          c.unwrap-k.result
          (sym c.first_of.ensures ∙ c.unwrap-k.ensures))),
    )

pub returns-then-r-eq0 : goal.returns-then-r-eq0
returns-then-r-eq0 c =
    slot-shared (lent c.args.ps.now c.args.ts.now c.args.tb.now c.args.pb.now) c.args.thread
    (refused_by c.check_thread.result) c.check_thread.ensures
    (ok-number c.check_thread.result (sym c.is_err.ensures.value ∙ c.if-is_err.false))
    c.next_of.result c.next_of.ensures c.in-Some-Record.r
    (c.in-Some-Record.is ∙ ap Some c.in-Some-Record.field-0-is) c.unwrap-k.result c.if-r-eq0.true
    (sym (find-some (in_queue (queue_of c.in-Some-Record.r) c.in-Some-Record.r.signal) (records_of c.args.pb.now)
    c.unwrap-k.result
    (sym c.first_of.ensures ∙ c.unwrap-k.ensures)))

pub first_of-requires-in-Some-Record : goal.first_of-requires-in-Some-Record
first_of-requires-in-Some-Record c =
    thread-buffer-long (lent c.args.ps.now c.args.ts.now c.args.tb.now c.args.pb.now)
    (look-with (lent c.args.ps.now c.args.ts.now c.args.tb.now c.args.pb.now) c.args.thread
    (refused_by c.check_thread.result) c.check_thread.ensures
    (ok-number c.check_thread.result (sym c.is_err.ensures.value ∙ c.if-is_err.false))).sound

pub unwrap-requires : goal.unwrap-requires
unwrap-requires c =
    let p = in_queue (queue_of c.in-Some-Record.r) c.in-Some-Record.r.signal in
    let rs = records_of c.args.tb.now in
    ap is_some c.first_of-in-Some-Record.ensures ∙ is-some p rs
    ∙ found-own (lent c.args.ps.now c.args.ts.now c.args.tb.now c.args.pb.now) c.args.thread
    (refused_by c.check_thread.result) c.check_thread.ensures
    (ok-number c.check_thread.result (sym c.is_err.ensures.value ∙ c.if-is_err.false))
    c.next_of.result c.next_of.ensures c.in-Some-Record.r
    (c.in-Some-Record.is ∙ ap Some c.in-Some-Record.field-0-is) c.if-r-eq0.false

pub overflow_add-result-in-Some-Record : goal.overflow_add-result-in-Some-Record
overflow_add-result-in-Some-Record c =
    omega (
      arith,
      found-small _ _ _
          (sym (find-some (in_queue (queue_of c.in-Some-Record.r) c.in-Some-Record.r.signal) (records_of c.args.tb.now)
          c.unwrap.result
          (sym c.first_of-in-Some-Record.ensures ∙ c.unwrap.ensures))),
    )

pub returns-in-None : goal.returns-in-None
returns-in-None c =
    slot-none (lent c.args.ps.now c.args.ts.now c.args.tb.now c.args.pb.now) c.args.thread
    (refused_by c.check_thread.result) c.check_thread.ensures
    (ok-number c.check_thread.result (sym c.is_err.ensures.value ∙ c.if-is_err.false))
    c.next_of.result c.next_of.ensures (λ x e. let z = c.in-None.is in cc)

pub returns-in-Some-Mark : goal.returns-in-Some-Mark
returns-in-Some-Mark c =
    slot-none (lent c.args.ps.now c.args.ts.now c.args.tb.now c.args.pb.now) c.args.thread
    (refused_by c.check_thread.result) c.check_thread.ensures
    (ok-number c.check_thread.result (sym c.is_err.ensures.value ∙ c.if-is_err.false))
    c.next_of.result c.next_of.ensures
    (λ x e. let z = c.in-Some-Mark.is in let y = c.in-Some-Mark.field-0-is in cc)

pub returns-else-r-eq0 : goal.returns-else-r-eq0
returns-else-r-eq0 c =
    slot-own (lent c.args.ps.now c.args.ts.now c.args.tb.now c.args.pb.now) c.args.thread
    (refused_by c.check_thread.result) c.check_thread.ensures
    (ok-number c.check_thread.result (sym c.is_err.ensures.value ∙ c.if-is_err.false))
    c.next_of.result c.next_of.ensures c.in-Some-Record.r
    (c.in-Some-Record.is ∙ ap Some c.in-Some-Record.field-0-is) c.unwrap.result c.if-r-eq0.false
    (sym (find-some (in_queue (queue_of c.in-Some-Record.r) c.in-Some-Record.r.signal) (records_of c.args.tb.now)
    c.unwrap.result
    (sym c.first_of-in-Some-Record.ensures ∙ c.unwrap.ensures)))
