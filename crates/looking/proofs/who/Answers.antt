-- `who` meets its contract. Assumes nothing.
use mathlib.Core.Path.{refl, sym, ap, ◌∙◌}
use Rattle.types.specs.Answers.{refused_by}
use Rattle.answers.proofs.Endings.{turned-away, answer-of}
use native.Mathlib.Omega.{arith}
use Rattle.rules.specs.Types.{who}
use Rattle.lists.specs.Lists.{find}
use Rattle.lists.proofs.Finds.{find-some, find_absent, any-none}
use Rattle.rules.specs.Taking.{can_take_some}
use Rattle.tables.specs.Tables.{held_threads}
use Rattle.tables.proofs.Words.{length-held_threads}
use Rattle.sound.specs.Lent.{lent, view_of}
use Rattle.sound.proofs.Facts.{threads-long}
use Rattle.looking.proofs.Takers.{not-all, id-read, who-refusal, who-sound, who-none, who-inside, who-fits, who-takes}
use Rattle.looking.proofs.who.Goals as goal

pub returns-in_err-check_process : goal.returns-in_err-check_process
returns-in_err-check_process c =
    let l = lent c.args.ps.now c.args.ts.now c.args.tb.now c.args.pb.now in
    answer-of
    (turned-away (who c.args.process) l c.check_process.result
    (who-refusal l c.args.process (refused_by c.check_process.result) c.check_process.ensures) c.from_residual.result
    c.in_err-check_process.field-0.0 c.in_err-check_process.was c.from_residual.ensures.1)

pub taker_place-requires : goal.taker_place-requires
taker_place-requires c =
    who-sound (lent c.args.ps.now c.args.ts.now c.args.tb.now c.args.pb.now) c.args.process
    (refused_by c.check_process.result) c.check_process.ensures (ap refused_by c.in_ok-check_process.was)

pub returns-in_default : goal.returns-in_default
returns-in_default c =
    let l = lent c.args.ps.now c.args.ts.now c.args.tb.now c.args.pb.now in
    let p = can_take_some (view_of l) c.args.process in
    let rs = held_threads c.args.ts.now in
    who-none l c.args.process
    (refused_by c.check_process.result) c.check_process.ensures (ap refused_by c.in_ok-check_process.was) (find p rs)
    refl
    (find_absent p rs (any-none p rs (sym c.taker_place.ensures ∙ c.in_default.is)) ∙ length-held_threads c.args.ts.now)

pub thread_field_at-taker-requires : goal.thread_field_at-taker-requires
thread_field_at-taker-requires c =
    let l = lent c.args.ps.now c.args.ts.now c.args.tb.now c.args.pb.now in
    let p = can_take_some (view_of l) c.args.process in
    let rs = held_threads c.args.ts.now in
    let k = c.in-Some.place in
    let h = sym c.taker_place.ensures ∙ c.in-Some.is in
    let f = sym (find-some p rs k h) in
    let y = not-all p c.args.ts.now k h in
    let e = ap refused_by c.in_ok-check_process.was in (
      threads-long l (who-sound l c.args.process (refused_by c.check_process.result) c.check_process.ensures e),
      (
        who-inside l c.args.process (refused_by c.check_process.result) c.check_process.ensures e k f y,
        omega arith,
      ),
    )

pub overflow_cast-taker : goal.overflow_cast-taker
overflow_cast-taker c =
    let l = lent c.args.ps.now c.args.ts.now c.args.tb.now c.args.pb.now in
    let p = can_take_some (view_of l) c.args.process in
    let rs = held_threads c.args.ts.now in
    let k = c.in-Some.place in
    let h = sym c.taker_place.ensures ∙ c.in-Some.is in
    let f = sym (find-some p rs k h) in
    let y = not-all p c.args.ts.now k h in
    let w = c.thread_field_at-taker.result in
    omega (
      arith,
      who-fits l c.args.process (refused_by c.check_process.result) c.check_process.ensures
          (ap refused_by c.in_ok-check_process.was)
          k f y w (id-read c.args.ts.now k w c.thread_field_at-taker.ensures),
    )

pub returns : goal.returns
returns c =
    let l = lent c.args.ps.now c.args.ts.now c.args.tb.now c.args.pb.now in
    let p = can_take_some (view_of l) c.args.process in
    let rs = held_threads c.args.ts.now in
    let k = c.in-Some.place in
    let h = sym c.taker_place.ensures ∙ c.in-Some.is in
    let f = sym (find-some p rs k h) in
    let y = not-all p c.args.ts.now k h in
    let w = c.thread_field_at-taker.result in
    who-takes l c.args.process (refused_by c.check_process.result) c.check_process.ensures
    (ap refused_by c.in_ok-check_process.was)
    k f y w (id-read c.args.ts.now k w c.thread_field_at-taker.ensures)
