-- `can_take` meets its contract. Assumes nothing.
use mathlib.Core.Path.{refl, sym, ap, ◌∙◌}
use Rattle.std.specs.Prelude.{is_some}
use Rattle.sigset.proofs.Nonzero.{nonzero-is_some}
use native.Mathlib.Omega.{arith}
use Rattle.sound.specs.Lent.{view_of, lent}
use Rattle.sound.proofs.Facts.{threads-long}
use Rattle.looking.proofs.Takers.{thread_in, id-read, owner-read, owned, nobody-takes, other-takes, id-live}
use Rattle.looking.proofs.Takers.{id-small, id-takes}
use Rattle.looking.proofs.can_take.Goals as goal

pub returns-then-process-eq0 : goal.returns-then-process-eq0
returns-then-process-eq0 c =
    nobody-takes (view_of (lent c.args.ps.now c.args.ts.now c.args.tb.now c.args.pb.now)) c.args.process
    (thread_in c.args.ts.now c.args.place) c.if-process-eq0.true

pub thread_field_at-requires : goal.thread_field_at-requires
thread_field_at-requires c = (
  threads-long (lent c.args.ps.now c.args.ts.now c.args.tb.now c.args.pb.now) c.requires.pb_value,
  (c.requires.place_lt_thread_places, omega arith),
)

pub returns-then-thread_field_at-process : goal.returns-then-thread_field_at-process
returns-then-thread_field_at-process c =
    let o =
    owner-read c.args.ts.now c.args.place c.thread_field_at.result
    c.thread_field_at.ensures in
    other-takes (view_of (lent c.args.ps.now c.args.ts.now c.args.tb.now c.args.pb.now)) c.args.process
    (thread_in c.args.ts.now c.args.place) (λ z. c.if-thread_field_at-process.true (o ∙ z))

pub thread_field_at-thread-requires : goal.thread_field_at-thread-requires
thread_field_at-thread-requires c = (
  threads-long (lent c.args.ps.now c.args.ts.now c.args.tb.now c.args.pb.now) c.requires.pb_value,
  (c.requires.place_lt_thread_places, omega arith),
)

pub overflow_cast-thread : goal.overflow_cast-thread
overflow_cast-thread c =
    let i = id-read c.args.ts.now c.args.place c.thread_field_at-thread.result c.thread_field_at-thread.ensures in
    omega (
      arith,
      id-small (lent c.args.ps.now c.args.ts.now c.args.tb.now c.args.pb.now) c.requires.pb_value c.args.place
          c.args.process c.requires.place_lt_thread_places
          (let o = owner-read c.args.ts.now c.args.place c.thread_field_at.result c.thread_field_at.ensures in owned
          c.args.process (thread_in c.args.ts.now c.args.place) c.if-process-eq0.false
          (sym o ∙ c.if-thread_field_at-process.false)) c.thread_field_at-thread.result i,
    )

pub next_signal-requires : goal.next_signal-requires
next_signal-requires c =
    let i =
    id-read c.args.ts.now c.args.place c.thread_field_at-thread.result c.thread_field_at-thread.ensures in
    record {
      sound = c.requires.pb_value;
      live =
          id-live (lent c.args.ps.now c.args.ts.now c.args.tb.now c.args.pb.now) c.requires.pb_value c.args.place
          c.args.process c.requires.place_lt_thread_places
          (let o = owner-read c.args.ts.now c.args.place c.thread_field_at.result c.thread_field_at.ensures in owned
          c.args.process (thread_in c.args.ts.now c.args.place) c.if-process-eq0.false
          (sym o ∙ c.if-thread_field_at-process.false)) c.thread_field_at-thread.result i;
    }

pub returns : goal.returns
returns c =
    let i = id-read c.args.ts.now c.args.place c.thread_field_at-thread.result c.thread_field_at-thread.ensures in
    c.is_some.ensures ∙ ap is_some c.next_signal.ensures ∙ nonzero-is_some _
    ∙ id-takes (lent c.args.ps.now c.args.ts.now c.args.tb.now c.args.pb.now) c.requires.pb_value c.args.place
    c.args.process c.requires.place_lt_thread_places
    (let o = owner-read c.args.ts.now c.args.place c.thread_field_at.result c.thread_field_at.ensures in owned
    c.args.process (thread_in c.args.ts.now c.args.place) c.if-process-eq0.false
    (sym o ∙ c.if-thread_field_at-process.false)) c.thread_field_at-thread.result i
    _ refl
