-- `generation_of` meets its contract, a return for each generation. Assumes nothing.
use Rattle.std.specs.Prelude.{is_some}
use mathlib.Core.Path.{sym, ◌∙◌}
use native.Mathlib.Omega.{arith}
use Rattle.rules.specs.View.{target_queue, live_process}
use Rattle.rules.specs.Store.{view}
use Rattle.rules.proofs.Queues.{queue-target, target-process}
use Rattle.sound.specs.Lent.{decoded, view_of, lent}
use Rattle.sound.proofs.Facts.{process-present}
use Rattle.sending.specs.Generations.{generation_of}
use Rattle.sending.proofs.Decided.{is-testing, is-killing, is-stopping, is-dropping, is-absorbing, is-keeping}
use Rattle.sending.proofs.Decided.{is-marking, ignored-read}
use Rattle.sending.proofs.generation_of.Goals as goal

pub returns-then-s-eq0 : goal.returns-then-s-eq0
unfolding generation_of
returns-then-s-eq0 c =
    let v = view_of (lent c.args.ps.now c.args.ts.now c.args.tb.now c.args.pb.now) in
    let q = target_queue c.args.s.to c.args.s.thread in
    is-testing v (is_some c.args.s.value) q c.args.s.signal c.if-s-eq0.true

pub returns-then-s-eq-SIGKILL : goal.returns-then-s-eq-SIGKILL
unfolding generation_of
returns-then-s-eq-SIGKILL c =
    let v = view_of (lent c.args.ps.now c.args.ts.now c.args.tb.now c.args.pb.now) in
    let q = target_queue c.args.s.to c.args.s.thread in
    is-killing v (is_some c.args.s.value) q c.args.s.signal c.if-s-eq0.false c.if-s-eq-SIGKILL.true

pub returns-then-s-eq-SIGSTOP : goal.returns-then-s-eq-SIGSTOP
unfolding generation_of
returns-then-s-eq-SIGSTOP c =
    let v = view_of (lent c.args.ps.now c.args.ts.now c.args.tb.now c.args.pb.now) in
    let q = target_queue c.args.s.to c.args.s.thread in
    is-stopping v (is_some c.args.s.value) q c.args.s.signal c.if-s-eq0.false c.if-s-eq-SIGKILL.false
    c.if-s-eq-SIGSTOP.true

pub action_of-requires : goal.action_of-requires
unfolding live_process view decoded
action_of-requires c =
    let l = lent c.args.ps.now c.args.ts.now c.args.tb.now c.args.pb.now in
    let v = view_of l in
    let p = c.args.s.to in
    let t = c.args.s.thread in
    record {
      live = process-present l c.requires.with_queue.sound p
          (target-process v p t (queue-target v p t c.requires.with_queue.live));
      le_signal = (omega (arith, c.if-s-eq0.false), c.requires.signal_le_signals);
    }

pub returns-then-is_ignored : goal.returns-then-is_ignored
unfolding generation_of
returns-then-is_ignored c =
    let l = lent c.args.ps.now c.args.ts.now c.args.tb.now c.args.pb.now in
    let p = c.args.s.to in
    let s = c.args.s.signal in
    let i =
    ignored-read l p s c.action_of.result c.is_ignored.result c.action_of.ensures
    c.is_ignored.ensures in
    is-dropping (view_of l) (is_some c.args.s.value) (target_queue p c.args.s.thread) s
    c.if-s-eq0.false c.if-s-eq-SIGKILL.false c.if-s-eq-SIGSTOP.false (sym i ∙ c.if-is_ignored.true)

pub is_absorbed-requires : goal.is_absorbed-requires
is_absorbed-requires c =
    record {
      with_queue = c.requires.with_queue;
      le_signal = (omega (arith, c.if-s-eq0.false), c.requires.signal_le_signals);
    }

pub returns-then-is_absorbed : goal.returns-then-is_absorbed
unfolding generation_of
returns-then-is_absorbed c =
    let l = lent c.args.ps.now c.args.ts.now c.args.tb.now c.args.pb.now in
    let p = c.args.s.to in
    let s = c.args.s.signal in
    let i =
    ignored-read l p s c.action_of.result c.is_ignored.result c.action_of.ensures
    c.is_ignored.ensures in
    is-absorbing (view_of l) (is_some c.args.s.value) (target_queue p c.args.s.thread) s
    c.if-s-eq0.false c.if-s-eq-SIGKILL.false c.if-s-eq-SIGSTOP.false (sym i ∙ c.if-is_ignored.false)
    (sym c.is_absorbed.ensures ∙ c.if-is_absorbed.true)

pub returns-then-is_some : goal.returns-then-is_some
unfolding generation_of
returns-then-is_some c =
    let l = lent c.args.ps.now c.args.ts.now c.args.tb.now c.args.pb.now in
    let p = c.args.s.to in
    let s = c.args.s.signal in
    let i =
    ignored-read l p s c.action_of.result c.is_ignored.result c.action_of.ensures
    c.is_ignored.ensures in
    is-keeping (view_of l) (is_some c.args.s.value) (target_queue p c.args.s.thread) s
    c.if-s-eq0.false c.if-s-eq-SIGKILL.false c.if-s-eq-SIGSTOP.false (sym i ∙ c.if-is_ignored.false)
    (sym c.is_absorbed.ensures ∙ c.if-is_absorbed.false) (sym c.is_some.ensures ∙ c.if-is_some.true)

pub returns : goal.returns
unfolding generation_of
returns c =
    let l = lent c.args.ps.now c.args.ts.now c.args.tb.now c.args.pb.now in
    let p = c.args.s.to in
    let s = c.args.s.signal in
    let i =
    ignored-read l p s c.action_of.result c.is_ignored.result c.action_of.ensures
    c.is_ignored.ensures in
    is-marking (view_of l) (is_some c.args.s.value) (target_queue p c.args.s.thread) s
    c.if-s-eq0.false c.if-s-eq-SIGKILL.false c.if-s-eq-SIGSTOP.false (sym i ∙ c.if-is_ignored.false)
    (sym c.is_absorbed.ensures ∙ c.if-is_absorbed.false) (sym c.is_some.ensures ∙ c.if-is_some.false)
