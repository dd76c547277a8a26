-- `step` meets its contract, a case for each family. Assumes nothing.
use native.Mathlib.Omega.{arith}
use Rattle.siginfo.proofs.Numbers.{bytes-each}
use Rattle.types.specs.Answers.{answer_of}
use Rattle.sound.specs.Lent.{lent}
use Rattle.calls.specs.Calls.{call_of}
use Rattle.calls.proofs.Asked.{asked, nothing-changed, by-case}
use Rattle.calls.proofs.step.Goals as goal

pub returns-in-Clear : goal.returns-in-Clear
unfolding call_of
returns-in-Clear c =
    let r = c.clear in
    by-case call_of c.args.c _ c.in-Clear.is
    (lent c.args.ps.now c.args.ts.now c.args.tb.now c.args.pb.now) r.result
    (lent r.new.ps r.new.ts r.new.tb r.new.pb) r.ensures

pub returns-in-Place : goal.returns-in-Place
unfolding call_of
returns-in-Place c =
    let r = c.place in
    by-case call_of c.args.c _ c.in-Place.is
    (lent c.args.ps.now c.args.ts.now c.args.tb.now c.args.pb.now) r.result
    (lent r.new.ps r.new.ts r.new.tb r.new.pb) r.ensures

pub returns-in-Send : goal.returns-in-Send
unfolding call_of
returns-in-Send c =
    let r = c.send in
    by-case call_of c.args.c _ c.in-Send.is
    (lent c.args.ps.now c.args.ts.now c.args.tb.now c.args.pb.now) r.result
    (lent r.new.ps r.new.ts r.new.tb r.new.pb) r.ensures

pub returns-in-Set : goal.returns-in-Set
unfolding call_of
returns-in-Set c =
    let r = c.set in
    by-case call_of c.args.c _ c.in-Set.is
    (lent c.args.ps.now c.args.ts.now c.args.tb.now c.args.pb.now) r.result
    (lent r.new.ps r.new.ts r.new.tb r.new.pb) r.ensures

pub returns-in-Ask : goal.returns-in-Ask
unfolding call_of
returns-in-Ask c =
    let l = lent c.args.ps.now c.args.ts.now c.args.tb.now c.args.pb.now in
    let tb = bytes-each c.args.tb.now (λ k₀. omega (arith, c.slice_known-3-1.given k₀)) in
    let pb = bytes-each c.args.pb.now (λ k₀. omega (arith, c.slice_known-4-1.given k₀)) in
    by-case call_of c.args.c _ c.in-Ask.is l c.ask.result l
    (asked _ l (answer_of c.ask.result) c.ask.ensures tb pb (nothing-changed _ _))

pub returns-in-Take : goal.returns-in-Take
unfolding call_of
returns-in-Take c =
    let r = c.take in
    by-case call_of c.args.c _ c.in-Take.is
    (lent c.args.ps.now c.args.ts.now c.args.tb.now c.args.pb.now) r.result
    (lent r.new.ps r.new.ts r.new.tb r.new.pb) r.ensures
