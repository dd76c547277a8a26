-- `set_action` meets its contract. Assumes nothing.
use mathlib.Core.Path.{refl}
use borrow.Author.Rules.{rules}
use Rattle.sound.specs.Lent.{view_of, lent}
use Rattle.sound.proofs.Facts.{processes-long, process-present}
use Rattle.effects.proofs.Makes.{fits_one, makes}
use Rattle.effects.proofs.Fitted.{action-live, action-signal}
use Rattle.effects.proofs.Fields.{action-store}
use Rattle.effects.proofs.set_action.Goals as goal

pub live_process-place-requires : goal.live_process-place-requires
live_process-place-requires c =
    let l = lent c.args.ps.now c.args.ts.now c.args.tb.now c.args.pb.now in
    let n = c.args.process in
    process-present l c.requires.sound n (action-live (view_of l) n c.args.signal c.args.a (fits_one c.requires))

pub put_action-requires : goal.put_action-requires
put_action-requires c =
    let l = lent c.args.ps.now c.args.ts.now c.args.tb.now c.args.pb.now in
    let n = c.args.process in
    let v = view_of l in
    let live = action-live v n c.args.signal c.args.a (fits_one c.requires) in
    let signal = action-signal v n c.args.signal c.args.a (fits_one c.requires) in (
      processes-long l c.requires.sound,
      (c.live_process-place.ensures.inside, (signal.low, signal.high)),
    )

pub returns : goal.returns
returns c =
    let l = lent c.args.ps.now c.args.ts.now c.args.tb.now c.args.pb.now in
    let n = c.args.process in
    let s = c.args.signal in
    let ps' = c.put_action.new.ps in
    let live = action-live (view_of l) n s c.args.a (fits_one c.requires) in
    makes c.requires (search rules) refl refl refl
    (action-store l c.requires.sound n c.live_process-place.result live c.live_process-place.ensures.place ps' s
    c.args.a c.put_action.ensures)
