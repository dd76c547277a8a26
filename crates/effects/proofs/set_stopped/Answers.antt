-- `set_stopped` meets its contract. Assumes nothing.
use mathlib.Core.Path.{refl}
use Rattle.std.specs.Int.{from_bool}
use native.Mathlib.Omega.{arith}
use borrow.Author.Rules.{rules}
use Rattle.sound.specs.Lent.{view_of, lent}
use Rattle.sound.proofs.Facts.{processes-long, process-present}
use Rattle.effects.proofs.Makes.{fits_one, makes}
use Rattle.effects.proofs.Fitted.{stopped-live}
use Rattle.effects.proofs.Fields.{stopped-store}
use Rattle.effects.proofs.set_stopped.Goals as goal

pub live_process-place-requires : goal.live_process-place-requires
live_process-place-requires c =
    let l = lent c.args.ps.now c.args.ts.now c.args.tb.now c.args.pb.now in
    let n = c.args.process in
    process-present l c.requires.sound n (stopped-live (view_of l) n (from_bool c.args.stopped) (fits_one c.requires))

pub put_field-requires : goal.put_field-requires
put_field-requires c =
    let l = lent c.args.ps.now c.args.ts.now c.args.tb.now c.args.pb.now in
    let n = c.args.process in
    let live = stopped-live (view_of l) n (from_bool c.args.stopped) (fits_one c.requires) in (
      processes-long l c.requires.sound,
      (c.live_process-place.ensures.inside, omega arith),
    )

pub returns : goal.returns
returns c =
    let l = lent c.args.ps.now c.args.ts.now c.args.tb.now c.args.pb.now in
    let n = c.args.process in
    let b = from_bool c.args.stopped in
    let ps' = c.put_field.new.ps in
    let live = stopped-live (view_of l) n b (fits_one c.requires) in
    makes c.requires (search rules) refl refl refl
    (stopped-store l c.requires.sound n c.live_process-place.result live c.live_process-place.ensures.place ps' b
    c.put_field.ensures)
