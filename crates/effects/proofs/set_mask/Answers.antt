-- `set_mask` meets its contract. Assumes nothing.
use mathlib.Core.Path.{refl}
use native.Mathlib.Omega.{arith}
use borrow.Author.Rules.{rules}
use Rattle.sound.specs.Lent.{view_of, lent}
use Rattle.sound.proofs.Facts.{threads-long, thread-present}
use Rattle.effects.proofs.Makes.{fits_one, makes}
use Rattle.effects.proofs.Fitted.{mask-live}
use Rattle.effects.proofs.Fields.{mask-store}
use Rattle.effects.proofs.set_mask.Goals as goal

pub live_thread-place-requires : goal.live_thread-place-requires
live_thread-place-requires c =
    let l = lent c.args.ps.now c.args.ts.now c.args.tb.now c.args.pb.now in
    let n = c.args.thread in
    thread-present l c.requires.sound n (mask-live (view_of l) n c.args.mask (fits_one c.requires))

pub put_thread_field-requires : goal.put_thread_field-requires
put_thread_field-requires c =
    let l = lent c.args.ps.now c.args.ts.now c.args.tb.now c.args.pb.now in
    let n = c.args.thread in
    let live = mask-live (view_of l) n c.args.mask (fits_one c.requires) in (
      threads-long l c.requires.sound,
      (c.live_thread-place.ensures.inside, omega arith),
    )

pub returns : goal.returns
returns c =
    let l = lent c.args.ps.now c.args.ts.now c.args.tb.now c.args.pb.now in
    let n = c.args.thread in
    let m = c.args.mask in
    let ts' = c.put_thread_field.new.ts in
    let live = mask-live (view_of l) n m (fits_one c.requires) in
    makes c.requires refl (search rules) refl refl
    (mask-store l c.requires.sound n c.live_thread-place.result live c.live_thread-place.ensures.place ts' m
    c.put_thread_field.ensures)
