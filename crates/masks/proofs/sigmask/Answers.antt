-- `sigmask` meets its contract: refused, enquired, or changed. Assumes nothing.
use mathlib.Core.Path.{refl, sym, ap, ◌∙◌}
use native.Mathlib.Omega.{arith}
use Rattle.siginfo.proofs.Numbers.{bytes-each}
use Rattle.rules.specs.Types.{sigmask}
use Rattle.sound.proofs.Facts.{thread-present}
use Rattle.sound.specs.Lent.{lent}
use Rattle.answers.proofs.Endings.{turned-away}
use Rattle.types.specs.Answers.{given, refused_by}
use Rattle.types.proofs.Given.{given-none}
use Rattle.masks.proofs.Masks.{mask-sound, mask-live, mask-kept, mask-ready, mask-stored}
use borrow.Author.Rules.{rules}
use Rattle.masks.proofs.sigmask.Goals as goal

pub returns-in_err-check_mask : goal.returns-in_err-check_mask
returns-in_err-check_mask c =
    let l = lent c.args.ps.now c.args.ts.now c.args.tb.now c.args.pb.now in
    let t = c.args.thread in
    let way = c.args.way in
    let set = given c.args.set in
    turned-away (sigmask t way set) l c.check_mask.result c.check_mask.ensures c.from_residual.result
    c.in_err-check_mask.field-0.0 c.in_err-check_mask.was c.from_residual.ensures.1

pub mask_of-old-requires : goal.mask_of-old-requires
mask_of-old-requires c =
    let l = lent c.args.ps.now c.args.ts.now c.args.tb.now c.args.pb.now in
    let t = c.args.thread in
    let way = c.args.way in
    let set = given c.args.set in
    let e = sym c.check_mask.ensures ∙ ap refused_by c.in_ok-check_mask.was in
    thread-present l (mask-sound l t way set e) t (mask-live l t way set e)

pub set_mask-requires : goal.set_mask-requires
set_mask-requires c =
    let l = lent c.args.ps.now c.args.ts.now c.args.tb.now c.args.pb.now in
    let t = c.args.thread in
    let way = c.args.way in
    let set = given c.args.set in
    let e =
    sym
    c.check_mask.ensures
    ∙ ap refused_by c.in_ok-check_mask.was in
    mask-ready l t way set e c.mask_of-old.result c.mask_of-old.ensures
    c.in-Some.s c.mask_after.result
    (ap given c.in-Some.is) c.mask_after.ensures

pub returns-in_default : goal.returns-in_default
returns-in_default c =
    let l = lent c.args.ps.now c.args.ts.now c.args.tb.now c.args.pb.now in
    let t = c.args.thread in
    let way = c.args.way in
    let set = given c.args.set in
    let e =
    sym c.check_mask.ensures
    ∙ ap refused_by c.in_ok-check_mask.was in
    mask-kept l t way set e c.mask_of-old.result c.mask_of-old.ensures
    (given-none c.args.set c.in_default.not-Some)
    (bytes-each l.thread_buffer (λ k₀. omega (arith, c.slice_known-3-1.given k₀)))
    (bytes-each l.process_buffer (λ k₀. omega (arith, c.slice_known-4-1.given k₀)))

pub returns-in-Some : goal.returns-in-Some
returns-in-Some c =
    let l = lent c.args.ps.now c.args.ts.now c.args.tb.now c.args.pb.now in
    let t = c.args.thread in
    let way = c.args.way in
    let set = given c.args.set in
    let e = sym c.check_mask.ensures
    ∙ ap refused_by c.in_ok-check_mask.was in
    mask-stored l t way set e c.mask_of-old.result c.mask_of-old.ensures
    c.in-Some.s
    c.mask_after.result
    (ap given c.in-Some.is)
    c.mask_after.ensures
    (lent l.processes c.set_mask.new.ts l.thread_buffer l.process_buffer)
    (record { processes = refl; threads = search rules; thread_buffer = refl; process_buffer = refl })
    (bytes-each l.thread_buffer (λ k₀. omega (arith, c.slice_known-3-1.given k₀)))
    (bytes-each l.process_buffer (λ k₀. omega (arith, c.slice_known-4-1.given k₀)))
    c.set_mask.ensures
