-- `start_handler` meets its contract: the mask, and the reset where the action is reset. Assumes nothing.
use mathlib.Core.Path.{◌∙◌, sym}
use Rattle.effects.proofs.Makes.{ready-first, ready-last, made-last, made_as}
use Rattle.effects.specs.Effects.{thread_of}
use Rattle.taking.proofs.Handlers.{starts, keeping, resetting}
use Rattle.taking.proofs.start_handler.Goals as goal

pub set_mask-requires : goal.set_mask-requires
set_mask-requires c =
    let t = thread_of c.args.thread c.args.process c.args.mask in
    ready-first c.requires (starts t c.args.a c.args.signal c.handler_mask.result c.handler_mask.ensures)

pub store_action-requires : goal.store_action-requires
store_action-requires c =
    let t = thread_of c.args.thread c.args.process c.args.mask in
    let m = c.handler_mask in
    let w = c.set_mask in
    let r =
    sym c.is_reset.ensures
    ∙ c.if-is_reset.true in
    ready-last c.requires w.ensures
    (resetting t c.args.a c.args.signal m.result m.ensures r c.reset_of.result c.reset_of.ensures)

pub returns-then-is_reset : goal.returns-then-is_reset
returns-then-is_reset c =
    let t = thread_of c.args.thread c.args.process c.args.mask in
    let m = c.handler_mask in
    let w = c.set_mask in
    let r = sym c.is_reset.ensures
    ∙ c.if-is_reset.true in
    let n = c.reset_of in
    let x = c.store_action in
    made-last w.ensures x.ensures
    (resetting t c.args.a c.args.signal m.result m.ensures r n.result n.ensures)

pub returns-else-is_reset : goal.returns-else-is_reset
returns-else-is_reset c =
    let t = thread_of c.args.thread c.args.process c.args.mask in
    let m = c.handler_mask in
    let w = c.set_mask in
    let r = sym c.is_reset.ensures ∙ c.if-is_reset.false in
    made_as w.ensures (keeping t c.args.a c.args.signal m.result m.ensures r)
