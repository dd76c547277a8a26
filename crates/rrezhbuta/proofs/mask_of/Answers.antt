-- `mask_of` meets its contract. Assumes nothing.
use Rattle.std.proofs.Common.{sym, ◌∙◌, arith}
use Rattle.rrezhbuta.proofs.MaskChanges.{mask-absent, mask-held, mask-inside}
use Rattle.rrezhbuta.proofs.mask_of.Goals as goal

pub thread_field_at-requires : goal.thread_field_at-requires
thread_field_at-requires c = (
  c.requires,
  (
    mask-inside c.args.ws.now c.args.id c.in-Some.place (sym c.thread_place.ensures ∙ c.in-Some.is),
    omega arith,
  ),
)

pub returns-in-Some : goal.returns-in-Some
returns-in-Some c =
    mask-held c.args.ws.now c.args.id c.in-Some.place (sym c.thread_place.ensures ∙ c.in-Some.is)
    c.thread_field_at.result c.thread_field_at.ensures

pub returns-in-None : goal.returns-in-None
returns-in-None c = mask-absent c.args.ws.now c.args.id (sym c.thread_place.ensures ∙ c.in-None.is)
