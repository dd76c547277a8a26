-- `hand_back` meets its contract: one mask of the row, or all of its records. Assumes nothing.
use mathlib.Core.Path.{sym, ap, ◌∙◌}
use Rattle.limits.specs.Limits.{thread_places}
use Rattle.lists.proofs.Bools.{cond-true, cond-false}
use Rattle.threads.specs.Records.{with_mask_at, records_of}
use Rattle.rrezhbuta.specs.Entry.{mask_in, row_after}
use Rattle.rrezhbuta.proofs.hand_back.Goals as goal

pub returns-then-number : goal.returns-then-number
unfolding row_after
returns-then-number c =
    let t = c.args.thread in
    let ts = c.args.ts.now in
    let ws = c.args.ws.now in
    c.put_mask.ensures ∙ ap (λ m. with_mask_at t m ts) c.mask_of-mask.ensures
    ∙ sym (cond-true (with_mask_at t (mask_in ws t) ts) (records_of thread_places ws) c.if-number.true)

pub returns-else-number : goal.returns-else-number
unfolding row_after
returns-else-number c =
    let t = c.args.thread in
    let ts = c.args.ts.now in
    let ws = c.args.ws.now in
    c.store_words.ensures
    ∙ sym (cond-false (with_mask_at t (mask_in ws t) ts) (records_of thread_places ws) c.if-number.false)
