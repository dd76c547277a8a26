-- `used` meets its contract. Assumes nothing.
use mathlib.Core.Path.{sym, ap, ◌∙◌}
use mathlib.Core.Bool.{not}
use Rattle.std.proofs.Common.{rules, tests}
use Rattle.limits.specs.Limits.{buffer_records, record_bytes}
use Rattle.lists.specs.Rows.{row}
use Rattle.types.specs.Values.{no_siginfo}
use Rattle.siginfo.specs.Bytes.{siginfo_of}
use Rattle.rules.specs.Store.{in_use, used}
use Rattle.queue.specs.Queue.{slots_of, records_of}
use Rattle.queue.proofs.Buffer.{length-slots_of, slot_read}
use Rattle.queue.proofs.Places.{places-find, find-leading}
use Rattle.queue.proofs.used.Goals as goal

pub returns : goal.returns
unfolding records_of used
returns c =
    let b = c.args.b.now in
    c.unwrap_or.ensures
    ∙ places-find (λ r. not (in_use r)) no_siginfo _ _ _ buffer_records c.position.result
    (λ i. not (in_use (siginfo_of (row record_bytes b i)))) (slots_of b) (length-slots_of b)
    (λ i h. ap (λ r. not (in_use r)) (sym (slot_read b i no_siginfo h)))
    c.position.ensures.ran (λ x t q k. search (rules, tests))
    ∙ find-leading in_use (slots_of b)
