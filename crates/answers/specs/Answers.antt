-- What is next, as the rules say it.
use Rattle.std.specs.Prelude.{Some, None, Option as Maybe}
use Rattle.types.specs.declared.Pending.{Pending}
use Rattle.types.specs.declared.Pending.TheVariants.{Mark, Record}
use Rattle.rules.specs.View.{target_queue, queue_of}
use Rattle.rules.specs.Types.{Next, no_next, next_mark, next_record}

-- a record is the oldest of its own queue and signal
unfoldable pub next_from : Pending → Next
next_from (Mark process thread s) = next_mark (target_queue process thread) s
next_from (Record r) = next_record (queue_of r) r.signal r

unfoldable pub next_of : Maybe Pending → Next
next_of None = no_next
next_of (Some x) = next_from x
