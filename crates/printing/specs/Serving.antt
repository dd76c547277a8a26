-- A call as the programs make it: on their tables, with no word written before it.
use Rattle.std.specs.Prelude.{replicate, slice_index}
use Rattle.limits.specs.Limits.{answer_words}
use Rattle.sound.specs.Lent.{lent}
use Rattle.boundary.specs.declared.Arguments.{Arguments}
use Rattle.boundary.specs.Boundary.{arguments, Served, served}
use Rattle.printing.specs.declared.Call.{Call}
use Rattle.printing.specs.declared.Tables.{Tables}

abbrev pub arguments_of : Call → Arguments
arguments_of c =
    arguments (slice_index c.words 0) (slice_index c.words 1) (slice_index c.words 2) (slice_index c.words 3)
    (slice_index c.words 4) (slice_index c.words 5) (slice_index c.wide 0) (slice_index c.wide 1) (slice_index c.wide 2)

abbrev pub served_on : Tables → Call → Served
served_on t c =
    served c.number (arguments_of c) (replicate answer_words 0)
    (lent t.processes t.threads t.thread_buffer t.process_buffer)
