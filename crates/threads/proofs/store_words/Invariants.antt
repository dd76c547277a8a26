-- The first i records are those of the words. Assumes nothing.
use Rattle.std.proofs.Common.{◌≡◌}
use Rattle.limits.specs.Limits.{thread_places}
use Rattle.threads.specs.Records.{records_of}
use Rattle.threads.proofs.Filled.{filled}
use Rattle.threads.proofs.store_words.Given as goal

abbrev pub invariant-loop-i : goal.invariant-loop-i
invariant-loop-i l = l.ts ≡ filled l.initial.ts (records_of thread_places l.ws) l.i
