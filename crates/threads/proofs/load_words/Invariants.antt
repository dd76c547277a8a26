-- The words of the first i records are written. Assumes nothing.
use Rattle.std.proofs.Common.{◌≡◌}
use Rattle.threads.proofs.Words.{written}
use Rattle.threads.proofs.load_words.Given as goal

abbrev pub invariant-loop-i : goal.invariant-loop-i
invariant-loop-i l = l.ws ≡ written l.initial.ws l.ts l.i
