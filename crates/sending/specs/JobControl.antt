-- Job control in the order in which code makes it: what is discarded, and then whether the process stops or runs.
use Rattle.std.specs.Prelude.{ℕ, Bool, ◌||◌, cond, eqb}
use Rattle.limits.specs.Limits.{SIGCONT, SIGSTOP}
use Rattle.sigset.specs.declared.SigSet.{SigSet}
use Rattle.sigset.specs.Set.{set_of, of_signal}
use Rattle.rules.specs.Signals.{stop_signal}

unfoldable pub controls : ℕ → Bool
controls s = eqb s SIGCONT || (eqb s SIGSTOP || stop_signal s)

unfoldable pub discarded_by : ℕ → SigSet
discarded_by s = cond (eqb s SIGCONT) (set_of stop_signal) (of_signal SIGCONT)
