-- "Signals and sets": which signals are standard, and what each does by default.
use Rattle.std.specs.Prelude.{ℕ, Bool, ◌&&◌, ◌||◌, cond, eqb, leb}
use Rattle.limits.specs.Limits.{signals, last_standard, SIGCHLD, SIGCONT, SIGSTOP, SIGTSTP, SIGTTIN, SIGTTOU, SIGURG}
use Rattle.limits.specs.Limits.{SIGWINCH, sig_dfl, sig_ign}
use Rattle.types.specs.declared.Action.{Action}

-- "Numbers are 1 to 64"
unfoldable pub is_signal : ℕ → Bool
is_signal s = leb 1 s && leb s signals

-- "1 to 31 are standard, 32 to 64 realtime"
unfoldable pub standard : ℕ → Bool
standard s = leb 1 s && leb s last_standard

-- "nothing kept (ignore) for CHLD 17, URG 23, WINCH 28"
unfoldable pub ignoring : ℕ → Bool
ignoring s = eqb s SIGCHLD || (eqb s SIGURG || eqb s SIGWINCH)

-- the stop signals that can be pending: "TSTP, TTIN, TTOU"
unfoldable pub stop_signal : ℕ → Bool
stop_signal s = eqb s SIGTSTP || (eqb s SIGTTIN || eqb s SIGTTOU)

pub data Outcome : Type 0 where
  ignores stops continues ends : Outcome

-- "Default outcome: nothing kept (ignore) ..; stop for STOP 19, TSTP 20, TTIN 21, TTOU 22; continue for CONT 18;
-- end the process for every other number, realtime included."
unfoldable pub outcome : ℕ → Outcome
outcome s =
    cond (ignoring s) ignores
    (cond (eqb s SIGSTOP || stop_signal s) stops
    (cond (eqb s SIGCONT) continues ends))

-- "the action is ignore, or default with an ignoring signal"
unfoldable pub ignored : Action → ℕ → Bool
ignored a s = eqb a.handler sig_ign || (eqb a.handler sig_dfl && ignoring s)
