-- `is_job_control` meets its contract. Assumes nothing.
use mathlib.Core.Path.{refl}
use Rattle.rules.specs.Signals.{stop_signal}
use Rattle.sending.specs.JobControl.{controls}
use Rattle.sending.proofs.is_job_control.Goals as goal

pub returns : goal.returns
unfolding controls stop_signal
returns c = refl
