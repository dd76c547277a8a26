-- Named values of the types.
use Rattle.std.specs.Prelude.{ℕ}
use Rattle.limits.specs.Limits.{sig_dfl}
use Rattle.sigset.specs.declared.SigSet.{SigSet}
use Rattle.sigset.specs.Set.{empty}
use Rattle.types.specs.declared.Action.{Action}
use Rattle.types.specs.declared.Siginfo.{Siginfo}
use Rattle.types.specs.declared.NewProcess.{NewProcess}

-- "the type's named default action (all zero)"
abbrev pub default_action : Action
default_action = record { handler = sig_dfl; flags = 0; mask = empty }

-- the record of a free slot: all zero
abbrev pub no_siginfo : Siginfo
no_siginfo = record { process = 0; thread = 0; signal = 0; code = 0; sender = 0; uid = 0; value = 0 }

-- a process to add, from its numbers and the mask
abbrev pub new_of : (id real effective saved session thread : ℕ) → SigSet → NewProcess
new_of id real effective saved session thread mask =
    record {
      id = id;
      real = real;
      effective = effective;
      saved = saved;
      session = session;
      thread = thread;
      mask = mask;
    }
