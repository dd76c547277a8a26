-- The answer of a call as document 01 says it, with its refusal's number, and what code hands back for it.
use Rattle.std.specs.Prelude.{ℕ, Result, Ok, Err, Option, Some, None}
use Rattle.std.proofs.Math.Option as math
use Rattle.limits.specs.Limits as limits
use Rattle.types.specs.declared.Errno.{Errno}
use Rattle.types.specs.declared.Errno.TheVariants as errno
use Rattle.types.specs.declared.Reply.{Reply}

-- refused, with the errno, or accepted, with what is replied
pub data Answer : Type 0 where
  Refused : (errno : ℕ) → Answer
  Accepted : (reply : Reply) → Answer

-- the number of an errno
abbrev pub number : Errno → ℕ
number errno.EPERM = limits.EPERM
number errno.ESRCH = limits.ESRCH
number errno.EAGAIN = limits.EAGAIN
number errno.EFAULT = limits.EFAULT
number errno.EEXIST = limits.EEXIST
number errno.EINVAL = limits.EINVAL

-- what is handed back, as the answer that it is
abbrev pub answer_of : Result Reply Errno → Answer
answer_of (Ok r) = Accepted r
answer_of (Err e) = Refused (number e)

-- the number of what refuses, else 0
abbrev pub refused_by : {A : Type 0} → Result A Errno → ℕ
refused_by (Ok a) = 0
refused_by (Err e) = number e

-- an argument that may be left out, as the rules have it
abbrev pub given : {A : Type 0} → Option A → math.Option A
given None = math.none
given (Some a) = math.some a
