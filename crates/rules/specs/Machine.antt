-- Arguments as they can be passed: ids, user ids, signals and ways are 32-bit numbers;
-- sets, values, handler numbers and flags 64-bit ones.
use Rattle.std.specs.Prelude.{ℕ, ◌^◌, Bool, true, ◌&&◌, leb, ltb}
use Rattle.std.proofs.Math.Option.{Option, some, none}
use Rattle.limits.specs.Limits.{largest_user}
use Rattle.sigset.specs.declared.SigSet.{SigSet}
use Rattle.types.specs.declared.Action.{Action}
use Rattle.rules.specs.Types.{Call, clear, add_process, add_thread, end_process, end_thread, kill, sigqueue}
use Rattle.rules.specs.Types.{sigaction, sigmask, sigpending, look, who, take, sigreturn}

unfoldable pub is_u32 : ℕ → Bool
is_u32 n = leb n largest_user

unfoldable pub is_u64 : ℕ → Bool
is_u64 n = ltb n (2 ^ 64)

unfoldable pub machine_action : Option Action → Bool
machine_action none = true
machine_action (some a) = is_u64 a.handler && (is_u64 a.flags && is_u64 a.mask.0)

unfoldable pub machine_set : Option SigSet → Bool
machine_set none = true
machine_set (some m) = is_u64 m.0

unfoldable pub machine : Call → Bool
machine clear = true
machine (add_process new) =
    is_u32 new.id
    && (is_u32 new.real
    && (is_u32 new.effective
    && (is_u32 new.saved && (is_u32 new.session && (is_u32 new.thread && is_u64 new.mask.0)))))
machine (add_thread creator id) = is_u32 creator && is_u32 id
machine (end_process id) = is_u32 id
machine (end_thread id) = is_u32 id
machine (kill by to t s) = is_u32 by && (is_u32 to && (is_u32 t && is_u32 s))
machine (sigqueue by to t s value) = is_u32 by && (is_u32 to && (is_u32 t && (is_u32 s && is_u64 value)))
machine (sigaction p s new) = is_u32 p && (is_u32 s && machine_action new)
machine (sigmask t way set) = is_u32 t && (is_u32 way && machine_set set)
machine (sigpending t) = is_u32 t
machine (look t) = is_u32 t
machine (who p) = is_u32 p
machine (take t) = is_u32 t
machine (sigreturn t m) = is_u32 t && is_u64 m.0
