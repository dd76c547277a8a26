-- What is decided of a send, by the rules.
use Rattle.std.specs.Prelude.{ℕ, ◌≡◌, Bool, cond, Result, Ok, Err, is_some, unwrap_or}
use Rattle.types.specs.declared.Siginfo.{Siginfo}
use Rattle.types.specs.declared.Errno.{Errno}
use Rattle.types.specs.Answers.{number}
use Rattle.rules.specs.Types.{Call, kill, sigqueue}
use Rattle.rules.specs.View.{target_queue}
use Rattle.rules.specs.Sending.{generation, info_of}
use Rattle.sound.specs.Lent.{Lent, view_of}
use Rattle.answers.specs.Step.{refusal_on}
use Rattle.sending.specs.Generations.{generation_of}
use Rattle.sending.specs.declared.Request.{Request}
use Rattle.sending.specs.declared.Generation.{Generation}

-- the call that a send is
abbrev pub send_call : (queued : Bool) (by to thread signal value : ℕ) → Call
send_call queued by to t s value = cond queued (sigqueue by to t s value) (kill by to t s)

-- "a queued send" has a value; a plain one counts as one of 0, which nothing reads
abbrev pub value_of : Request → ℕ
value_of s = unwrap_or s.value 0

abbrev pub call_of : Request → Call
call_of s = send_call (is_some s.value) s.by s.to s.thread s.signal (value_of s)

module _ (l : Lent) (s : Request) where
  -- the number of the refusal, or the generation and the record where there is none
  unfoldable pub Decided : Result (Generation × Siginfo) Errno → Type 0
  Decided (Err e) = number e ≡ refusal_on (call_of s) l
  Decided (Ok (f, r)) =
      (refusal_on (call_of s) l ≡ 0)
      × ((generation_of f ≡ generation (view_of l) (is_some s.value) (target_queue s.to s.thread) s.signal)
      × (r ≡ info_of (view_of l) s.by s.to s.thread s.signal (value_of s)))
