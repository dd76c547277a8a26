-- "Numbers to run against": the starred rows, by computation, and the three "Readings that bit us".
-- Each row is a list of calls from a cleared store, and what they answer.
use Rattle.std.specs.Prelude.{ℕ, zero, suc, ◌≡◌, refl, true, List, [], ◌∷◌, ◌++◌}
use Rattle.std.proofs.Common.{ap, ◌∙◌}
use Rattle.std.proofs.Math.Option.{some, none}
use Rattle.limits.specs.Limits.{si_queue, record_limit, sa_nodefer, sa_resethand, SIGKILL, SIGCHLD, SIGCONT, SIGSTOP}
use Rattle.limits.specs.Limits.{EINVAL, EAGAIN, ESRCH}
use Rattle.lists.specs.Lists.{All, all}
use Rattle.sigset.specs.declared.SigSet.{SigSet}
use Rattle.sigset.specs.Set.{bits, empty, of_signal}
use Rattle.types.specs.declared.Action.{Action}
use Rattle.types.specs.declared.Siginfo.{Siginfo}
use Rattle.types.specs.Values.{default_action}
use Rattle.types.specs.Answers.{Answer}
use Rattle.rules.specs.Types.{Call, add_thread, end_process, end_thread, kill, sigqueue, sigaction, sigmask, sigpending}
use Rattle.rules.specs.Types.{look, who, take, sigreturn}
use Rattle.rules.specs.Store.{Store, cleared}
use Rattle.rules.specs.Calls.{run}
use Rattle.rules.specs.Machine.{machine}
use Rattle.rules.specs.Computing.{computing}
use Rattle.rules.proofs.Cleared.{sound-cleared}
use Rattle.rules.proofs.QuickRuns.{quick_computing, quick_run, same-run}
use Rattle.examples.specs.Words.{adds, refused, done, tested, acted, dropped, marked, kept, old_action, old_mask}
use Rattle.examples.specs.Words.{pending_set, nothing, handler}

pub answers : List Call → List Answer
answers cs = (run cs cleared).1

pub record Case : Type 0 where
  pub calls : List Call
  pub expected : List Answer

abbrev pub Holds : Case → Type 0
Holds c = answers c.calls ≡ c.expected

-- a case holds if it does by the rows below 14, which are quicker to compute
pub holds : (c : Case) → all machine c.calls ≡ true → (quick_run c.calls cleared).1 ≡ c.expected → Holds c
unfolding answers
holds c u e = ap (λ (x : Store × List Answer). x.1) (same-run c.calls cleared u sound-cleared) ∙ e

-- ---- what the cases share: process 100 with thread 200, which signals itself

abbrev one : SigSet → Call
one m = adds 100 1000 1000 1000 7 200 m

-- a handler with these flags and this mask
abbrev handling : ℕ → ℕ → Action
handling flags m = record { handler = 5000; flags = flags; mask = bits m }

abbrev handles : ℕ → Call
handles s = sigaction 100 s (some (handling 0 0))

-- the mask, asked for
abbrev mask_now : Call
mask_now = sigmask 200 7 none

abbrev sent : (thread signal value : ℕ) → Siginfo
sent t s x = record { process = 100; thread = t; signal = s; code = si_queue; sender = 100; uid = 1000; value = x }

abbrev of_mark : ℕ → Siginfo
of_mark s = record { process = 100; thread = 0; signal = s; code = 0; sender = 0; uid = 0; value = 0 }

-- a flagless handler runs for what was sent, from mask 0
abbrev runs : Siginfo → Answer
runs r = handler 5000 r.signal r 0 empty

-- "a return follows each take"
abbrev taken : List Call
taken = take 200 ∷ sigreturn 200 empty ∷ []

unfoldable pub times : {A : Type 0} → ℕ → List A → List A
times zero l = []
times (suc n) l = l ++ times n l

-- signal 10 taken under an action with these flags and this mask, from mask 0, and the mask then
abbrev handler_case : (flags m after : ℕ) → Case
handler_case flags m after =
    record {
      calls =
          one empty ∷ sigaction 100 10 (some (handling flags m)) ∷ kill 100 100 0 10 ∷ take 200 ∷ mask_now
          ∷ sigreturn 200 empty ∷ [];
      expected =
          done ∷ old_action default_action ∷ marked ∷ handler 5000 10 (of_mark 10) flags empty ∷ old_mask (bits after)
          ∷ old_mask (bits after) ∷ [];
    }

-- ---- the starred rows

-- 1: "Mask 0, way 0, all ones: mask 18446744073709289215, old 0."
abbrev case1 : Case
case1 =
    record {
      calls = one empty ∷ sigmask 200 0 (some (bits 18446744073709551615)) ∷ mask_now ∷ [];
      expected = done ∷ old_mask empty ∷ old_mask (bits 18446744073709289215) ∷ [];
    }

-- 2: "Mask 6, way 1, set 2: mask 4."
abbrev case2 : Case
case2 =
    record {
      calls = one (bits 6) ∷ sigmask 200 1 (some (bits 2)) ∷ mask_now ∷ [];
      expected = done ∷ old_mask (bits 6) ∷ old_mask (bits 4) ∷ [];
    }

-- 3: "Mask 6, way 7, no set: 6, accepted. With a set: 22."
abbrev case3 : Case
case3 =
    record {
      calls = one (bits 6) ∷ sigmask 200 7 none ∷ sigmask 200 7 (some (bits 1)) ∷ mask_now ∷ [];
      expected = done ∷ old_mask (bits 6) ∷ refused EINVAL ∷ old_mask (bits 6) ∷ [];
    }

-- 4: "Signal 10 with action mask 2048 from mask 0: mask 2560. With NODEFER: 2048.
-- Action mask all ones: 18446744073709289215."
abbrev case4 : Case
case4 = handler_case 0 2048 2560

abbrev case4_nodefer : Case
case4_nodefer = handler_case sa_nodefer 2048 2048

abbrev case4_full : Case
case4_full = handler_case 0 18446744073709551615 18446744073709289215

-- 5: "40 queued with 1, 2, 3, blocked, then unblocked: taken 1, 2, 3."
abbrev case5 : Case
case5 =
    record {
      calls =
          one (of_signal 40) ∷ handles 40 ∷ sigqueue 100 100 0 40 1 ∷ sigqueue 100 100 0 40 2 ∷ sigqueue 100 100 0 40 3
          ∷ take 200
          ∷ sigmask 200 1 (some (of_signal 40)) ∷ (times 3 taken ++ (take 200 ∷ []));
      expected =
          done ∷ old_action default_action ∷ kept ∷ kept ∷ kept ∷ nothing
          ∷ old_mask (bits 549755813888) ∷ runs (sent 0 40 1) ∷ old_mask (bits 549755813888) ∷ runs (sent 0 40 2)
          ∷ old_mask (bits 549755813888) ∷ runs (sent 0 40 3) ∷ old_mask (bits 549755813888) ∷ nothing ∷ [];
    }

-- 6: "35 then 34 queued: 34 first."
abbrev case6 : Case
case6 =
    record {
      calls = one empty ∷ handles 34 ∷ handles 35 ∷ sigqueue 100 100 0 35 1 ∷ sigqueue 100 100 0 34 2 ∷ times 2 taken;
      expected =
          done ∷ old_action default_action ∷ old_action default_action ∷ kept ∷ kept
          ∷ runs (sent 0 34 2) ∷ old_mask (bits 8589934592) ∷ runs (sent 0 35 1) ∷ old_mask (bits 17179869184) ∷ [];
    }

-- 6: "34 to the process, 35 to the thread: 34 first."
abbrev case6_queues : Case
case6_queues =
    record {
      calls = one empty ∷ handles 34 ∷ handles 35 ∷ sigqueue 100 100 0 34 1 ∷ sigqueue 100 100 200 35 2 ∷ times 2 taken;
      expected =
          done ∷ old_action default_action ∷ old_action default_action ∷ kept ∷ kept
          ∷ runs (sent 0 34 1) ∷ old_mask (bits 8589934592) ∷ runs (sent 200 35 2) ∷ old_mask (bits 17179869184) ∷ [];
    }

-- 8: "The 32nd record is kept, the 33rd answers 11; after one is taken the next is kept."
abbrev case8 : Case
case8 =
    record {
      calls =
          one empty ∷ handles 34
          ∷ (times (suc record_limit) (sigqueue 100 100 0 34 7 ∷ [])
          ++ (taken ++ (sigqueue 100 100 0 34 8 ∷ sigqueue 100 100 0 34 9 ∷ [])));
      expected =
          done ∷ old_action default_action
          ∷ (times record_limit (kept ∷ [])
          ++ (refused EAGAIN ∷ runs (sent 0 34 7) ∷ old_mask (bits 8589934592) ∷ kept ∷ refused EAGAIN ∷ []));
    }

-- 10: "CHLD at default: dropped. KILL enquired: default; with a new action: 22."
abbrev case10 : Case
case10 =
    record {
      calls =
          one empty ∷ kill 100 100 0 SIGCHLD ∷ sigaction 100 SIGKILL none
          ∷ sigaction 100 SIGKILL (some (handling 0 0)) ∷ [];
      expected = done ∷ dropped ∷ old_action default_action ∷ refused EINVAL ∷ [];
    }

abbrev starred_cases : List Case
starred_cases =
    case1 ∷ case2 ∷ case3 ∷ case4 ∷ case4_nodefer ∷ case4_full ∷ case5 ∷ case6 ∷ case6_queues ∷ case8 ∷ case10 ∷ []

pub starred : All Holds starred_cases
unfolding times computing quick_computing
starred = (
  holds case1 refl refl,
  (
    holds case2 refl refl,
    (
      holds case3 refl refl,
      (
        holds case4 refl refl,
        (
          holds case4_nodefer refl refl,
          (
            holds case4_full refl refl,
            (
              holds case5 refl refl,
              (
                holds case6 refl refl,
                (holds case6_queues refl refl, (holds case8 refl refl, (holds case10 refl refl, tt))),
              ),
            ),
          ),
        ),
      ),
    ),
  ),
)

-- ---- "Readings that bit us"

-- "Unblocking as an intersection with the set": 7 less 3 is 4, and the intersection would be 3
abbrev unblocking : Case
unblocking =
    record {
      calls = one (bits 7) ∷ sigmask 200 1 (some (bits 3)) ∷ mask_now ∷ [];
      expected = done ∷ old_mask (bits 7) ∷ old_mask (bits 4) ∷ [];
    }

-- "CONT treated as unblockable": it stays pending while it is blocked, and is taken once it is not;
-- the process runs at once
abbrev blocked_cont : Case
blocked_cont =
    record {
      calls =
          one (of_signal SIGCONT) ∷ handles SIGCONT ∷ handles 10 ∷ kill 100 100 0 10 ∷ kill 100 100 0 SIGSTOP
          ∷ take 200 ∷ kill 100 100 0 SIGCONT ∷ sigpending 200
          ∷ take 200 ∷ sigreturn 200 (of_signal SIGCONT) ∷ take 200 ∷ sigmask 200 1 (some (of_signal SIGCONT)) ∷ taken;
      expected =
          done ∷ old_action default_action ∷ old_action default_action ∷ marked ∷ acted ∷ nothing ∷ marked
          ∷ pending_set (bits 131072) ∷ handler 5000 10 (of_mark 10) 0 (bits 131072) ∷ old_mask (bits 131584) ∷ nothing
          ∷ old_mask (bits 131072) ∷ runs (of_mark SIGCONT) ∷ old_mask (bits 131072) ∷ [];
    }

-- "RESETHAND taken to imply NODEFER": the signal is added to the mask, and the action is the default afterwards
abbrev reset_handler : Case
reset_handler =
    record {
      calls =
          one empty ∷ sigaction 100 10 (some (handling sa_resethand 2048)) ∷ kill 100 100 0 10 ∷ take 200 ∷ mask_now
          ∷ sigaction 100 10 none ∷ [];
      expected =
          done ∷ old_action default_action ∷ marked ∷ handler 5000 10 (of_mark 10) sa_resethand empty
          ∷ old_mask (bits 2560)
          ∷ old_action (record { handler = 0; flags = sa_resethand; mask = bits 2048 }) ∷ [];
    }

abbrev reading_cases : List Case
reading_cases = unblocking ∷ blocked_cont ∷ reset_handler ∷ []

pub readings : All Holds reading_cases
unfolding times computing quick_computing
readings = (holds unblocking refl refl, (holds blocked_cont refl refl, (holds reset_handler refl refl, tt)))

-- ---- numbers that are no signal, no id and no way

abbrev no_signal : Case
no_signal =
    record {
      calls =
          one empty ∷ kill 100 100 0 4294967295 ∷ sigqueue 100 100 0 4294967295 1 ∷ sigaction 100 4294967295 none
          ∷ sigaction 100 0 none ∷ kill 100 100 0 65 ∷ kill 100 100 0 0 ∷ [];
      expected =
          done ∷ refused EINVAL ∷ refused EINVAL ∷ refused EINVAL ∷ refused EINVAL ∷ refused EINVAL ∷ tested ∷ [];
    }

abbrev no_id : Case
no_id =
    record {
      calls =
          adds 0 0 0 0 0 200 empty ∷ adds 100 0 0 0 0 0 empty ∷ adds 2147483648 0 0 0 0 200 empty ∷ one empty
          ∷ add_thread 0 201 ∷ add_thread 200 0
          ∷ end_process 0 ∷ end_thread 0 ∷ kill 0 100 0 10 ∷ kill 100 0 0 10 ∷ kill 100 100 4294967295 10 ∷ take 0
          ∷ look 0 ∷ who 0 ∷ sigpending 0 ∷ sigreturn 0 empty ∷ [];
      expected =
          refused EINVAL ∷ refused EINVAL ∷ refused EINVAL ∷ done ∷ refused ESRCH ∷ refused EINVAL
          ∷ refused ESRCH ∷ refused ESRCH ∷ refused ESRCH ∷ refused ESRCH ∷ refused ESRCH ∷ refused ESRCH
          ∷ refused ESRCH ∷ refused ESRCH ∷ refused ESRCH ∷ refused ESRCH ∷ [];
    }

-- a way of 7 is 22 before the thread is looked for, and without a set it is not looked at
abbrev no_way : Case
no_way =
    record {
      calls = one empty ∷ sigmask 0 7 (some empty) ∷ sigmask 0 7 none ∷ sigmask 200 4294967295 none ∷ [];
      expected = done ∷ refused EINVAL ∷ refused ESRCH ∷ old_mask empty ∷ [];
    }

abbrev bad_input_cases : List Case
bad_input_cases = no_signal ∷ no_id ∷ no_way ∷ []

pub bad_input : All Holds bad_input_cases
unfolding times computing quick_computing
bad_input = (holds no_signal refl refl, (holds no_id refl refl, (holds no_way refl refl, tt)))
