-- The examples of docs/CALLS.md, line by line: each call and what it answers, by computation.
-- The comments are the page's lines.
use Rattle.std.specs.Prelude.{ℕ, ◌≡◌, refl, true, List, [], ◌∷◌, ◌++◌, map, take as firsts}
use Rattle.std.proofs.Common.{ap, ◌∙◌}
use Rattle.std.proofs.Math.Option.{some, none}
use Rattle.limits.specs.Limits.{record_limit}
use Rattle.lists.specs.Lists.{All, all}
use Rattle.sigset.specs.Set.{bits, empty}
use Rattle.types.specs.Values.{default_action}
use Rattle.types.specs.Answers.{Answer}
use Rattle.rules.specs.Types.{Call, clear, add_thread, end_process, end_thread, kill, sigqueue, sigaction, sigmask}
use Rattle.rules.specs.Types.{sigpending, look, who, take, sigreturn}
use Rattle.rules.specs.Store.{Store, cleared}
use Rattle.rules.specs.Calls.{run, Part, empty_part, process_slot, look_part}
use Rattle.rules.specs.Machine.{machine}
use Rattle.rules.specs.Computing.{computing}
use Rattle.rules.proofs.Cleared.{sound-cleared}
use Rattle.rules.proofs.StaysSound.{run_sound}
use Rattle.rules.proofs.QuickRuns.{quick_computing, quick_run, same-run, quick_part, same-part}
use Rattle.examples.specs.Cases.{Case, Holds, holds, times}
use Rattle.examples.specs.Words.{adds, refused, done, tested, acted, dropped, absorbed, marked, kept, old_action}
use Rattle.examples.specs.Words.{old_mask, pending_set, can_take, none_can, nothing, handler, end, stop, no_action}
use Rattle.examples.specs.Words.{looked_nothing, looked_mark, looked_record}

abbrev called : Call × Answer → Call
called x = x.0

abbrev answered : Call × Answer → Answer
answered x = x.1

-- the page's lines down to the look's example
abbrev to_the_look : List (Call × Answer)
to_the_look =
    -- clear → done
    (clear, done)
    -- add_process id=1 real=0 effective=0 saved=0 session=1 thread=2 mask=0 → done
    ∷ (adds 1 0 0 0 1 2 empty, done)
    -- add_process id=100 real=1000 effective=1000 saved=1000 session=7 thread=200 mask=0 → done
    ∷ (adds 100 1000 1000 1000 7 200 empty, done)
    -- add_process id=300 real=1001 effective=1001 saved=1001 session=8 thread=400 mask=768 → done
    ∷ (adds 300 1001 1001 1001 8 400 (bits 768), done)
    -- mask thread=400 way=0 → old mask 512
    ∷ (sigmask 400 0 none, old_mask (bits 512))
    -- add_process id=2147483648 real=0 effective=0 saved=0 session=1 thread=500 mask=0 → refused 22
    ∷ (adds 2147483648 0 0 0 1 500 empty, refused 22)
    -- add_process id=301 real=0 effective=0 saved=0 session=1 thread=200 mask=0 → refused 17
    ∷ (adds 301 0 0 0 1 200 empty, refused 17)
    -- add_thread creator=200 id=201 → done
    ∷ (add_thread 200 201, done)
    -- add_thread creator=400 id=401 → done
    ∷ (add_thread 400 401, done)
    -- mask thread=401 way=0 → old mask 512
    ∷ (sigmask 401 0 none, old_mask (bits 512))
    -- add_thread creator=999 id=0 → refused 22
    ∷ (add_thread 999 0, refused 22)
    -- add_thread creator=999 id=200 → refused 3
    ∷ (add_thread 999 200, refused 3)
    -- add_thread creator=200 id=200 → refused 17
    ∷ (add_thread 200 200, refused 17)
    -- end_process id=300 → done
    ∷ (end_process 300, done)
    -- mask thread=401 way=0 → refused 3
    ∷ (sigmask 401 0 none, refused 3)
    -- add_process id=302 real=1001 effective=1001 saved=1001 session=8 thread=402 mask=0 → done
    ∷ (adds 302 1001 1001 1001 8 402 empty, done)
    -- add_thread creator=402 id=403 → done
    ∷ (add_thread 402 403, done)
    -- end_thread id=402 → done
    ∷ (end_thread 402, done)
    -- who process=302 → none can
    ∷ (who 302, none_can)
    -- end_thread id=403 → done
    ∷ (end_thread 403, done)
    -- who process=302 → refused 3
    ∷ (who 302, refused 3)
    -- kill by=1 to=100 thread=0 signal=0 → tested
    ∷ (kill 1 100 0 0, tested)
    -- kill by=100 to=1 thread=0 signal=0 → refused 1
    ∷ (kill 100 1 0 0, refused 1)
    -- kill by=100 to=100 thread=2 signal=10 → refused 3
    ∷ (kill 100 100 2 10, refused 3)
    -- kill by=100 to=100 thread=0 signal=2 → marked
    ∷ (kill 100 100 0 2, marked)
    -- kill by=1 to=100 thread=0 signal=2 → absorbed
    ∷ (kill 1 100 0 2, absorbed)
    -- kill by=1 to=100 thread=200 signal=17 → dropped
    ∷ (kill 1 100 200 17, dropped)
    -- kill by=1 to=100 thread=201 signal=20 → marked
    ∷ (kill 1 100 201 20, marked)
    -- kill by=1 to=100 thread=200 signal=19 → acted
    ∷ (kill 1 100 200 19, acted)
    -- kill by=1 to=100 thread=0 signal=18 → marked
    ∷ (kill 1 100 0 18, marked)
    -- kill by=1 to=100 thread=201 signal=20 → marked
    ∷ (kill 1 100 201 20, marked)
    -- kill by=1 to=100 thread=0 signal=18 → marked
    ∷ (kill 1 100 0 18, marked)
    -- queue by=100 to=100 thread=0 signal=40 value=7 → kept
    ∷ (sigqueue 100 100 0 40 7, kept)
    -- queue by=1 to=100 thread=200 signal=40 value=8 → kept
    ∷ (sigqueue 1 100 200 40 8, kept)
    -- queue by=1 to=100 thread=0 signal=2 value=9 → absorbed
    ∷ (sigqueue 1 100 0 2 9, absorbed)
    -- queue by=1 to=100 thread=0 signal=65 value=9 → refused 22
    ∷ (sigqueue 1 100 0 65 9, refused 22)
    -- action process=100 signal=40 handler=5000 flags=3489660932 mask=0 → old action handler=0 flags=0 mask=0
    ∷ (
      sigaction 100 40 (some (record { handler = 5000; flags = 3489660932; mask = empty })),
      old_action default_action,
    )
    -- action process=100 signal=40 handler=5000 flags=4 mask=2304 → old action handler=5000 flags=3489660932 mask=0
    ∷ (
      sigaction 100 40 (some (record { handler = 5000; flags = 4; mask = bits 2304 })),
      old_action (record { handler = 5000; flags = 3489660932; mask = empty }),
    )
    -- action process=100 signal=40 handler=6000 flags=8 mask=0 → refused 22
    ∷ (sigaction 100 40 (some (record { handler = 6000; flags = 8; mask = empty })), refused 22)
    -- action process=999 signal=40 handler=6000 flags=8 mask=0 → refused 22
    ∷ (sigaction 999 40 (some (record { handler = 6000; flags = 8; mask = empty })), refused 22)
    -- action process=100 signal=40 handler=6000 flags=9223372036854775808 mask=0 → refused 22
    ∷ (sigaction 100 40 (some (record { handler = 6000; flags = 9223372036854775808; mask = empty })), refused 22)
    -- action process=100 signal=40 → old action handler=5000 flags=4 mask=2048
    ∷ (sigaction 100 40 none, old_action (record { handler = 5000; flags = 4; mask = bits 2048 }))
    -- action process=100 signal=2 handler=1 flags=0 mask=0 → old action handler=0 flags=0 mask=0
    ∷ (sigaction 100 2 (some (record { handler = 1; flags = 0; mask = empty })), old_action default_action)
    -- queue by=1 to=100 thread=0 signal=2 value=9 → dropped
    ∷ (sigqueue 1 100 0 2 9, dropped)
    -- action process=100 signal=9 → old action handler=0 flags=0 mask=0
    ∷ (sigaction 100 9 none, old_action default_action)
    -- action process=100 signal=9 handler=0 flags=0 mask=0 → refused 22
    ∷ (sigaction 100 9 (some default_action), refused 22)
    -- mask thread=200 way=0 set=549756076032 → old mask 0
    ∷ (sigmask 200 0 (some (bits 549756076032)), old_mask empty)
    -- mask thread=200 way=7 → old mask 549755813888
    ∷ (sigmask 200 7 none, old_mask (bits 549755813888))
    -- mask thread=200 way=7 set=1 → refused 22
    ∷ (sigmask 200 7 (some (bits 1)), refused 22)
    -- pending thread=200 → pending set 549755813888
    ∷ (sigpending 200, pending_set (bits 549755813888))
    -- pending thread=201 → pending set 0
    ∷ (sigpending 201, pending_set empty)
    ∷ []

-- from the look's example on
abbrev from_the_look : List (Call × Answer)
from_the_look =
    -- look thread=200 → looked mark of 18 in queue 100 0
    (look 200, looked_mark 100 0 18)
    -- take thread=200 → no action 18
    ∷ (take 200, no_action 18)
    -- look thread=200 → looked nothing
    ∷ (look 200, looked_nothing)
    -- look thread=201 → looked record (100 0 40 -1 100 1000 7)
    ∷ (
      look 201,
      looked_record
          (record { process = 100; thread = 0; signal = 40; code = 4294967295; sender = 100; uid = 1000; value = 7 }),
    )
    -- look thread=202 → refused 3
    ∷ (look 202, refused 3)
    -- who process=100 → can take 201
    ∷ (who 100, can_take 201)
    -- mask thread=200 way=1 set=549755813888 → old mask 549755813888
    ∷ (sigmask 200 1 (some (bits 549755813888)), old_mask (bits 549755813888))
    -- who process=100 → can take 200
    ∷ (who 100, can_take 200)
    -- who process=1 → none can
    ∷ (who 1, none_can)
    -- take thread=200 → handler 5000 signal 40 record (100 200 40 -1 1 0 8) flags 4 saved 0
    ∷ (
      take 200,
      handler 5000 40
          (record { process = 100; thread = 200; signal = 40; code = 4294967295; sender = 1; uid = 0; value = 8 }) 4
          empty,
    )
    -- mask thread=200 way=0 → old mask 549755815936
    ∷ (sigmask 200 0 none, old_mask (bits 549755815936))
    -- take thread=200 → nothing
    ∷ (take 200, nothing)
    -- return thread=200 mask=0 → old mask 549755815936
    ∷ (sigreturn 200 empty, old_mask (bits 549755815936))
    -- take thread=200 → handler 5000 signal 40 record (100 0 40 -1 100 1000 7) flags 4 saved 0
    ∷ (
      take 200,
      handler 5000 40
          (record { process = 100; thread = 0; signal = 40; code = 4294967295; sender = 100; uid = 1000; value = 7 }) 4
          empty,
    )
    -- return thread=200 mask=0 → old mask 549755815936
    ∷ (sigreturn 200 empty, old_mask (bits 549755815936))
    -- take thread=200 → nothing
    ∷ (take 200, nothing)
    -- action process=100 signal=10 handler=6000 flags=2147483652 mask=0 → old action handler=0 flags=0 mask=0
    ∷ (sigaction 100 10 (some (record { handler = 6000; flags = 2147483652; mask = empty })), old_action default_action)
    -- kill by=1 to=100 thread=0 signal=10 → marked
    ∷ (kill 1 100 0 10, marked)
    -- take thread=201 → handler 6000 signal 10 record (100 0 10 0 0 0 0) flags 2147483652 saved 0
    ∷ (
      take 201,
      handler 6000 10 (record { process = 100; thread = 0; signal = 10; code = 0; sender = 0; uid = 0; value = 0 })
          2147483652 empty,
    )
    -- mask thread=201 way=0 → old mask 512
    ∷ (sigmask 201 0 none, old_mask (bits 512))
    -- return thread=201 mask=0 → old mask 512
    ∷ (sigreturn 201 empty, old_mask (bits 512))
    -- action process=100 signal=10 → old action handler=0 flags=2147483648 mask=0
    ∷ (sigaction 100 10 none, old_action (record { handler = 0; flags = 2147483648; mask = empty }))
    -- kill by=1 to=100 thread=0 signal=20 → marked
    ∷ (kill 1 100 0 20, marked)
    -- take thread=200 → stop 20
    ∷ (take 200, stop 20)
    -- kill by=1 to=100 thread=0 signal=15 → marked
    ∷ (kill 1 100 0 15, marked)
    -- take thread=200 → nothing
    ∷ (take 200, nothing)
    -- kill by=1 to=100 thread=0 signal=18 → marked
    ∷ (kill 1 100 0 18, marked)
    -- take thread=200 → end 15
    ∷ (take 200, end 15)
    -- take thread=200 → refused 3
    ∷ (take 200, refused 3)
    ∷ []

-- the story down the page
abbrev story : List (Call × Answer)
story = to_the_look ++ from_the_look

-- lines of the page as a case
abbrev lines : List (Call × Answer) → Case
lines l = record { calls = map called l; expected = map answered l }

pub told : Holds (lines story)
unfolding computing quick_computing
told = holds (lines story) refl refl

-- the look itself, after so many lines of the look's example
pub record Look : Type 0 where
  pub lines : ℕ
  pub thread : ℕ
  pub part : Part

abbrev lines_before : Look → List Call
lines_before x = map called (to_the_look ++ firsts x.lines from_the_look)

abbrev Finds : Look → Type 0
Finds x = look_part x.thread (run (lines_before x) cleared).0 ≡ x.part

finds : (x : Look) → all machine (lines_before x) ≡ true
    → quick_part x.thread (quick_run (lines_before x) cleared).0 ≡ x.part → Finds x
finds x u e =
    same-part x.thread (run (lines_before x) cleared).0 (run_sound (lines_before x) cleared u sound-cleared)
    ∙ (ap (λ (y : Store × List Answer). quick_part x.thread y.0) (same-run (lines_before x) cleared u sound-cleared)
    ∙ e)

abbrev a_mark : Look
a_mark = record { lines = 0; thread = 200; part = empty_part }

abbrev nothing_next : Look
nothing_next = record { lines = 2; thread = 200; part = empty_part }

abbrev a_record : Look
a_record = record { lines = 3; thread = 201; part = process_slot 0 }

abbrev nobody : Look
nobody = record { lines = 4; thread = 202; part = empty_part }

pub parts : All Finds (a_mark ∷ nothing_next ∷ a_record ∷ nobody ∷ [])
unfolding computing quick_computing
parts = (
  finds a_mark refl refl,
  (finds nothing_next refl refl, (finds a_record refl refl, (finds nobody refl refl, tt))),
)

-- beside the story: process 100 alone, with 32 records of 34 pending
abbrev crowd : List (Call × Answer)
crowd = (adds 100 1000 1000 1000 7 200 empty, done) ∷ times record_limit ((sigqueue 100 100 0 34 7, kept) ∷ [])

abbrev beside : List (Call × Answer)
beside =
    -- queue by=100 to=100 thread=200 signal=40 value=7 → refused 11
    (sigqueue 100 100 200 40 7, refused 11)
    -- queue by=100 to=100 thread=0 signal=18 value=7 → refused 11
    ∷ (sigqueue 100 100 0 18 7, refused 11)
    -- queue by=100 to=100 thread=0 signal=17 value=7 → dropped
    ∷ (sigqueue 100 100 0 17 7, dropped)
    -- queue by=100 to=100 thread=0 signal=9 value=7 → acted
    ∷ (sigqueue 100 100 0 9 7, acted)
    ∷ []

pub crowded : Holds (lines (crowd ++ beside))
unfolding times computing quick_computing
crowded = holds (lines (crowd ++ beside)) refl refl
