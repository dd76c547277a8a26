-- Every capacity, offset and number of document 01, by name. src/lib.rt has the same; no other file writes them.
use Rattle.std.specs.Prelude.{ℕ, ◌+◌, ◌*◌}

-- ---- capacities

-- Places of the process table and of the thread table; records of each buffer.
abbrev pub process_places : ℕ
process_places = 16

abbrev pub thread_places : ℕ
thread_places = 64

abbrev pub buffer_records : ℕ
buffer_records = 512

-- The records that one process may have pending, its threads' queues counted in.
abbrev pub record_limit : ℕ
record_limit = 32

-- The largest process or thread id.
abbrev pub largest_id : ℕ
largest_id = 2147483647

-- The largest user id and session id: 32 bits.
abbrev pub largest_user : ℕ
largest_user = 4294967295

-- ---- signals: 1 to last_standard are standard, the rest to signals realtime

abbrev pub signals : ℕ
signals = 64

abbrev pub last_standard : ℕ
last_standard = 31

abbrev pub SIGILL : ℕ
SIGILL = 4

abbrev pub SIGTRAP : ℕ
SIGTRAP = 5

abbrev pub SIGKILL : ℕ
SIGKILL = 9

abbrev pub SIGCHLD : ℕ
SIGCHLD = 17

abbrev pub SIGCONT : ℕ
SIGCONT = 18

abbrev pub SIGSTOP : ℕ
SIGSTOP = 19

abbrev pub SIGTSTP : ℕ
SIGTSTP = 20

abbrev pub SIGTTIN : ℕ
SIGTTIN = 21

abbrev pub SIGTTOU : ℕ
SIGTTOU = 22

abbrev pub SIGURG : ℕ
SIGURG = 23

abbrev pub SIGWINCH : ℕ
SIGWINCH = 28

-- ---- actions: the two handler numbers that are no handler, and the flags

abbrev pub sig_dfl : ℕ
sig_dfl = 0

abbrev pub sig_ign : ℕ
sig_ign = 1

abbrev pub sa_siginfo : ℕ
sa_siginfo = 0x4

abbrev pub sa_restart : ℕ
sa_restart = 0x10000000

abbrev pub sa_nodefer : ℕ
sa_nodefer = 0x40000000

abbrev pub sa_resethand : ℕ
sa_resethand = 0x80000000

abbrev pub known_flags : ℕ
known_flags = sa_siginfo + sa_restart + sa_nodefer + sa_resethand

-- ---- masks: the three ways to change one

abbrev pub sig_block : ℕ
sig_block = 0

abbrev pub sig_unblock : ℕ
sig_unblock = 1

abbrev pub sig_setmask : ℕ
sig_setmask = 2

-- ---- the code of a queued record, -1 in 32 bits

abbrev pub si_queue : ℕ
si_queue = 0xffffffff

-- ---- refusals

abbrev pub EPERM : ℕ
EPERM = 1

abbrev pub ESRCH : ℕ
ESRCH = 3

abbrev pub EAGAIN : ℕ
EAGAIN = 11

abbrev pub EFAULT : ℕ
EFAULT = 14

abbrev pub EEXIST : ℕ
EEXIST = 17

abbrev pub EINVAL : ℕ
EINVAL = 22

-- ---- words of the tables: the head fields of a process, the fields of an action, the fields of a thread

abbrev pub process_id : ℕ
process_id = 0

abbrev pub process_real : ℕ
process_real = 1

abbrev pub process_effective : ℕ
process_effective = 2

abbrev pub process_saved : ℕ
process_saved = 3

abbrev pub process_session : ℕ
process_session = 4

abbrev pub process_stopped : ℕ
process_stopped = 5

abbrev pub process_marks : ℕ
process_marks = 6

abbrev pub head_words : ℕ
head_words = 7

abbrev pub action_handler : ℕ
action_handler = 0

abbrev pub action_flags : ℕ
action_flags = 1

abbrev pub action_mask : ℕ
action_mask = 2

abbrev pub action_words : ℕ
action_words = 3

abbrev pub thread_id : ℕ
thread_id = 0

abbrev pub thread_process : ℕ
thread_process = 1

abbrev pub thread_mask : ℕ
thread_mask = 2

abbrev pub thread_marks : ℕ
thread_marks = 3

abbrev pub thread_words : ℕ
thread_words = 4

abbrev pub process_words : ℕ
process_words = head_words + signals * action_words

abbrev pub process_table : ℕ
process_table = process_places * process_words

abbrev pub thread_table : ℕ
thread_table = thread_places * thread_words

-- ---- bytes of a record

abbrev pub record_process : ℕ
record_process = 0

abbrev pub record_thread : ℕ
record_thread = 4

abbrev pub record_signal : ℕ
record_signal = 8

abbrev pub record_code : ℕ
record_code = 12

abbrev pub record_sender : ℕ
record_sender = 16

abbrev pub record_uid : ℕ
record_uid = 20

abbrev pub record_value : ℕ
record_value = 24

abbrev pub record_bytes : ℕ
record_bytes = 32

abbrev pub buffer_bytes : ℕ
buffer_bytes = buffer_records * record_bytes

-- ---- the C boundary: the calls in their documented order, from 1 on, so that a number left at 0 is no call

abbrev pub call_clear : ℕ
call_clear = 1

abbrev pub call_add_process : ℕ
call_add_process = 2

abbrev pub call_add_thread : ℕ
call_add_thread = 3

abbrev pub call_end_process : ℕ
call_end_process = 4

abbrev pub call_end_thread : ℕ
call_end_thread = 5

abbrev pub call_kill : ℕ
call_kill = 6

abbrev pub call_sigqueue : ℕ
call_sigqueue = 7

abbrev pub call_sigaction : ℕ
call_sigaction = 8

abbrev pub call_sigmask : ℕ
call_sigmask = 9

abbrev pub call_sigpending : ℕ
call_sigpending = 10

abbrev pub call_look : ℕ
call_look = 11

abbrev pub call_who : ℕ
call_who = 12

abbrev pub call_take : ℕ
call_take = 13

abbrev pub call_sigreturn : ℕ
call_sigreturn = 14

-- ---- the answers there: the first word of each, and the words of the longest

abbrev pub answer_done : ℕ
answer_done = 1

abbrev pub answer_tested : ℕ
answer_tested = 2

abbrev pub answer_acted : ℕ
answer_acted = 3

abbrev pub answer_dropped : ℕ
answer_dropped = 4

abbrev pub answer_absorbed : ℕ
answer_absorbed = 5

abbrev pub answer_marked : ℕ
answer_marked = 6

abbrev pub answer_kept : ℕ
answer_kept = 7

abbrev pub answer_old_action : ℕ
answer_old_action = 8

abbrev pub answer_old_mask : ℕ
answer_old_mask = 9

abbrev pub answer_pending_set : ℕ
answer_pending_set = 10

abbrev pub answer_next_nothing : ℕ
answer_next_nothing = 11

abbrev pub answer_next_mark : ℕ
answer_next_mark = 12

abbrev pub answer_next_record : ℕ
answer_next_record = 13

abbrev pub answer_can_take : ℕ
answer_can_take = 14

abbrev pub answer_none_can : ℕ
answer_none_can = 15

abbrev pub answer_nothing : ℕ
answer_nothing = 16

abbrev pub answer_handler : ℕ
answer_handler = 17

abbrev pub answer_end : ℕ
answer_end = 18

abbrev pub answer_stop : ℕ
answer_stop = 19

abbrev pub answer_no_action : ℕ
answer_no_action = 20

abbrev pub answer_words : ℕ
answer_words = 12
