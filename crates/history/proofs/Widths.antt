-- The records of the buffers stay machine numbers: only a send brings one in,
-- of its arguments and its sender's user id. Assumes nothing.
use Prim.Native.Nat.{ℕ, ◌<◌, ◌^◌}
use mathlib.Core.Path.{◌≡◌}
use mathlib.Core.Bool.{Bool, true, false, cond}
use mathlib.Core.List.{List, [], ◌∷◌, ◌++◌}
use native.Mathlib.Omega.{arith}
use lib.Dec.{eqb, lit<}
use lib.ListN.{replicate}
use borrow.Author.Tests.{leb-true, ltb-true}
use Rattle.limits.specs.Limits.{buffer_records, largest_user}
use Rattle.lists.specs.Lists.{keep, drop_first, All}
use Rattle.lists.proofs.Bools.{and-fst, and-snd}
use Rattle.lists.proofs.Lists.{All-append, All-replicate, All-leading, All-padded}
use Rattle.lists.proofs.Sublists.{All-within, keep-within, drop_first-within}
use Rattle.types.specs.declared.Siginfo.{Siginfo}
use Rattle.types.specs.Values.{no_siginfo}
use Rattle.siginfo.specs.Bytes.{u32_bytes, u64_bytes, Fits}
use Rattle.siginfo.proofs.Slots.{fits-no_siginfo}
use Rattle.rules.specs.Types.{Process, Thread, Queue, Call, clear, add_process, add_thread, end_process, end_thread}
use Rattle.rules.specs.Types.{kill, sigqueue, sigaction, sigmask, sigpending, look, who, take, sigreturn}
use Rattle.rules.specs.View.{Change, forget, new_process, new_thread, remove_process, remove_thread, set_stopped}
use Rattle.rules.specs.View.{set_action}
use Rattle.rules.specs.View.{set_mask, set_mark, clear_mark, append, drop_oldest, discard, queue_of, in_queue}
use Rattle.rules.specs.Store.{Place, Store, cleared, used, view, on_slots, on_buffer, apply, apply_all}
use Rattle.rules.specs.Sound.{good_user, sound}
use Rattle.rules.specs.Sending.{info_of}
use Rattle.rules.specs.Machine.{is_u32, is_u64, machine}
use Rattle.rules.specs.Calls.{changes, step}
use Rattle.rules.proofs.Facts.{users-fit}
use Rattle.rules.proofs.CallChanges.{Quiet, Keeps, queued, changes-made}
use Rattle.rules.proofs.Steps.{call-keeps}

-- ---- lists

-- what both have, the one that is chosen has
pub either-has : {A : Type 0} (P : A → Type 0) (b : Bool) (x y : A) → P x → P y → P (cond b x y)
either-has P true x y p q = p
either-has P false x y p q = q

-- ---- a store

pub record Widths (st : Store) : Type 0 where
  pub thread_buffer : All Fits st.thread_buffer
  pub process_buffer : All Fits st.process_buffer

pub widths-cleared : Widths cleared
unfolding cleared
widths-cleared =
    let z : All Fits (replicate buffer_records no_siginfo) =
    All-replicate Fits no_siginfo fits-no_siginfo buffer_records in
    record { thread_buffer = z; process_buffer = z }

-- ---- one change

-- a record that the change brings in has its widths; only `append` has one
abbrev Brings : Change → Type 0
Brings forget = Unit {0}
Brings (new_process p) = Unit {0}
Brings (new_thread t) = Unit {0}
Brings (remove_process n) = Unit {0}
Brings (remove_thread n) = Unit {0}
Brings (set_stopped n b) = Unit {0}
Brings (set_action n s a) = Unit {0}
Brings (set_mask n m) = Unit {0}
Brings (set_mark q s) = Unit {0}
Brings (clear_mark q s) = Unit {0}
Brings (append r) = Fits r
Brings (drop_oldest q s) = Unit {0}
Brings (discard p set) = Unit {0}

-- a change of the records that keeps their widths: behind them the slots are zero
module _ (g : List Siginfo → List Siginfo) (h : (rs : List Siginfo) → All Fits rs → All Fits (g rs)) where
  slots-fit : (cs : List Siginfo) → All Fits cs → All Fits (on_slots g cs)
  unfolding on_slots used
  slots-fit cs f =
      All-padded Fits no_siginfo fits-no_siginfo buffer_records (g (used cs)) (h (used cs) (All-leading _ Fits cs f))

  one-buffer : (q : Queue) (st : Store) → Widths st → Widths (on_buffer q g st)
  one-buffer q st w =
      record {
        thread_buffer =
            either-has (All Fits) (eqb q.thread 0) st.thread_buffer (on_slots g st.thread_buffer)
            w.thread_buffer (slots-fit st.thread_buffer w.thread_buffer);
        process_buffer =
            either-has (All Fits) (eqb q.thread 0) (on_slots g st.process_buffer) st.process_buffer
            (slots-fit st.process_buffer w.process_buffer) w.process_buffer;
      }

module _ (xs : List (Place Process)) (ys : List (Place Thread)) (st : Store) (w : Widths st) where
  -- other places, the same buffers
  same-buffers : Widths
      (record { processes = xs; threads = ys; thread_buffer = st.thread_buffer; process_buffer = st.process_buffer })
  same-buffers = record { thread_buffer = w.thread_buffer; process_buffer = w.process_buffer }

  -- some of the records
  fewer-records : (p : Siginfo → Bool)
      → Widths (record {
        processes = xs;
        threads = ys;
        thread_buffer = on_slots (keep p) st.thread_buffer;
        process_buffer = on_slots (keep p) st.process_buffer;
      })
  fewer-records p =
      let f = slots-fit (keep p) (λ rs. All-within Fits (keep-within p rs)) in
      record {
        thread_buffer = f st.thread_buffer w.thread_buffer;
        process_buffer = f st.process_buffer w.process_buffer;
      }

change-widths : (ch : Change) (st : Store) → Brings ch → Widths st → Widths (apply ch st)
unfolding apply
change-widths forget st b w = widths-cleared
change-widths (new_process p) st b w = same-buffers _ _ st w
change-widths (new_thread t) st b w = same-buffers _ _ st w
change-widths (remove_process n) st b w = fewer-records _ _ st w _
change-widths (remove_thread n) st b w = fewer-records _ _ st w _
change-widths (set_stopped n s) st b w = same-buffers _ _ st w
change-widths (set_action n s a) st b w = same-buffers _ _ st w
change-widths (set_mask n m) st b w = same-buffers _ _ st w
change-widths (set_mark q s) st b w = same-buffers _ _ st w
change-widths (clear_mark q s) st b w = same-buffers _ _ st w
change-widths (append r) st b w =
    one-buffer (λ rs. rs ++ (r ∷ [])) (λ rs f. All-append Fits rs (r ∷ []) f (b, tt)) (queue_of r) st w
change-widths (drop_oldest q s) st b w =
    one-buffer (drop_first (in_queue q s)) (λ rs. All-within Fits (drop_first-within (in_queue q s) rs)) q st w
change-widths (discard p set) st b w = fewer-records _ _ st w _

-- and a list of them
changes-widths : (cs : List Change) (st : Store) → All Brings cs → Widths st → Widths (apply_all cs st)
unfolding apply_all
changes-widths [] st b w = w
changes-widths (c ∷ cs) st b w = changes-widths cs (apply c st) b.1 (change-widths c st b.0 w)

-- ---- the record of a send

u32 : (n : ℕ) → is_u32 n ≡ true → n < 256 ^ u32_bytes
unfolding is_u32
u32 n e = omega (arith, leb-true n largest_user e)

u64 : (n : ℕ) → is_u64 n ≡ true → n < 256 ^ u64_bytes
unfolding is_u64
u64 n e = omega (arith, ltb-true n _ e)

module _ (st : Store) (e : sound st ≡ true) (by to t s : ℕ) where
  -- its user id is the sender's real one, which is in range in a sound store
  info-fits : (value : ℕ) → machine (sigqueue by to t s value) ≡ true → Fits (info_of (view st) by to t s value)
  unfolding machine info_of
  info-fits value u =
      let u1 = and-snd (is_u32 by) _ u in
      let u2 = and-snd (is_u32 to) _ u1 in
      let u3 = and-snd (is_u32 t) _ u2 in
      record {
        process = u32 to (and-fst (is_u32 to) _ u1);
        thread = u32 t (and-fst (is_u32 t) _ u2);
        signal = u32 s (and-fst (is_u32 s) _ u3);
        code = lit< tt;
        sender = u32 by (and-fst (is_u32 by) _ u);
        uid = u32 _ (unfold is_u32 good_user in (users-fit st e by).real);
        value = u64 value (and-snd (is_u32 s) _ u3);
      }

-- ---- a call

-- of all changes only a kept send's brings in a record
brings-quiet : Quiet Brings
brings-quiet =
    record {
      forgets = tt;
      comes = λ p. tt;
      joins = λ t. tt;
      ended = λ n. tt;
      left = λ n. tt;
      stopped = λ n b. tt;
      acts = λ n s a. tt;
      masks = λ n m. tt;
      marks = λ q s. tt;
      unmarks = λ q s. tt;
      discards = λ p x. tt;
    }

-- what a call of machine numbers keeps has its widths
kept-fits : (st : Store) → sound st ≡ true → (c : Call) → machine c ≡ true → (r : Siginfo)
    → Keeps (view st) c r → Fits r
kept-fits st e clear u r k = elim k [ ]
kept-fits st e (add_process new) u r k = elim k [ ]
kept-fits st e (add_thread creator id) u r k = elim k [ ]
kept-fits st e (end_process id) u r k = elim k [ ]
kept-fits st e (end_thread id) u r k = elim k [ ]
kept-fits st e (kill by to t s) u r k = elim k [ ]
kept-fits st e (sigqueue by to t s value) u r (queued f) = info-fits st e by to t s value u
kept-fits st e (sigaction p s new) u r k = elim k [ ]
kept-fits st e (sigmask t way set) u r k = elim k [ ]
kept-fits st e (sigpending t) u r k = elim k [ ]
kept-fits st e (look t) u r k = elim k [ ]
kept-fits st e (who p) u r k = elim k [ ]
kept-fits st e (take t) u r k = elim k [ ]
kept-fits st e (sigreturn t saved) u r k = elim k [ ]

-- every call leaves records of their widths; a refused one leaves the store that it found
pub widths-step : (c : Call) (st : Store) → machine c ≡ true → sound st ≡ true → Widths st → Widths (step c st).0
widths-step c st u e w =
    call-keeps Widths c st (λ _. changes-widths (changes (view st) c) st
    (changes-made Brings brings-quiet (view st) c (kept-fits st e c u) (λ q s r _. tt)) w) w
