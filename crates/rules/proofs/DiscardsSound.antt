-- Changes that take marks or records away leave a sound store sound. Assumes nothing.
use Prim.Native.Nat.{ℕ}
use native.Mathlib.Omega.{arith}
use mathlib.Core.Path.{◌≡◌, refl, sym, ap, ◌∙◌}
use mathlib.Core.Bool.{Bool, true, false, not, ◌&&◌, cond, and-true}
use mathlib.Core.List.{List}
use lib.Dec.{eqb}
use Rattle.lists.specs.Lists.{keep, drop_first}
use Rattle.lists.proofs.Bools.{clash, and-fst, and_left, or_left, cond_same}
use Rattle.lists.proofs.Sublists.{Within, keep-within, drop_first-within}
use Rattle.sigset.specs.declared.SigSet.{SigSet}
use Rattle.sigset.specs.Set.{Signal, has, without, of_signal, empty}
use Rattle.sigset.proofs.Laws.{has-without, has-empty, set-none}
use Rattle.types.specs.declared.Siginfo.{Siginfo}
use Rattle.rules.specs.Types.{Queue}
use Rattle.rules.specs.View.{clear_mark, drop_oldest, discard, same_queue, in_queue}
use Rattle.rules.specs.Store.{Store, queued_in, on_marks, on_slots, on_buffers, on_buffer, left_by, apply}
use Rattle.rules.specs.Sound.{sound}
use Rattle.rules.proofs.BuffersSound.{with_buffers, buffers-sound, buffer-within, fewer-within, queued-within}
use Rattle.rules.proofs.Facts.{within-limit}
use Rattle.rules.proofs.ClausesByPlace.{Good, good}
use Rattle.rules.proofs.MarksSound.{marks-sound}
use Rattle.rules.proofs.PendingInView.{cutting, discarding}

-- ---- marks

-- no mark is new
pub unmarked-sound : (st : Store) → sound st ≡ true → (g : Queue → SigSet → SigSet)
    → ((q : Queue) (m : SigSet) (s : ℕ) → Signal s → has (g q m) s ≡ true → has m s ≡ true)
    → ((q : Queue) → g q empty ≡ empty)
    → sound (on_marks g st) ≡ true
unmarked-sound st e g h z =
    marks-sound st g (λ q s. false)
    record {
      bound = λ q m s k b. or_left false (h q m s k b);
      free = z _;
      maskable = λ q s n. clash n refl;
      not-ignored = λ q s n. clash n refl;
      once = λ q s n. clash n refl;
    }
    e

without-empty : (x : SigSet) → without empty x ≡ empty
unfolding without
without-empty x = set-none _ (λ s h. and_left (not (has x s)) (has-empty s))

-- a signal that some sets lose
pub cut_has : (b : Bool) (m x : SigSet) (s : ℕ) → Signal s
    → has (cond b (without m x) m) s ≡ (has m s && not (b && has x s))
cut_has true m x s h = has-without m x s h
cut_has false m x s h = sym (and-true (has m s))

cut-sound : (st : Store) → sound st ≡ true → (c : Queue → Bool) (x : SigSet) → sound (on_marks (cutting c x) st) ≡ true
cut-sound st e c x =
    unmarked-sound st e (cutting c x)
    (λ q m s h k. and-fst (has m s) _ (sym (cut_has (c q) m x s h) ∙ k))
    (λ q. ap (λ (a : SigSet). cond (c q) a empty) (without-empty x) ∙ cond_same (c q) empty)

-- ---- records

module _ (g : List Siginfo → List Siginfo) (w : (rs : List Siginfo) → Within (g rs) rs) (st : Store)
    (e : sound st ≡ true) where
  abbrev k : Good st
  k = good st e

  pub shrunk-both : sound (on_buffers g st) ≡ true
  unfolding queued_in
  shrunk-both =
      buffers-sound st (on_slots g st.thread_buffer) (on_slots g st.process_buffer)
      (λ p. omega (arith, queued-within g w st p, within-limit st e p))
      e (buffer-within g w st.thread_buffer st _ k.thread_buffer)
      (buffer-within g w st.process_buffer st _ k.process_buffer)

  -- of the one buffer or of the other
  shrunk-one : (b : Bool)
      → sound (with_buffers (cond b st.thread_buffer (on_slots g st.thread_buffer))
      (cond b (on_slots g st.process_buffer) st.process_buffer) st) ≡ true
  unfolding queued_in
  shrunk-one true =
      buffers-sound st st.thread_buffer (on_slots g st.process_buffer)
      (λ p. omega (arith, fewer-within g w st.process_buffer p, within-limit st e p))
      e k.thread_buffer (buffer-within g w st.process_buffer st _ k.process_buffer)
  shrunk-one false =
      buffers-sound st (on_slots g st.thread_buffer) st.process_buffer
      (λ p. omega (arith, fewer-within g w st.thread_buffer p, within-limit st e p))
      e (buffer-within g w st.thread_buffer st _ k.thread_buffer) k.process_buffer

  pub shrunk-buffer : (q : Queue) → sound (on_buffer q g st) ≡ true
  shrunk-buffer q = shrunk-one (eqb q.thread 0)

-- ---- the changes

module _ (st : Store) (e : sound st ≡ true) where
  pub discard-sound : (p : ℕ) (signals : SigSet) → sound (apply (discard p signals) st) ≡ true
  unfolding apply
  discard-sound p signals =
      shrunk-both (keep (left_by p signals)) (keep-within (left_by p signals)) (on_marks (discarding p signals) st)
      (cut-sound st e (λ q. eqb q.process p) signals)

  pub clear_mark-sound : (q : Queue) (s : ℕ) → sound (apply (clear_mark q s) st) ≡ true
  unfolding apply
  clear_mark-sound q s = cut-sound st e (λ q'. same_queue q' q) (of_signal s)

  pub drop_oldest-sound : (q : Queue) (s : ℕ) → sound (apply (drop_oldest q s) st) ≡ true
  unfolding apply
  drop_oldest-sound q s = shrunk-buffer (drop_first (in_queue q s)) (drop_first-within (in_queue q s)) st e q
