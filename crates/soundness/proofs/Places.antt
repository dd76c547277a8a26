-- One place: the test as it is made passes exactly if the rules' clauses of the place hold and, live, its id is found
-- there. The clauses of a place are named here alone. Assumes nothing.
use Prim.Native.Nat.{ℕ}
use mathlib.Core.Path.{◌≡◌, refl, sym, ap, ap₂, subst, ◌∙◌}
use mathlib.Core.Bool.{Bool, true, false, not, ◌&&◌, and-true, and_assoc}
use mathlib.Core.List.{List, [], ◌∷◌}
use lib.Dec.{eqb}
use lib.ListN.{length, replicate}
use borrow.Author.Tests.{eqb-true, eq-eqb, not-true}
use Rattle.limits.specs.Limits.{process_words, thread_words, signals}
use Rattle.lists.specs.Lists.{all, any}
use Rattle.lists.specs.Rows.{flat}
use Rattle.lists.proofs.Bools.{split, and-fst, and-snd, and_both, imp_use, imp-by}
use Rattle.lists.proofs.Lists.{Pass, All-imp, all-All, all_append, all-and, all-equal}
use Rattle.lists.proofs.Finds.{get_d-find}
use Rattle.zeros.specs.Zeros.{is_nought}
use Rattle.types.specs.declared.Action.{Action}
use Rattle.rules.specs.Types.{Process, Thread, no_process}
use Rattle.rules.specs.View.{is_process, action_of, live_process, the_process, thread_action}
use Rattle.rules.specs.Store.{Place, Store, free_process, free_thread, view}
use Rattle.rules.specs.Sound.{is_live, process_id, thread_id, actions_long, is_default, zero_process, zero_thread}
use Rattle.rules.specs.Sound.{good_id}
use Rattle.rules.specs.Sound.{fields_fit, belongs, unmasked, action_unmasked, process_unmasked, thread_unmasked}
use Rattle.rules.specs.Sound.{kill_stop_default, flags_known, process_flags_known, marks_not_ignored}
use Rattle.rules.specs.Sound.{thread_not_ignored}
use Rattle.rules.proofs.ClausesByPlace.{OwnProcess, GoodThread, own-free-process}
use Rattle.rules.proofs.Vacated.{good-free-thread}
use Rattle.tables.specs.Tables.{action_to, head_to, process_from, process_to, thread_from, thread_to}
use Rattle.tables.proofs.Words.{process-forth, length-process_to, zero-process, zero-thread}
use Rattle.soundness.specs.Check.{disjoint, ignored_by, head_ok, action_ok, live_process_ok, process_ok, owner_of}
use Rattle.soundness.specs.Check.{owner_place, live_thread_ok, thread_ok}
use Rattle.soundness.proofs.Disjoint.{disjoint-is}

-- ---- a place whose words are all zero is a free one

noughts : (l : List ℕ) (n : ℕ) → length l ≡ n → all is_nought l ≡ true → l ≡ replicate n 0
unfolding is_nought
noughts l n h e =
    all-equal 0 l (All-imp (Pass is_nought) (λ (w : ℕ). w ≡ 0) (λ w k. eqb-true w 0 k) l (all-All is_nought l e))
    ∙ ap (λ k. replicate k 0) h

process-free : (x : Place Process) → actions_long x ≡ true → all is_nought (process_to x) ≡ true → x ≡ free_process
unfolding actions_long
process-free x n e =
    let long : length x.holds.actions ≡ signals = eqb-true (length x.holds.actions) signals n in
    sym (process-forth x long)
    ∙ ap process_from (noughts (process_to x) process_words (length-process_to x long) e)
    ∙ zero-process

thread-free : (x : Place Thread) → eqb x.holds.id 0 ≡ true → zero_thread x ≡ true → x ≡ free_thread
unfolding thread_from thread_to all is_nought zero_thread
thread-free x e z =
    let words : all is_nought (thread_to x) ≡ (eqb x.holds.id 0 && zero_thread x) = simp and-true in
    ap thread_from (noughts (thread_to x) thread_words refl (words ∙ and_both e z)) ∙ zero-thread

zero-actions : (l : List Action) → all is_nought (flat action_to l) ≡ all is_default l
unfolding flat all action_to is_nought is_default
zero-actions [] = refl
zero-actions (a ∷ l) =
    let h : all is_nought (action_to a) ≡ is_default a = simp and-true in
    all_append is_nought (action_to a) (flat action_to l) ∙ ap₂ (λ (b c : Bool). b && c) h (zero-actions l)

process-words : (x : Place Process) → all is_nought (process_to x) ≡ (eqb x.holds.id 0 && zero_process x)
unfolding process_to head_to all is_nought zero_process
process-words x =
    all_append is_nought (head_to x) (flat action_to x.holds.actions)
    ∙ ap (λ (b : Bool). all is_nought (head_to x) && b) (zero-actions x.holds.actions)
    ∙ simp (and_assoc, and-true)

-- ---- a process place

module _ (place : ℕ → ℕ) (i : ℕ) (x : Place Process) where
  live-process : actions_long x ≡ true → eqb x.holds.id 0 ≡ false → live_process_ok place i x ≡ true → OwnProcess x
  unfolding live_process_ok head_ok action_ok process_unmasked process_flags_known
  live-process n e l =
      let h = and-fst (head_ok x) _ l in
      let h1 = and-snd (good_id x.holds.id) _ h in
      let l1 = and-snd (head_ok x) _ l in
      let l2 = and-snd (eqb (place x.holds.id) i) _ l1 in
      let l3 = and-snd (kill_stop_default x) _ l2 in
      let a =
      sym (all-and action_unmasked flags_known x.holds.actions) ∙ and-fst (all action_ok x.holds.actions) _ l3 in
      record {
        long = n;
        free = rw e;
        ids = imp-by (is_live process_id x) (λ _. and-fst (good_id x.holds.id) _ h);
        fields = and-fst (fields_fit x) _ h1;
        sets = and_both (and-snd (fields_fit x) _ h1) (and-fst (all action_unmasked x.holds.actions) _ a);
        defaults = and-fst (kill_stop_default x) _ l2;
        flags = and-snd (all action_unmasked x.holds.actions) _ a;
        not-ignored =
            imp-by (is_live process_id x)
            (λ _. sym (disjoint-is x.holds x.marks) ∙ and-snd (all action_ok x.holds.actions) _ l3);
      }

  pub process-own : actions_long x ≡ true → process_ok place i x ≡ true → OwnProcess x
  unfolding process_ok
  process-own n k =
      split (eqb x.holds.id 0)
      (λ e. subst OwnProcess (sym (process-free x n (rw e at k))) own-free-process)
      (λ e. live-process n e (rw e at k))

  pub process-told : process_ok place i x ≡ true → is_live process_id x ≡ true → place x.holds.id ≡ i
  unfolding process_ok live_process_ok
  process-told k l =
      eqb-true (place x.holds.id) i
      (and-fst (eqb (place x.holds.id) i) _
      (and-snd (head_ok x) _ (rw (not-true (eqb x.holds.id 0) l) at k)))

  pub process-ok : OwnProcess x → (is_live process_id x ≡ true → place x.holds.id ≡ i) → process_ok place i x ≡ true
  unfolding process_ok live_process_ok head_ok action_ok process_unmasked process_flags_known
  process-ok c f =
      split (eqb x.holds.id 0)
      (λ e. rw e (process-words x ∙ and_both e (imp_use (not (is_live process_id x)) (zero_process x) c.free (rw e))))
      (λ e.
      let l : is_live process_id x ≡ true = ap not e in
      rw e
      (and_both
      (and_both (imp_use (is_live process_id x) _ c.ids l)
      (and_both c.fields (and-fst (unmasked x.marks) _ c.sets)))
      (and_both (eq-eqb _ i (f l))
      (and_both c.defaults
      (and_both
      (all-and action_unmasked flags_known x.holds.actions
      ∙ and_both (and-snd (unmasked x.marks) _ c.sets) c.flags)
      (disjoint-is x.holds x.marks ∙ imp_use (is_live process_id x) _ c.not-ignored l))))))

-- ---- a thread place

module _ (place : ℕ → ℕ) (st : Store) (i : ℕ) (x : Place Thread) where
  -- the process of a thread is found by its place
  owner-not-ignored : thread_not_ignored (view st) x
      ≡ disjoint x.marks (ignored_by (owner_of (view st).processes x))
  unfolding thread_action the_process owner_of owner_place
  owner-not-ignored =
      ap (λ (p : Process). marks_not_ignored x.marks (action_of p))
      (get_d-find (is_process x.holds.process) no_process (view st).processes)
      ∙ sym (disjoint-is (owner_of (view st).processes x) x.marks)

  live-thread : eqb x.holds.id 0 ≡ false → any (is_process x.holds.process) (view st).processes ≡ true
      → live_thread_ok place (ignored_by (owner_of (view st).processes x)) i x ≡ true
      → GoodThread st x
  unfolding live_thread_ok thread_unmasked belongs live_process
  live-thread e o l =
      let l1 = and-snd (good_id x.holds.id) _ l in
      let l2 = and-snd (unmasked x.holds.mask) _ l1 in
      let l3 = and-snd (unmasked x.marks) _ l2 in
      record {
        own =
            record {
              free = rw e;
              ids = imp-by (is_live thread_id x) (λ _. and-fst (good_id x.holds.id) _ l);
              sets = and_both (and-fst (unmasked x.holds.mask) _ l1) (and-fst (unmasked x.marks) _ l2);
            };
        owned = imp-by (is_live thread_id x) (λ _. o);
        not-ignored =
            imp-by (is_live thread_id x) (λ _. owner-not-ignored ∙ and-snd (eqb (place x.holds.id) i) _ l3);
      }

  pub thread-good : thread_ok place (view st).processes i x ≡ true → GoodThread st x
  unfolding thread_ok
  thread-good k =
      split (eqb x.holds.id 0)
      (λ e. subst (GoodThread st) (sym (thread-free x e (rw e at k))) (good-free-thread st))
      (λ e.
      let l = rw e at k in
      live-thread e (and-fst (any (is_process x.holds.process) (view st).processes) _ l)
      (and-snd (any (is_process x.holds.process) (view st).processes) _ l))

  pub thread-ok : GoodThread st x → (is_live thread_id x ≡ true → place x.holds.id ≡ i)
      → thread_ok place (view st).processes i x ≡ true
  unfolding thread_ok live_thread_ok thread_unmasked belongs live_process
  thread-ok c f =
      split (eqb x.holds.id 0)
      (λ e. rw e (imp_use (not (is_live thread_id x)) (zero_thread x) c.own.free (rw e)))
      (λ e.
      let l : is_live thread_id x ≡ true = ap not e in
      rw e
      (and_both (imp_use (is_live thread_id x) _ c.owned l)
      (and_both (imp_use (is_live thread_id x) _ c.own.ids l)
      (and_both (and-fst (unmasked x.holds.mask) _ c.own.sets)
      (and_both (and-snd (unmasked x.holds.mask) _ c.own.sets)
      (and_both (eq-eqb _ i (f l))
      (sym owner-not-ignored ∙ imp_use (is_live thread_id x) _ c.not-ignored l)))))))

pub thread-told : (place : ℕ → ℕ) (ps : List Process) (i : ℕ) (x : Place Thread) → thread_ok place ps i x ≡ true
    → is_live thread_id x ≡ true
    → place x.holds.id ≡ i
unfolding thread_ok live_thread_ok
thread-told place ps i x k l =
    let l0 = rw (not-true (eqb x.holds.id 0) l) at k in
    let l1 = and-snd (any (is_process x.holds.process) ps) _ l0 in
    let l2 = and-snd (unmasked x.holds.mask) _ (and-snd (good_id x.holds.id) _ l1) in
    eqb-true (place x.holds.id) i
    (and-fst (eqb (place x.holds.id) i) _ (and-snd (unmasked x.marks) _ l2))
