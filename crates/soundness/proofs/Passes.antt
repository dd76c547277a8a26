-- A turn of the pass over the records: what the counts and the sets of seen signals become. Assumes nothing.
use Prim.Native.Nat.{ℕ, ◌+◌, ◌≤◌, ◌<◌}
use mathlib.Core.Path.{◌≡◌, refl, sym, ap, ap₂, ◌∙◌}
use mathlib.Core.Bool.{Bool, true, false, not, ◌&&◌, ◌||◌, cond, or-false, or_assoc, and_comm}
use mathlib.Core.List.{List, [], ◌∷◌, map}
use native.Mathlib.Omega.{arith}
use native.Mathlib.Nat.{add-zero}
use lib.Dec.{eqb}
use lib.ListN.{length, get_or, take, set, replicate}
use borrow.Author.Tests.{eqb-true, eq-eqb}
use Rattle.lists.specs.Lists.{all, any, count, find}
use Rattle.lists.proofs.Bools.{split, clash, and-fst, and-snd, and_both, and-imp, not-or}
use Rattle.lists.proofs.Lists.{all_same, any-and, count-append, count-le-length, not-any}
use Rattle.lists.proofs.Loops.{against, find_at, upto}
use Rattle.lists.proofs.Index.{get_d-mapped, get_d-map-has, map-only}
use Rattle.sigset.specs.declared.SigSet.{SigSet}
use Rattle.sigset.specs.Set.{Signal, bits, has, set_of, union, of_signal}
use Rattle.sigset.proofs.Laws.{has-set, has-union, has_of, set-cong}
use Rattle.types.specs.declared.Siginfo.{Siginfo}
use Rattle.types.specs.Values.{no_siginfo}
use Rattle.rules.specs.Types.{Process, Queue, no_process}
use Rattle.rules.specs.Signals.{standard}
use Rattle.rules.specs.View.{is_process, same_queue, queue_of, in_queue}
use Rattle.rules.specs.Store.{Place, of_process}
use Rattle.rules.proofs.Signals.{standard-signal}
use Rattle.rules.proofs.Marks.{queue-same, same-comm}
use Rattle.queue.specs.Queue.{signals_in}
use Rattle.queue.proofs.Signals.{eqb_comm, any_next, signals-other}
use Rattle.soundness.specs.Check.{tallies, seen_by, seen_sets, is_fresh, bumped, noted, once}

-- ---- how many records each process has

pub tally-start : (ps : List Process) → tallies ps [] ≡ replicate (length ps) 0
unfolding tallies count
tally-start [] = refl
tally-start (p ∷ ps) = ap (λ (l : List ℕ). 0 ∷ l) (tally-start ps)

pub tally-bound : (ps : List Process) (rs : List Siginfo) (p : ℕ) → get_or (tallies ps rs) p 0 ≤ length rs
unfolding tallies
tally-bound ps rs p =
    get_d-map-has (λ (n : ℕ). n ≤ length rs) (λ (x : Process). count (of_process x.id) rs) 0 (omega arith)
    (λ x. count-le-length (of_process x.id) rs) ps p

module _ (ps : List Process) (rs : List Siginfo) (i : ℕ) (r : Siginfo) (h : i < length rs)
    (e : r ≡ get_or rs i no_siginfo) where
  count_next : (n : ℕ)
      → count (of_process n) (take (i + 1) rs) ≡ count (of_process n) (take i rs) + cond (eqb r.process n) 1 0
  unfolding count
  count_next n =
      ap (count (of_process n)) (upto rs i no_siginfo h)
      ∙ count-append (of_process n) (take i rs) (get_or rs i no_siginfo ∷ [])
      ∙ rw (← e) (ap (λ (k : ℕ). count (of_process n) (take i rs) + k) (add-zero (cond (eqb r.process n) 1 0)))

  -- the process's place alone counts one more
  pub tally-step : count (is_process r.process) ps ≤ 1 → find (is_process r.process) ps < length ps
      → bumped (tallies ps (take i rs)) (find (is_process r.process) ps) ≡ tallies ps (take (i + 1) rs)
  unfolding bumped tallies is_process
  tally-step c l =
      let f : Process → ℕ = λ p. count (of_process p.id) (take i rs) in
      let g : Process → ℕ = λ p. count (of_process p.id) (take (i + 1) rs) in
      let q : ℕ = find (is_process r.process) ps in
      let p : Process = get_or ps q no_process in
      let t : is_process r.process p ≡ true = find_at (is_process r.process) no_process ps l in
      let z : not (eqb r.process 0) ≡ true = and-fst (not (eqb r.process 0)) (eqb p.id r.process) t in
      let s : r.process ≡ p.id =
      sym (eqb-true p.id r.process (and-snd (not (eqb r.process 0)) (eqb p.id r.process) t)) in
      let b : get_or (map f ps) q 0 + 1 ≡ g p =
      ap (λ (n : ℕ). n + 1) (get_d-mapped f ps q no_process 0 l)
      ∙ sym (count_next p.id ∙ ap (λ (b : Bool). f p + cond b 1 0) (eq-eqb r.process p.id s)) in
      ap (set (map f ps) q) b
      ∙ sym
      (map-only (is_process r.process) no_process f g
      (λ x n.
      let o : eqb r.process x.id ≡ false =
      split (eqb r.process x.id)
      (λ k. clash (and_both z (eq-eqb x.id r.process (sym (eqb-true r.process x.id k)))) n)
      (λ k. k) in
      count_next x.id ∙ ap (λ (b : Bool). f x + cond b 1 0) o ∙ add-zero (f x))
      ps q c l t)

-- ---- the signals seen in each queue

parts : (a b c : Bool) → not (a && (b || c)) ≡ (not (a && b) && not (a && c))
parts true b c = not-or b c
parts false b c = refl

module _ {A : Type 0} (queue : A → Queue) (d : Place A) (xs : List (Place A)) (q : ℕ) (h : q < length xs) where
  -- what is seen at a place: its marks, and the records of its queue
  seen-has : (rs : List Siginfo) (s : ℕ) → Signal s
      → has (bits (get_or (seen_sets queue xs rs) q 0)) s
      ≡ (has (get_or xs q d).marks s || any (in_queue (queue (get_or xs q d).holds) s) rs)
  unfolding seen_sets seen_by
  seen-has rs s g =
      let m : SigSet = (get_or xs q d).marks in
      let p : ℕ → Bool = λ u. any (in_queue (queue (get_or xs q d).holds) u) rs in
      ap (λ (n : ℕ). has (bits n) s) (get_d-mapped (seen_by queue rs) xs q d 0 h)
      ∙ has-union m (set_of p) s g
      ∙ ap (λ (b : Bool). has m s || b) (has-set p s g)

  -- with no record, the marks
  pub fresh-marks : (s : ℕ) → is_fresh (seen_sets queue xs []) q s ≡ not (standard s && has (get_or xs q d).marks s)
  unfolding is_fresh any
  fresh-marks s =
      ap not (and-imp (standard s) (λ t. seen-has [] s (standard-signal s t) ∙ or-false (has (get_or xs q d).marks s)))

  -- a record r of the queue at q
  module _ (r : Siginfo) (k : same_queue (queue (get_or xs q d).holds) (queue_of r) ≡ true) where
    abbrev at : Queue
    at = queue (get_or xs q d).holds

    once-in : (y : Siginfo) → against once r y ≡ not (in_queue at r.signal y && standard r.signal)
    unfolding once in_queue
    once-in y =
        let c : same_queue (queue_of y) (queue_of r) ≡ same_queue at (queue_of y) =
        same-comm (queue_of y) (queue_of r)
        ∙ ap (λ (a : Queue). same_queue a (queue_of y)) (sym (queue-same at (queue_of r) k)) in
        ap not
        (and_comm (standard r.signal) _
        ∙ ap (λ (b : Bool). b && standard r.signal)
        (and_comm (eqb y.signal r.signal) _ ∙ ap (λ (b : Bool). b && eqb y.signal r.signal) c))

    all_once : (rs : List Siginfo)
        → all (against once r) rs ≡ not (standard r.signal && any (in_queue at r.signal) rs)
    all_once rs =
        all_same (against once r) (λ y. not (in_queue at r.signal y && standard r.signal)) rs once-in
        ∙ sym (not-any (λ y. in_queue at r.signal y && standard r.signal) rs)
        ∙ ap not (any-and (in_queue at r.signal) (standard r.signal) rs ∙ and_comm _ (standard r.signal))

    -- fresh is what is not marked and not twice
    pub fresh-is : (rs : List Siginfo) → is_fresh (seen_sets queue xs rs) q r.signal
        ≡ (is_fresh (seen_sets queue xs []) q r.signal && all (against once r) rs)
    unfolding is_fresh
    fresh-is rs =
        ap not (and-imp (standard r.signal) (λ t. seen-has rs r.signal (standard-signal r.signal t)))
        ∙ parts (standard r.signal) (has (get_or xs q d).marks r.signal) (any (in_queue at r.signal) rs)
        ∙ sym (ap₂ (λ (a b : Bool). a && b) (fresh-marks r.signal) (all_once rs))

    module _ (rs : List Siginfo) (i : ℕ) (l : i < length rs) (e : r ≡ get_or rs i no_siginfo) where
      -- another queue has none more
      seen_other : (x : Place A) → same_queue (queue x.holds) (queue_of r) ≡ false
          → seen_by queue (take (i + 1) rs) x ≡ seen_by queue (take i rs) x
      unfolding seen_by signals_in
      seen_other x n = ap (λ (a : SigSet). (union x.marks a).0) (signals-other rs i l r e (queue x.holds) n)

      -- its own has the signal
      seen_here : (union (bits (seen_by queue (take i rs) (get_or xs q d))) (of_signal r.signal)).0
          ≡ seen_by queue (take (i + 1) rs) (get_or xs q d)
      unfolding seen_by in_queue union
      seen_here =
          let m : SigSet = (get_or xs q d).marks in
          let p : ℕ → Bool = λ s. any (in_queue at s) (take i rs) in
          let p' : ℕ → Bool = λ s. any (in_queue at s) (take (i + 1) rs) in
          ap (λ (a : SigSet). a.0)
          (set-cong (λ s. has (union m (set_of p)) s || has (of_signal r.signal) s) (λ s. has m s || has (set_of p') s)
          (λ s g.
          ap₂ (λ (a b : Bool). a || b) (has-union m (set_of p) s g ∙ ap (λ (b : Bool). has m s || b) (has-set p s g))
          (has_of r.signal s g ∙ eqb_comm s r.signal)
          ∙ or_assoc (has m s) (p s) (eqb r.signal s)
          ∙ sym
          (ap (λ (b : Bool). has m s || b)
          (has-set p' s g ∙ any_next rs i l r e at s ∙ ap (λ (b : Bool). p s || (b && eqb r.signal s)) k))))

      -- no other place has the queue
      pub seen_step : count (λ (x : Place A). same_queue (queue x.holds) (queue_of r)) xs ≤ 1
          → noted (seen_sets queue xs (take i rs)) q r.signal ≡ seen_sets queue xs (take (i + 1) rs)
      unfolding noted seen_sets
      seen_step c =
          let f : Place A → ℕ = seen_by queue (take i rs) in
          let g : Place A → ℕ = seen_by queue (take (i + 1) rs) in
          ap (λ (n : ℕ). set (map f xs) q (union (bits n) (of_signal r.signal)).0) (get_d-mapped f xs q d 0 h)
          ∙ ap (set (map f xs) q) seen_here
          ∙ sym (map-only (λ (x : Place A). same_queue (queue x.holds) (queue_of r)) d f g seen_other xs q c h k)
