-- The signals that have a record of a queue, record by record. Assumes nothing.
use Prim.Native.Nat.{ℕ, ◌+◌, ◌≤◌, ◌<◌}
use mathlib.Core.Path.{◌≡◌, refl, sym, ap, ap₂, ◌∙◌}
use mathlib.Core.Bool.{Bool, true, false, ◌&&◌, ◌||◌, or-false}
use mathlib.Core.List.{List, [], ◌∷◌}
use lib.Dec.{eqb}
use lib.ListN.{length, get_or, take}
use lib.Seq.{take_all}
use borrow.Author.Tests.{eqb-true, eq-eqb}
use Rattle.lists.specs.Lists.{any}
use Rattle.lists.proofs.Bools.{same_test, and_left}
use Rattle.lists.proofs.Lists.{any_append}
use Rattle.lists.proofs.Loops.{upto}
use Rattle.sigset.specs.Set.{has, set_of, union, of_signal, empty}
use Rattle.sigset.proofs.Laws.{has-set, has_of, set-cong, set-none}
use Rattle.types.specs.declared.Siginfo.{Siginfo}
use Rattle.types.specs.Values.{no_siginfo}
use Rattle.rules.specs.Types.{Queue}
use Rattle.rules.specs.View.{same_queue, queue_of, in_queue}
use Rattle.queue.specs.Queue.{signals_in}

pub eqb_comm : (a b : ℕ) → eqb a b ≡ eqb b a
eqb_comm a b =
    same_test (eqb a b) (eqb b a) (λ e. eq-eqb b a (sym (eqb-true a b e))) (λ e. eq-eqb a b (sym (eqb-true b a e)))

module _ (q : Queue) (rs : List Siginfo) where
  pub signals-none : signals_in q (take 0 rs) ≡ empty
  unfolding signals_in any
  signals-none = set-none (λ s. false) (λ s g. refl)

  pub signals-done : (i : ℕ) → length rs ≤ i → signals_in q (take i rs) ≡ signals_in q rs
  signals-done i h = ap (signals_in q) (take_all i rs h)

-- a turn: r is the record at i
module _ (rs : List Siginfo) (i : ℕ) (h : i < length rs) (r : Siginfo) (e : r ≡ get_or rs i no_siginfo) (q : Queue)
  where
    pub any_next : (s : ℕ) → any (in_queue q s) (take (i + 1) rs) ≡ (any (in_queue q s) (take i rs) || in_queue q s r)
    unfolding any
    any_next s =
        ap (any (in_queue q s)) (upto rs i no_siginfo h)
        ∙ any_append (in_queue q s) (take i rs) (get_or rs i no_siginfo ∷ [])
        ∙ rw (← e) (ap (λ (b : Bool). any (in_queue q s) (take i rs) || b) (or-false (in_queue q s r)))

    pub signals-here : same_queue q (queue_of r) ≡ true
        → union (signals_in q (take i rs)) (of_signal r.signal) ≡ signals_in q (take (i + 1) rs)
    unfolding signals_in union in_queue
    signals-here k =
        let p : ℕ → Bool = λ s. any (in_queue q s) (take i rs) in
        set-cong (λ s. has (set_of p) s || has (of_signal r.signal) s) (λ s. any (in_queue q s) (take (i + 1) rs))
        (λ s g.
        ap₂ (λ (a b : Bool). a || b) (has-set p s g) (has_of r.signal s g ∙ eqb_comm s r.signal)
        ∙ sym (any_next s ∙ ap (λ (b : Bool). p s || (b && eqb r.signal s)) k))

    pub signals-other : same_queue q (queue_of r) ≡ false → signals_in q (take (i + 1) rs) ≡ signals_in q (take i rs)
    unfolding signals_in in_queue
    signals-other n =
        set-cong (λ s. any (in_queue q s) (take (i + 1) rs)) (λ s. any (in_queue q s) (take i rs))
        (λ s g.
        any_next s
        ∙ ap (λ (b : Bool). any (in_queue q s) (take i rs) || b) (and_left (eqb r.signal s) n)
        ∙ or-false (any (in_queue q s) (take i rs)))
