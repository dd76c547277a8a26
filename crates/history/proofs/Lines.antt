-- A line of the ledger: its counts balance, after each change. Assumes nothing.
use Prim.Native.Nat.{ℕ, ◌+◌, ◌≤◌}
use mathlib.Core.Path.{◌≡◌, refl, sym, ap, ◌∙◌, subst}
use mathlib.Core.Bool.{Bool, true, false, cond}
use mathlib.Core.List.{List, [], ◌∷◌, tail}
use native.Mathlib.Omega.{arith}
use lib.ListN.{length, length-append}
use Rattle.lists.specs.Lists.{any}
use Rattle.lists.proofs.Lists.{any-count, count-keep, is_some-first}
use Rattle.types.specs.declared.Siginfo.{Siginfo}
use Rattle.rules.specs.Types.{Queue}
use Rattle.rules.specs.View.{Change, forget, new_process, new_thread, remove_process, remove_thread, set_stopped}
use Rattle.rules.specs.View.{set_action}
use Rattle.rules.specs.View.{set_mask, set_mark, clear_mark, append, drop_oldest, discard, in_queue}
use Rattle.rules.specs.Store.{Store, view, records_for}
use Rattle.rules.specs.Fitting.{fits}
use Rattle.history.specs.Ledger.{Line, Ledger, empty_ledger, of_process, with_mark, is_at, on_lines, place}
use Rattle.history.specs.Acts.{keep_send, take_send, empty_line, emptying}
use Rattle.history.proofs.Notes.{everywhere, of_thread, of_signals, note}
use Rattle.history.proofs.Relation.{Agrees}
use Rattle.history.proofs.Records.{at-queue, at-signal}

abbrev pub Balanced : Line → Type 0
Balanced x = x.counts.kept ≡ x.counts.taken + x.counts.discarded + length x.sends

abbrev pub AllBalanced : Ledger → Type 0
AllBalanced k = (q : Queue) (s : ℕ) → Balanced (k.lines q s)

pub balanced-start : AllBalanced empty_ledger
unfolding empty_ledger
balanced-start q s = refl

-- ---- one line changed

keep-balanced : (r : Siginfo) (x : Line) → Balanced x → Balanced (keep_send r x)
keep-balanced r x b = omega (arith, b, length-append x.sends (r ∷ []))

one_less : (rs : List Siginfo) → 1 ≤ length rs → 1 + length (tail rs) ≡ length rs
one_less [] h = absurd (omega arith)
one_less (r ∷ rs) h = omega arith

-- there is a send to take
take-balanced : (x : Line) → 1 ≤ length x.sends → Balanced x → Balanced (take_send x)
take-balanced x h b = omega (arith, b, one_less x.sends h)

empty-balanced : (x : Line) → Balanced x → Balanced (empty_line x)
empty-balanced x b = omega (arith, b)

-- ---- those that pass the test change

lines-balanced : (p : Queue → ℕ → Bool) (g : Line → Line) (k : Ledger)
    → ((q : Queue) (s : ℕ) → p q s ≡ true → Balanced (k.lines q s) → Balanced (g (k.lines q s)))
    → AllBalanced k → AllBalanced (on_lines p g k)
lines-balanced p g k h b q s = go (p q s) refl
  where
    go : (c : Bool) → p q s ≡ c → Balanced (cond c (g (k.lines q s)) (k.lines q s))
    go true e = h q s e (b q s)
    go false e = b q s

emptying-balanced : (p : Queue → ℕ → Bool) (k : Ledger) → AllBalanced k → AllBalanced (emptying p k)
emptying-balanced p k = lines-balanced p empty_line k (λ q s _. empty-balanced (k.lines q s))

-- ---- every change

module _ (st : Store) (k : Ledger) (a : Agrees st k) where
  -- the ledger has a send where the tables have a record
  pub one-there : (q : Queue) (s : ℕ) → fits (view st) (drop_oldest q s) ≡ true → 1 ≤ length (k.lines q s).sends
  unfolding fits view
  one-there q s f =
      let rs : List Siginfo = records_for q st in
      let y : any (in_queue q s) rs ≡ true = sym (is_some-first (in_queue q s) rs) ∙ f in
      omega (arith, any-count (in_queue q s) rs y, count-keep (in_queue q s) rs, ap length (a.records q s))

  balanced-drop_oldest : (q : Queue) (s : ℕ) → fits (view st) (drop_oldest q s) ≡ true → AllBalanced k
      → AllBalanced (note (drop_oldest q s) k)
  unfolding note
  balanced-drop_oldest q s f =
      lines-balanced (is_at q s) take_send k
      (λ q' s' e. take-balanced (k.lines q' s')
      (subst (λ (j : Queue). 1 ≤ length (k.lines j s').sends) (sym (at-queue q q' s s' e))
      (subst (λ (n : ℕ). 1 ≤ length (k.lines q n).sends) (sym (at-signal q q' s s' e)) (one-there q s f))))

  pub balanced-change : (ch : Change) → fits (view st) ch ≡ true → AllBalanced k → AllBalanced (note ch k)
  unfolding note place
  balanced-change forget f b = emptying-balanced everywhere k b
  balanced-change (new_process p) f b = b
  balanced-change (new_thread t) f b = b
  balanced-change (remove_process n) f b = emptying-balanced (of_process n) k b
  balanced-change (remove_thread n) f b = emptying-balanced (of_thread n) k b
  balanced-change (set_stopped n c) f b = b
  balanced-change (set_action n i x) f b = b
  balanced-change (set_mask n m) f b = b
  balanced-change (set_mark j i) f b = lines-balanced (is_at j i) (with_mark true) k (λ q s _ h. h) b
  balanced-change (clear_mark j i) f b = lines-balanced (is_at j i) (with_mark false) k (λ q s _ h. h) b
  balanced-change (append r) f b =
      lines-balanced (λ q s. in_queue q s r) (keep_send r) k (λ q s _. keep-balanced r (k.lines q s)) b
  balanced-change (drop_oldest j i) f b = balanced-drop_oldest j i f b
  balanced-change (discard n x) f b = emptying-balanced (of_signals n x) k b
