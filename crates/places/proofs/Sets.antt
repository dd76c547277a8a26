-- What is gathered of the actions of a process, as sets, and the marks held against it. Assumes nothing.
use Prim.Native.Nat.{ℕ, ◌+◌, ◌-◌, ◌<◌}
use mathlib.Core.Path.{◌≡◌, refl, sym, ap, ap₂, ◌∙◌}
use mathlib.Core.Bool.{Bool, true, false, not, ◌&&◌, ◌||◌, cond, and-false, or-false, or_assoc}
use native.Mathlib.Omega.{arith}
use lib.Bits.{bit_and, bit_or}
use lib.Dec.{eqb, leb}
use lib.ListN.{length, get_or, take}
use lib.Seq.{take_all}
use borrow.Author.Tests.{eqb-true, eqb-false, leb-true, le-leb, lt-leb}
use Rattle.limits.specs.Limits.{signals, sig_dfl, sig_ign, known_flags, SIGKILL, SIGSTOP, SIGCHLD, SIGURG, SIGWINCH}
use Rattle.lists.specs.Lists.{all}
use Rattle.lists.proofs.Bools.{split, same_test}
use Rattle.lists.proofs.Bits.{known-or}
use Rattle.lists.proofs.Lists.{all-and}
use Rattle.lists.proofs.Loops.{all_none, all-next}
use Rattle.sigset.specs.declared.SigSet.{SigSet}
use Rattle.sigset.specs.Set.{Signal, empty, has, set_of, union, of_signal}
use Rattle.sigset.proofs.Laws.{has-set, set-cong, is_set, has-empty, has_of, has-union, union-lt}
use Rattle.sigset.proofs.Laws.{set-none}
use Rattle.types.specs.declared.Action.{Action}
use Rattle.types.specs.Values.{default_action}
use Rattle.rules.specs.Types.{Process}
use Rattle.rules.specs.Signals.{ignoring, ignored}
use Rattle.rules.specs.View.{action_of}
use Rattle.rules.proofs.Unmaskable.{unmasked-empty}
use Rattle.rules.specs.Sound.{unmasked, action_unmasked, flags_known}
use Rattle.places.specs.declared.Gathered.{Gathered}
use Rattle.soundness.specs.Check.{ignored_by, action_ok}
use Rattle.places.specs.Notes.{ignored_by_choice, Gathers}

-- ---- a signal alone where a test holds

alone : (b : Bool) (x s : ℕ) → Signal s → has (cond b (of_signal x) empty) s ≡ (b && eqb s x)
alone true x s g = has_of x s g
alone false x s g = has-empty s

-- ---- the set that the pass gathers

unmasked-union : (a b : SigSet) → unmasked (union a b) ≡ (unmasked a && unmasked b)
unfolding unmasked
unmasked-union a b =
    let k : Signal SIGKILL = record { low = omega arith; high = omega arith } in
    let s : Signal SIGSTOP = record { low = omega arith; high = omega arith } in
    ap₂ (λ (x y : Bool). not (x || y)) (has-union a b SIGKILL k) (has-union a b SIGSTOP s)
    ∙ apart (has a SIGKILL) (has b SIGKILL) (has a SIGSTOP) (has b SIGSTOP)
  where
    apart : (p q u v : Bool) → not ((p || q) || (u || v)) ≡ (not (p || u) && not (q || v))
    apart true q u v = refl
    apart false true true v = refl
    apart false true false v = refl
    apart false false true v = refl
    apart false false false v = refl

-- the signals up to n that pass a test, and the next one
up-to-next : (c : ℕ → Bool) (n s : ℕ) → ((leb s n && c s) || (c (n + 1) && eqb s (n + 1))) ≡ (leb s (n + 1) && c s)
up-to-next c n s =
    split (eqb s (n + 1))
    (λ e.
    let k : s ≡ n + 1 = eqb-true s (n + 1) e in
    let low : leb s n ≡ false = lt-leb s n (omega arith) in
    let high : leb s (n + 1) ≡ true = le-leb s (n + 1) (omega arith) in
    rw (e, low, high) (and_one (c (n + 1)) ∙ ap c (sym k)))
    (λ e.
    let n-other = eqb-false s (n + 1) e in
    let same : leb s n ≡ leb s (n + 1) =
    same_test (leb s n) (leb s (n + 1)) (λ k. le-leb s (n + 1) (let l = leb-true s n k in omega arith))
    (λ k. le-leb s n (let l = leb-true s (n + 1) k in omega (arith, n-other))) in
    rw (e, and-false (c (n + 1))) (or-false (leb s n && c s) ∙ ap (λ (b : Bool). b && c s) same))
  where
    and_one : (b : Bool) → (b && true) ≡ b
    and_one true = refl
    and_one false = refl

module _ (p : Process) where
  pub gathers-none : Gathers p 0 (record { flags = 0; masks = empty; chosen = empty })
  gathers-none =
      record {
        known = sym (all_none flags_known default_action p.actions);
        maskable = unmasked-empty ∙ sym (all_none action_unmasked default_action p.actions);
        chosen =
            sym (set-none (λ s. leb s 0 && ignored_by_choice p s)
            (λ s g. ap (λ (b : Bool). b && ignored_by_choice p s) (lt-leb s 0 g.low)));
      }

  pub gathers-more : (n : ℕ) (g h : Gathered) (a : Action) → n < length p.actions → a ≡ action_of p (n + 1)
      → Gathers p n g
      → (h.flags ≡ bit_or g.flags a.flags) × ((h.masks ≡ union g.masks a.mask)
      × (h.chosen ≡ union g.chosen (cond (eqb a.handler sig_ign) (of_signal (n + 1)) empty)))
      → Gathers p (n + 1) h
  unfolding action_of flags_known action_unmasked
  gathers-more n g h a l e k w =
      let m : n + 1 - 1 ≡ n = omega arith in
      let at : a ≡ get_or p.actions n default_action = e ∙ ap (λ (i : ℕ). get_or p.actions i default_action) m in
      let one : Bool → SigSet = λ b. cond b (of_signal (n + 1)) empty in
      let next : SigSet = one (ignored_by_choice p (n + 1)) in
      record {
        known =
            ap (λ (x : ℕ). eqb (bit_and x known_flags) x) w.0
            ∙ known-or g.flags a.flags known_flags
            ∙ ap₂ (λ (x y : Bool). x && y) k.known (ap flags_known at)
            ∙ sym (all-next flags_known default_action p.actions n l);
        maskable =
            ap unmasked w.1.0
            ∙ unmasked-union g.masks a.mask
            ∙ ap₂ (λ (x y : Bool). x && y) k.maskable (ap action_unmasked at)
            ∙ sym (all-next action_unmasked default_action p.actions n l);
        chosen =
            w.1.1
            ∙ ap (λ (x : Action). union g.chosen (one (eqb x.handler sig_ign))) e
            ∙ is_set (union g.chosen next) (λ s. leb s (n + 1) && ignored_by_choice p s) (union-lt g.chosen next)
            (λ s i.
            has-union g.chosen next s i
            ∙ ap₂ (λ (x y : Bool). x || y)
            (ap (λ (x : SigSet). has x s) k.chosen ∙ has-set (λ s. leb s n && ignored_by_choice p s) s i)
            (alone (ignored_by_choice p (n + 1)) (n + 1) s i)
            ∙ up-to-next (ignored_by_choice p) n s);
      }

  -- what is gathered of all
  module _ (long : length p.actions ≡ signals) (g : Gathered) (k : Gathers p signals g) where
    whole : take signals p.actions ≡ p.actions
    whole = take_all signals p.actions (omega arith)

    pub gathered-ok : (unmasked g.masks && eqb (bit_and g.flags known_flags) g.flags)
        ≡ all action_ok p.actions
    unfolding action_ok
    gathered-ok =
        ap₂ (λ (x y : Bool). x && y) (k.maskable ∙ ap (all action_unmasked) whole)
        (k.known ∙ ap (all flags_known) whole)
        ∙ sym (all-and action_unmasked flags_known p.actions)

    pub gathered-chosen : g.chosen ≡ set_of (ignored_by_choice p)
    gathered-chosen =
        k.chosen
        ∙ set-cong (λ s. leb s signals && ignored_by_choice p s) (ignored_by_choice p)
        (λ s i. ap (λ (b : Bool). b && ignored_by_choice p s) (le-leb s signals i.high))

-- ---- the ignored signals

at-itself : (b : ℕ → Bool) (x s : ℕ) → (b x && eqb s x) ≡ (b s && eqb s x)
at-itself b x s =
    split (eqb s x) (λ e. ap (λ (n : ℕ). b n && eqb s x) (sym (eqb-true s x e)))
    (λ e. rw e (and-false (b x) ∙ sym (and-false (b s))))

spread : (c d p q r : Bool) → (((c || (d && p)) || (d && q)) || (d && r)) ≡ (c || (d && (p || (q || r))))
spread true d p q r = refl
spread false true p q r = or_assoc p q r
spread false false p q r = refl

module _ (p : Process) where
  abbrev is_default_at : ℕ → Bool
  is_default_at s = eqb (action_of p s).handler sig_dfl

  abbrev alone-default : ℕ → SigSet
  alone-default s = cond (is_default_at s) (of_signal s) empty

  pub ignored-is : (a b c d : SigSet) → a ≡ set_of (ignored_by_choice p) → b ≡ union a (alone-default SIGCHLD)
      → c ≡ union b (alone-default SIGURG) → d ≡ union c (alone-default SIGWINCH) → d ≡ ignored_by p
  unfolding ignored_by ignored ignoring
  ignored-is a b c d ea eb ec ed =
      let with : (x y : SigSet) (t s : ℕ) → Signal s → y ≡ union x (alone-default t)
      → has y s ≡ (has x s || (is_default_at s && eqb s t)) =
      λ x y t s i e. ap (λ (z : SigSet). has z s) e ∙ has-union x (alone-default t) s i
      ∙ ap (λ (z : Bool). has x s || z) (alone (is_default_at t) t s i ∙ at-itself is_default_at t s) in
      is_set d (λ s. ignored (action_of p s) s) (rw ed (union-lt c (alone-default SIGWINCH)))
      (λ s i.
      with c d SIGWINCH s i ed
      ∙ ap (λ (z : Bool). z || (is_default_at s && eqb s SIGWINCH))
      (with b c SIGURG s i ec
      ∙ ap (λ (z : Bool). z || (is_default_at s && eqb s SIGURG))
      (with a b SIGCHLD s i eb
      ∙ ap (λ (z : Bool). z || (is_default_at s && eqb s SIGCHLD))
      (ap (λ (z : SigSet). has z s) ea ∙ has-set (ignored_by_choice p) s i)))
      ∙ spread (ignored_by_choice p s) (is_default_at s) (eqb s SIGCHLD) (eqb s SIGURG) (eqb s SIGWINCH))
