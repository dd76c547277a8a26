-- The slots of a buffer as a list: those in use, and zero behind them. Assumes nothing.
use mathlib.Core.Path.{◌≡◌, refl, sym, ap, ap₂, ◌∙◌}
use mathlib.Core.Bool.{Bool, true, false, ◌&&◌}
use mathlib.Core.List.{List, ◌++◌}
use Prim.Native.Nat.{ℕ, ◌-◌, ◌≤◌, ◌<◌}
use lib.Dec.{eqb}
use lib.ListN.{length, get_or, drop, replicate, length-drop, take-append-drop}
use borrow.Author.Tests.{eqb-true}
use Rattle.limits.specs.Limits.{buffer_records}
use Rattle.lists.specs.Lists.{all, leading, padded}
use Rattle.lists.proofs.Bools.{and-fst, and-snd}
use Rattle.lists.proofs.Lists.{Pass, All-imp, all-All, All-all, all_replicate, leading-passes, leading-padded}
use Rattle.lists.proofs.Lists.{leading-take, length-leading, get_d-leading, drop-padded, all-equal}
use Rattle.lists.proofs.Sublists.{Within, all-within}
use Rattle.types.specs.declared.Siginfo.{Siginfo}
use Rattle.types.specs.Values.{no_siginfo}
use Rattle.rules.specs.Store.{in_use, used, on_slots}
use Rattle.rules.specs.Sound.{is_zero, rest_zero}

-- ---- a free slot

pub zero_is : (r : Siginfo) → is_zero r ≡ true → r ≡ no_siginfo
unfolding is_zero
zero_is r =
    field r.process _ (λ e₀. field r.thread _ (λ e₁. field r.signal _ (λ e₂. field r.code _ (λ e₃.
    field r.sender _
    (λ e₄. field r.uid _ (λ e₅ h. let e₆ : r.value ≡ 0 = eqb-true r.value 0 h in
    λ i.
    record { process = e₀ i; thread = e₁ i; signal = e₂ i; code = e₃ i; sender = e₄ i; uid = e₅ i; value = e₆ i }))))))
  where
    field : (n : ℕ) (b : Bool) → (n ≡ 0 → b ≡ true → r ≡ no_siginfo) → (eqb n 0 && b) ≡ true → r ≡ no_siginfo
    field n b f e = f (eqb-true n 0 (and-fst (eqb n 0) b e)) (and-snd (eqb n 0) b e)

pub is-zero : (r : Siginfo) → r ≡ no_siginfo → is_zero r ≡ true
unfolding is_zero
is-zero r e = ap is_zero e

pub zero-free : in_use no_siginfo ≡ false
unfolding in_use
zero-free = refl

-- ---- lists of slots

module _ (cs : List Siginfo) where
  pub length-used : length (used cs) ≤ length cs
  unfolding used
  length-used = length-leading in_use cs

  pub used-in_use : all in_use (used cs) ≡ true
  unfolding used
  used-in_use = All-all in_use (leading in_use cs) (leading-passes in_use cs)

  pub used-at : (i : ℕ) (d : Siginfo) → i < length (used cs) → get_or (used cs) i d ≡ get_or cs i d
  unfolding used
  used-at i d h = get_d-leading in_use cs i d h

  -- the records in use, and zero behind them
  pub laid-padded : rest_zero cs ≡ true → cs ≡ padded no_siginfo (length cs) (used cs)
  unfolding rest_zero used padded
  laid-padded e =
      let k : ℕ = length (leading in_use cs) in
      let z : drop k cs ≡ replicate (length (drop k cs)) no_siginfo =
      all-equal no_siginfo (drop k cs)
      (All-imp (Pass is_zero) (λ r. r ≡ no_siginfo) zero_is (drop k cs) (all-All is_zero (drop k cs) e)) in
      sym (take-append-drop k cs)
      ∙ ap₂ (λ x y. x ++ y) (sym (leading-take in_use cs)) (z ∙ ap (λ n. replicate n no_siginfo) (length-drop k cs))

module _ (n : ℕ) (rs : List Siginfo) (u : all in_use rs ≡ true) where
  pub used-padded : used (padded no_siginfo n rs) ≡ rs
  unfolding used
  used-padded = leading-padded in_use no_siginfo n rs (all-All in_use rs u) zero-free

  pub padded-laid : rest_zero (padded no_siginfo n rs) ≡ true
  unfolding rest_zero
  padded-laid =
      rw (used-padded, drop-padded no_siginfo n rs)
      (all_replicate is_zero no_siginfo (is-zero no_siginfo refl) (n - length rs))

-- ---- after a change of the records

module _ (g : List Siginfo → List Siginfo) (cs : List Siginfo) (u : all in_use (g (used cs)) ≡ true) where
  pub used-after : used (on_slots g cs) ≡ g (used cs)
  unfolding on_slots
  used-after = used-padded buffer_records (g (used cs)) u

  pub rest-after : rest_zero (on_slots g cs) ≡ true
  unfolding on_slots
  rest-after = padded-laid buffer_records (g (used cs)) u

-- the records that are left stand in their order
module _ (g : List Siginfo → List Siginfo) (w : (rs : List Siginfo) → Within (g rs) rs) (cs : List Siginfo) where
  pub in_use-within : all in_use (g (used cs)) ≡ true
  in_use-within = all-within in_use (w (used cs)) (used-in_use cs)

  pub used-within : used (on_slots g cs) ≡ g (used cs)
  used-within = used-after g cs in_use-within

  pub records-within : Within (used (on_slots g cs)) (used cs)
  records-within = rw used-within (w (used cs))
