-- Laws of tests. Assumes nothing.
use mathlib.Core.Path.{◌≡◌, refl, sym, ◌∙◌}
use mathlib.Core.Bool.{Bool, true, false, not, ◌&&◌, ◌||◌, cond, true≢false}

-- ---- cases

-- a case split that keeps the equation
pub split {ℓ} : {P : Type ℓ} (b : Bool) → (b ≡ true → P) → (b ≡ false → P) → P
split true t f = t refl
split false t f = f refl

-- a test that both passes and fails proves anything
pub clash {ℓ} : {P : Type ℓ} {b : Bool} → b ≡ true → b ≡ false → P
clash e f = absurd (true≢false (sym e ∙ f))

-- two tests are equal if each passes where the other does
pub same_test : (a b : Bool) → (a ≡ true → b ≡ true) → (b ≡ true → a ≡ true) → a ≡ b
same_test true b h k = sym (h refl)
same_test false b h k = split b (λ e. k e ∙ sym e) (λ e. sym e)

-- ---- and

pub and-fst : (a b : Bool) → (a && b) ≡ true → a ≡ true
and-fst true b e = refl
and-fst false b e = e

pub and-snd : (a b : Bool) → (a && b) ≡ true → b ≡ true
and-snd true b e = e
and-snd false b e = clash e refl

pub and_both : {a b : Bool} → a ≡ true → b ≡ true → (a && b) ≡ true
and_both p q = rw (p, q)

pub and_same : {a b c d : Bool} → a ≡ c → b ≡ d → (a && b) ≡ (c && d)
and_same p q = rw (p, q)

pub and_left : {a : Bool} (b : Bool) → a ≡ false → (a && b) ≡ false
and_left b p = rw p

pub and_right : (a : Bool) {b : Bool} → b ≡ false → (a && b) ≡ false
and_right true p = p
and_right false p = refl

pub and_cases {ℓ} : {P : Type ℓ} (a b : Bool) → (a && b) ≡ false → (a ≡ false → P) → (b ≡ false → P) → P
and_cases true b e f g = g e
and_cases false b e f g = f refl

-- the first test may be taken to pass where the second is made
pub and-imp : (a : Bool) {b c : Bool} → (a ≡ true → b ≡ c) → (a && b) ≡ (a && c)
and-imp true h = h refl
and-imp false h = refl

-- ---- or

pub or_left : {a : Bool} (b : Bool) → a ≡ true → (a || b) ≡ true
or_left b p = rw p

pub or_right : (a : Bool) {b : Bool} → b ≡ true → (a || b) ≡ true
or_right true p = refl
or_right false p = p

pub or-both : {a b : Bool} → a ≡ false → b ≡ false → (a || b) ≡ false
or-both p q = rw (p, q)

pub or-fst-false : (a b : Bool) → (a || b) ≡ false → a ≡ false
or-fst-false true b e = e
or-fst-false false b e = refl

pub or-snd-false : (a b : Bool) → (a || b) ≡ false → b ≡ false
or-snd-false true b e = clash refl e
or-snd-false false b e = e

pub or_cases {ℓ} : {P : Type ℓ} (a b : Bool) → (a || b) ≡ true → (a ≡ true → P) → (b ≡ true → P) → P
or_cases true b e f g = f refl
or_cases false b e f g = g e

-- ---- not

pub not-and : (a b : Bool) → not (a && b) ≡ (not a || not b)
not-and true b = refl
not-and false b = refl

pub not-or : (a b : Bool) → not (a || b) ≡ (not a && not b)
not-or true b = refl
not-or false b = refl

-- ---- cond

module _ {A : Type 0} where
  pub cond-true : {b : Bool} (x y : A) → b ≡ true → cond b x y ≡ x
  cond-true x y e = rw e

  pub cond-false : {b : Bool} (x y : A) → b ≡ false → cond b x y ≡ y
  cond-false x y e = rw e

  pub cond_same : (b : Bool) (x : A) → cond b x x ≡ x
  cond_same true x = refl
  cond_same false x = refl

  -- a choice that changes nothing where it is made
  pub cond-kept : (b : Bool) {x y : A} → (b ≡ true → x ≡ y) → cond b x y ≡ y
  cond-kept true h = h refl
  cond-kept false h = refl

pub cond_map : {A B : Type 0} (f : A → B) (b : Bool) (x y : A) → f (cond b x y) ≡ cond b (f x) (f y)
cond_map f true x y = refl
cond_map f false x y = refl

-- ---- a test made where another passes: `not a || b`

pub imp_use : (a b : Bool) → (not a || b) ≡ true → a ≡ true → b ≡ true
imp_use true b h e = h
imp_use false b h e = clash e refl

pub imp-by : (a : Bool) {b : Bool} → (a ≡ true → b ≡ true) → (not a || b) ≡ true
imp-by true h = h refl
imp-by false h = refl
