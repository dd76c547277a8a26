-- One change after another: each fits what those before it leave, and together they are the list. Assumes nothing.
use mathlib.Core.Path.{◌≡◌, refl, sym, ap, ◌∙◌}
use mathlib.Core.Bool.{true}
use mathlib.Core.List.{List, [], ◌∷◌, ◌++◌}
use Rattle.lists.proofs.Bools.{and-fst, and-snd}
use Rattle.rules.specs.View.{Change}
use Rattle.rules.specs.Store.{Store, view, apply, apply_all}
use Rattle.rules.specs.Fitting.{fits, fits_all}
use Rattle.rules.proofs.SendFits.{fits_all-append}

pub first_fits : (ch : Change) (cs : List Change) (st : Store) → fits_all (ch ∷ cs) st ≡ true → fits (view st) ch ≡ true
unfolding fits_all
first_fits ch cs st f = and-fst (fits (view st) ch) (fits_all cs (apply ch st)) f

pub one-made : (ch : Change) (st st' : Store) → st' ≡ apply ch st → st' ≡ apply_all (ch ∷ []) st
unfolding apply_all
one-made ch st st' e = e

-- ---- one list after another

apply_all-append : (xs ys : List Change) (st : Store) → apply_all (xs ++ ys) st ≡ apply_all ys (apply_all xs st)
unfolding apply_all
apply_all-append [] ys st = refl
apply_all-append (x ∷ xs) ys st = apply_all-append xs ys (apply x st)

module _ (xs ys : List Change) (st : Store) where
  pub first-part-fits : fits_all (xs ++ ys) st ≡ true → fits_all xs st ≡ true
  first-part-fits f = and-fst (fits_all xs st) (fits_all ys (apply_all xs st)) (sym (fits_all-append xs ys st) ∙ f)

  module _ (st' : Store) (e : st' ≡ apply_all xs st) where
    pub second-part-fits : fits_all (xs ++ ys) st ≡ true → fits_all ys st' ≡ true
    second-part-fits f =
        ap (fits_all ys) e ∙ and-snd (fits_all xs st) (fits_all ys (apply_all xs st))
        (sym (fits_all-append xs ys st) ∙ f)

    pub then-part : (st'' : Store) → st'' ≡ apply_all ys st' → st'' ≡ apply_all (xs ++ ys) st
    then-part st'' h = h ∙ ap (apply_all ys) e ∙ sym (apply_all-append xs ys st)

-- ---- by a list that they equal

module _ (cs : List Change) (st : Store) where
  pub made : (js : List Change) → cs ≡ js → (st' : Store) → st' ≡ apply_all js st → st' ≡ apply_all cs st
  made js e st' h = h ∙ ap (λ (l : List Change). apply_all l st) (sym e)

  pub made_none : cs ≡ [] → st ≡ apply_all cs st
  unfolding apply_all
  made_none e = made [] e st refl

  pub all_fit : fits_all cs st ≡ true → (js : List Change) → cs ≡ js → fits_all js st ≡ true
  all_fit f js e = ap (λ (l : List Change). fits_all l st) (sym e) ∙ f
