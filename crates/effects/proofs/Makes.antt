-- Changes on the lent tables, one list after another: what is asked and promised of a list, of its parts.
-- Assumes nothing.
use mathlib.Core.Path.{◌≡◌}
use mathlib.Core.Bool.{true}
use mathlib.Core.List.{List, [], ◌∷◌, ◌++◌}
use lib.ListN.{length}
use Rattle.rules.specs.View.{Change}
use Rattle.rules.specs.Store.{apply}
use Rattle.rules.specs.Fitting.{fits}
use Rattle.sound.specs.Lent.{Lent, decoded, view_of}
use Rattle.effects.specs.Changes.{Ready, Changed}
use Rattle.effects.proofs.After.{sound-after}
use Rattle.effects.proofs.Chain as chain

-- ---- one change

pub fits_one : {ch : Change} {l : Lent} → Ready (ch ∷ []) l → fits (view_of l) ch ≡ true
fits_one {ch} {l} r = chain.first_fits ch [] (decoded l) r.fit

-- it is enough that the tables keep their lengths and say the right thing
pub makes : {ch : Change} {l l' : Lent} → Ready (ch ∷ []) l
    → length l'.processes ≡ length l.processes → length l'.threads ≡ length l.threads
    → length l'.thread_buffer ≡ length l.thread_buffer → length l'.process_buffer ≡ length l.process_buffer
    → decoded l' ≡ apply ch (decoded l) → Changed (ch ∷ []) l l'
makes {ch} {l} {l'} r p t b q k = record {
  store = chain.one-made ch (decoded l) (decoded l') k;
  sound =
      sound-after ch l l' r.sound (fits_one r)
      (record { processes = p; threads = t; thread_buffer = b; process_buffer = q }) k;
}

-- ---- by a list that they equal

pub ready-as : {cs js : List Change} {l : Lent} → Ready cs l → cs ≡ js → Ready js l
ready-as {cs} {js} {l} r e = record { sound = r.sound; fit = chain.all_fit cs (decoded l) r.fit js e }

pub made_as : {cs js : List Change} {l l' : Lent} → Changed js l l' → cs ≡ js → Changed cs l l'
made_as {cs} {js} {l} {l'} m e =
    record { store = chain.made cs (decoded l) js e (decoded l') m.store; sound = m.sound }

pub made_none : {cs : List Change} {l : Lent} → Ready cs l → cs ≡ [] → Changed cs l l
made_none {cs} {l} r e = record { store = chain.made_none cs (decoded l) e; sound = r.sound }

pub ready-first : {cs rest : List Change} {ch : Change} {l : Lent} → Ready cs l → cs ≡ ch ∷ rest → Ready (ch ∷ []) l
ready-first {cs} {rest} {ch} {l} r e =
    record { sound = r.sound; fit = chain.first-part-fits (ch ∷ []) rest (decoded l) (ready-as r e).fit }

-- ---- some, then others

pub ready-part : {cs js : List Change} (ys : List Change) {l : Lent} → Ready cs l → cs ≡ js ++ ys → Ready js l
ready-part {cs} {js} ys {l} r e =
    record { sound = r.sound; fit = chain.first-part-fits js ys (decoded l) (ready-as r e).fit }

pub ready-last : {cs js ys : List Change} {l l' : Lent} → Ready cs l → Changed js l l' → cs ≡ js ++ ys → Ready ys l'
ready-last {cs} {js} {ys} {l} {l'} r m e = record {
  sound = m.sound;
  fit = chain.second-part-fits js ys (decoded l) (decoded l') m.store (ready-as r e).fit;
}

pub made-last : {cs js ys : List Change} {l l' l'' : Lent} → Changed js l l' → Changed ys l' l'' → cs ≡ js ++ ys
    → Changed cs l l''
made-last {cs} {js} {ys} {l} {l'} {l''} m k e = record {
  store =
      chain.made cs (decoded l) (js ++ ys) e (decoded l'')
      (chain.then-part js ys (decoded l) (decoded l') m.store (decoded l'') k.store);
  sound = k.sound;
}
