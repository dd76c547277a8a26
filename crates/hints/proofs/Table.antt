-- What code that looks at a table's ids, or at its hints, reads and writes. Assumes nothing.
use Prim.Native.Nat.{ℕ, ◌*◌, ◌≤◌, ◌<◌}
use mathlib.Core.Path.{◌≡◌, sym, ap, ◌∙◌}
use mathlib.Core.Bool.{false}
use mathlib.Core.List.{List}
use native.Mathlib.Nat.{add-zero}
use native.Mathlib.Omega.{arith}
use lib.Dec.{eqb}
use lib.ListN.{length, get_or, set, length-set}
use lib.Seq.{get_or-set_same, get_or-set_other}
use borrow.Author.Tests.{eq-eqb, ne_eqb, eqb-true, eqb-false}
use Rattle.lists.specs.Lists.{find}
use Rattle.lists.proofs.Bools.{split}
use Rattle.lists.proofs.Rows.{length-rows, get_d_rows, get_d-row}
use Rattle.hints.specs.Hints.{hint_slots, first_slot, second_slot, first_word, ids_of, is_id, Hinted, seek, noted}
use Rattle.hints.proofs.Laws.{first_below, second_below, none-zero, seek-first, seek-second, seek-last}
use Rattle.hints.proofs.Laws.{seek-absent}

-- ---- a table

module _ (width places : ℕ) (ws : List ℕ) where
  pub length-ids_of : length (ids_of width places ws) ≡ places
  unfolding ids_of
  length-ids_of = length-rows first_word width places ws

  module _ (i : ℕ) (h : i < places) (w : 1 ≤ width) where
    pub id-at : get_or (ids_of width places ws) i 0 ≡ get_or ws (i * width) 0
    unfolding ids_of first_word
    id-at =
        get_d_rows first_word width places ws i 0 h ∙ get_d-row width ws i 0 w
        ∙ ap (λ (k : ℕ). get_or ws k 0) (add-zero (i * width))

    -- the test as code makes it
    pub id-test : (id : ℕ) → 1 ≤ id → is_id id (get_or (ids_of width places ws) i 0) ≡ eqb (get_or ws (i * width) 0) id
    unfolding is_id
    id-test id k = let z : eqb id 0 ≡ false = ne_eqb id 0 (λ e. omega arith) in rw (z, id-at)

-- ---- its hints

module _ (places : ℕ) (hints : List ℕ) (long : length hints ≡ hint_slots) (all : Hinted places hints) (place : ℕ)
    (p : place < places) where
  set-hinted : (at : ℕ) → Hinted places (set hints at place)
  set-hinted at slot h =
      split (eqb slot at)
      (λ e. let z = eqb-true slot at e in rw (z, get_or-set_same hints at place 0 (omega arith)) p)
      (λ e. rw (get_or-set_other hints at slot place 0 (eqb-false slot at e)) (all slot h))

  pub noted_hinted : (id : ℕ) → Hinted places (noted hints id place)
  unfolding noted
  noted_hinted id =
      split (eqb (get_or hints (first_slot id) 0) 0)
      (λ e. rw e (set-hinted (first_slot id)))
      (λ e. rw e (set-hinted (second_slot id)))

pub length-noted : (hints : List ℕ) (id place : ℕ) → length (noted hints id place) ≡ length hints
unfolding noted
length-noted hints id place =
    split (eqb (get_or hints (first_slot id) 0) 0)
    (λ e. rw (e, length-set))
    (λ e. rw (e, length-set))

-- noted as code does it
module _ (hints : List ℕ) (id place slot : ℕ) where
  pub noted-first : slot ≡ first_slot id → get_or hints slot 0 ≡ 0 → set hints slot place ≡ noted hints id place
  unfolding noted
  noted-first e f = rw (e, eq-eqb (get_or hints (first_slot id) 0) 0 (rw e at f))

  pub noted-second : (other : ℕ) → slot ≡ first_slot id → other ≡ second_slot id → (get_or hints slot 0 ≡ 0 → ⊥)
      → set hints other place ≡ noted hints id place
  unfolding noted
  noted-second other e g f = rw (g, ne_eqb (get_or hints (first_slot id) 0) 0 (rw e at f))

-- ---- hints while they are filled

abbrev pub Filling : ℕ → List ℕ → Type 0
Filling places hints = (length hints ≡ hint_slots) × Hinted places hints

pub filling-noted : (places : ℕ) (hints now : List ℕ) (id place : ℕ) → Filling places hints → place < places
    → now ≡ noted hints id place
    → Filling places now
filling-noted places hints now id place f p e =
    rw e (length-noted hints id place ∙ f.0, noted_hinted places hints f.0 f.1 place p id)

-- ---- a look-up as code makes it

module _ (hints ws : List ℕ) (width places : ℕ) (all : Hinted places hints) (w : 1 ≤ width) (id : ℕ) where
  pub seek-zero : id ≡ 0 → places ≡ seek hints (ids_of width places ws) id
  seek-zero e =
      let ids = ids_of width places ws in
      let long = length-ids_of width places ws in
      sym (seek-absent hints ids id (rw long all) (none-zero id ids e) ∙ long)

  module _ (near : ℕ) (n : near ≡ first_slot id) (k : 1 ≤ id) where
    -- the word of the place that a hint names
    abbrev word_by : ℕ → ℕ
    word_by slot = get_or ws (get_or hints slot 0 * width) 0

    by_first : is_id id (get_or (ids_of width places ws) (get_or hints (first_slot id) 0) 0) ≡ eqb (word_by near) id
    by_first =
        rw (← n) (id-test width places ws (get_or hints near 0) (rw n (all (first_slot id) (first_below id))) w id k)

    pub seek-near : word_by near ≡ id → get_or hints near 0 ≡ seek hints (ids_of width places ws) id
    seek-near e =
        ap (λ (s : ℕ). get_or hints s 0) n
        ∙ sym (seek-first hints (ids_of width places ws) id (by_first ∙ eq-eqb (word_by near) id e))

    module _ (no : word_by near ≡ id → ⊥) (far : ℕ) (f : far ≡ second_slot id) where
      by-second : is_id id (get_or (ids_of width places ws) (get_or hints (second_slot id) 0) 0) ≡ eqb (word_by far) id
      by-second =
          rw (← f) (id-test width places ws (get_or hints far 0) (rw f (all (second_slot id) (second_below id))) w id k)

      pub seek-far : word_by far ≡ id → get_or hints far 0 ≡ seek hints (ids_of width places ws) id
      seek-far e =
          ap (λ (s : ℕ). get_or hints s 0) f
          ∙ sym (seek-second hints (ids_of width places ws) id (by_first ∙ ne_eqb (word_by near) id no)
          (by-second ∙ eq-eqb (word_by far) id e))

      pub seek-rest : (word_by far ≡ id → ⊥) → (r : ℕ) → r ≡ find (is_id id) (ids_of width places ws)
          → r ≡ seek hints (ids_of width places ws) id
      seek-rest e r g =
          g
          ∙ sym (seek-last hints (ids_of width places ws) id (by_first ∙ ne_eqb (word_by near) id no)
          (by-second ∙ ne_eqb (word_by far) id e))
