-- Where an id is looked for: at the two places that its hints name, then from the first place on.
use Rattle.std.specs.Prelude.{ℕ, ◌*◌, ◌/◌, ◌%◌, ◌<◌, Bool, not, ◌&&◌, cond, List, eqb, get_or, set}
use Rattle.limits.specs.Limits.{thread_places}
use Rattle.lists.specs.Lists.{find}
use Rattle.lists.specs.Rows.{rows}

-- slots enough that few ids of a full table share one
abbrev pub hint_slots : ℕ
hint_slots = 4 * thread_places

unfoldable pub first_slot : ℕ → ℕ
first_slot id = id % hint_slots

-- ids that share the first slot seldom share this one
unfoldable pub second_slot : ℕ → ℕ
second_slot id = id % 2147483648 * 2654435769 / 1048576 % hint_slots

-- the ids of a table of n places of so many words, the first word of each
unfoldable pub first_word : List ℕ → ℕ
first_word l = get_or l 0 0

unfoldable pub ids_of : (width n : ℕ) → List ℕ → List ℕ
ids_of width n ws = rows first_word width n ws

-- the id is n, and 0 is no id
unfoldable pub is_id : ℕ → ℕ → Bool
is_id n id = not (eqb n 0) && eqb id n

-- every hint is a place
abbrev pub Hinted : (places : ℕ) → List ℕ → Type 0
Hinted places hints = (slot : ℕ) → slot < hint_slots → get_or hints slot 0 < places

-- the place where an id is found, or the number of places
unfoldable pub seek : (hints ids : List ℕ) → ℕ → ℕ
seek hints ids id =
    cond (is_id id (get_or ids (get_or hints (first_slot id) 0) 0)) (get_or hints (first_slot id) 0)
    (cond (is_id id (get_or ids (get_or hints (second_slot id) 0) 0)) (get_or hints (second_slot id) 0)
    (find (is_id id) ids))

-- a place noted for an id, in the first slot where that is unused
unfoldable pub noted : List ℕ → (id place : ℕ) → List ℕ
noted hints id place =
    cond (eqb (get_or hints (first_slot id) 0) 0) (set hints (first_slot id) place) (set hints (second_slot id) place)
