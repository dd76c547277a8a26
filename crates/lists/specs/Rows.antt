-- A table of words as a list of rows of w words, and back. Nothing here knows a capacity or a field.
use Rattle.std.specs.Prelude.{List, [], ◌∷◌, ◌++◌, ℕ, zero, suc, ◌*◌, take, drop}

-- the w words of row i
abbrev pub row : ℕ → List ℕ → ℕ → List ℕ
row w ws i = take w (drop (i * w) ws)

-- n rows, each decoded
unfoldable pub rows : {A : Type 0} → (List ℕ → A) → ℕ → ℕ → List ℕ → List A
rows dec w zero ws = []
rows dec w (suc n) ws = dec (take w ws) ∷ rows dec w n (drop w ws)

-- values encoded one after the other
unfoldable pub flat : {A : Type 0} → (A → List ℕ) → List A → List ℕ
flat enc [] = []
flat enc (x ∷ xs) = enc x ++ flat enc xs
