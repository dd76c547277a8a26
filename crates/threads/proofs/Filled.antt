-- A row whose first i records were stored from another: the invariant of `store_words`. Assumes nothing.
use mathlib.Core.Path.{◌≡◌, sym, ◌∙◌, ap}
use Prim.Native.Nat.{ℕ, ◌+◌, ◌<◌}
use native.Mathlib.Nat.{zero-add, le_of_eq}
use native.Mathlib.Omega.{arith}
use mathlib.Core.List.{List, ◌++◌, append-nil}
use lib.ListN.{length, get_or, set, take, drop as from_on, drop_of_length-le}
use lib.Seq.{paste, take_all, set-get_or}
use Rattle.lists.proofs.Loops.{paste_more}
use Rattle.threads.specs.Records.{no_thread}
use Rattle.threads.specs.declared.Thread.{Thread}

-- d, with the first i records of ys pasted over it
abbrev pub filled : List Thread → List Thread → ℕ → List Thread
filled d ys i = paste d 0 ys i

pub filled-suc : (d ys : List Thread) (i n : ℕ) → length d ≡ n → length ys ≡ n → i < n
    → set (filled d ys i) i (get_or ys i no_thread) ≡ filled d ys (i + 1)
filled-suc d ys i n c e l = paste_more ys d i no_thread (omega arith) (omega arith)

-- where record i is the other's already
pub filled-same : (d ys : List Thread) (i n : ℕ) → length d ≡ n → length ys ≡ n → i < n
    → get_or (filled d ys i) i no_thread ≡ get_or ys i no_thread → filled d ys i ≡ filled d ys (i + 1)
filled-same d ys i n c e l h =
    sym (set-get_or (filled d ys i) i no_thread) ∙ ap (set (filled d ys i) i) h ∙ filled-suc d ys i n c e l

pub filled-all : (d ys : List Thread) (n : ℕ) → length d ≡ n → length ys ≡ n → filled d ys n ≡ ys
filled-all d ys n c e =
    ap (λ (k : ℕ). take n ys ++ from_on k d) (zero-add n)
    ∙ ap (λ (zs : List Thread). take n ys ++ zs) (drop_of_length-le d (le_of_eq c))
    ∙ append-nil _
    ∙ take_all n ys (le_of_eq e)
