-- What a change at the place found makes of the row. Assumes nothing.
use Rattle.std.proofs.Common.{◌≡◌, ℕ, ◌∙◌, sym, ap, List, get_or, set, Some, None}
use Rattle.std.specs.Prelude.{position}
use native.Mathlib.Nat.{le_of_eq}
use lib.Seq.{set_out, set-get_or}
use Rattle.lists.specs.Lists.{find}
use Rattle.lists.proofs.Finds.{find_absent, find-some, any-none}
use Rattle.sigset.specs.declared.SigSet.{SigSet}
use Rattle.threads.specs.Records.{no_thread, with_mask, has_id, with_mask_at}
use Rattle.threads.specs.declared.Thread.{Thread}

pub mask-changed : (ys zs : List Thread) (id i : ℕ) (m : SigSet) → position (has_id id) ys ≡ Some i
    → zs ≡ set ys i (with_mask m (get_or ys i no_thread)) → zs ≡ with_mask_at id m ys
unfolding with_mask_at
mask-changed ys zs id i m e z =
    z ∙ ap (λ (k : ℕ). set ys k (with_mask m (get_or ys k no_thread))) (sym (find-some (has_id id) ys i e))

-- no record has the id: a write past the end changes nothing
pub mask-unchanged : (ys : List Thread) (id : ℕ) (m : SigSet) → position (has_id id) ys ≡ None
    → ys ≡ with_mask_at id m ys
unfolding with_mask_at
mask-unchanged ys id m e =
    sym (set_out ys (find (has_id id) ys) _
    (le_of_eq (sym (find_absent (has_id id) ys (any-none (has_id id) ys e)))))

-- a record whose mask is m already is what it would become
pub mask-kept : (ys : List Thread) (i : ℕ) (m : SigSet) → (get_or ys i no_thread).mask ≡ m
    → ys ≡ set ys i (with_mask m (get_or ys i no_thread))
mask-kept ys i m e =
    sym (set-get_or ys i no_thread)
    ∙ ap (λ (n : SigSet). set ys i (with_mask n (get_or ys i no_thread))) e
