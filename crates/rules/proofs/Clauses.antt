-- The clauses of soundness, by name. Assumes nothing.
use mathlib.Core.Path.{◌≡◌}
use mathlib.Core.Bool.{true}
use Rattle.lists.proofs.Bools.{and-fst, and-snd, and_both}
use Rattle.rules.specs.Store.{Store}
use Rattle.rules.specs.Sound.{lengths_right, free_zero, ids_in_range, ids_distinct, fields_in_range, threads_owned}
use Rattle.rules.specs.Sound.{processes_have_threads, nothing_unmaskable, unmaskable_default, all_flags_known}
use Rattle.rules.specs.Sound.{records_laid_out, limit_kept, pending_once, nothing_ignored, sound}

pub record Clauses (st : Store) : Type 0 where
  pub lengths : lengths_right st ≡ true
  pub free_places : free_zero st ≡ true
  pub ids_range : ids_in_range st ≡ true
  pub ids_apart : ids_distinct st ≡ true
  pub fields : fields_in_range st ≡ true
  pub owned : threads_owned st ≡ true
  pub have-threads : processes_have_threads st ≡ true
  pub unmasked_sets : nothing_unmaskable st ≡ true
  pub unmaskable_actions : unmaskable_default st ≡ true
  pub flags : all_flags_known st ≡ true
  pub laid_out : records_laid_out st ≡ true
  pub limit : limit_kept st ≡ true
  pub once : pending_once st ≡ true
  pub not-ignored : nothing_ignored st ≡ true

pub clauses : (st : Store) → sound st ≡ true → Clauses st
unfolding sound
clauses st e =
    let e1 = and-snd (lengths_right st) _ e in
    let e2 = and-snd (free_zero st) _ e1 in
    let e3 = and-snd (ids_in_range st) _ e2 in
    let e4 = and-snd (ids_distinct st) _ e3 in
    let e5 = and-snd (fields_in_range st) _ e4 in
    let e6 = and-snd (threads_owned st) _ e5 in
    let e7 = and-snd (processes_have_threads st) _ e6 in
    let e8 = and-snd (nothing_unmaskable st) _ e7 in
    let e9 = and-snd (unmaskable_default st) _ e8 in
    let e10 = and-snd (all_flags_known st) _ e9 in
    let e11 = and-snd (records_laid_out st) _ e10 in
    let e12 = and-snd (limit_kept st) _ e11 in
    let e13 = and-snd (pending_once st) _ e12 in
    record {
      lengths = and-fst (lengths_right st) _ e;
      free_places = and-fst (free_zero st) _ e1;
      ids_range = and-fst (ids_in_range st) _ e2;
      ids_apart = and-fst (ids_distinct st) _ e3;
      fields = and-fst (fields_in_range st) _ e4;
      owned = and-fst (threads_owned st) _ e5;
      have-threads = and-fst (processes_have_threads st) _ e6;
      unmasked_sets = and-fst (nothing_unmaskable st) _ e7;
      unmaskable_actions = and-fst (unmaskable_default st) _ e8;
      flags = and-fst (all_flags_known st) _ e9;
      laid_out = and-fst (records_laid_out st) _ e10;
      limit = and-fst (limit_kept st) _ e11;
      once = and-fst (pending_once st) _ e12;
      not-ignored = e13;
    }

pub sound-by : (st : Store) → Clauses st → sound st ≡ true
unfolding sound
sound-by st c =
    and_both c.lengths
    (and_both c.free_places
    (and_both c.ids_range
    (and_both c.ids_apart
    (and_both c.fields
    (and_both c.owned
    (and_both c.have-threads
    (and_both c.unmasked_sets
    (and_both c.unmaskable_actions
    (and_both c.flags
    (and_both c.laid_out
    (and_both c.limit
    (and_both c.once
    c.not-ignored))))))))))))
