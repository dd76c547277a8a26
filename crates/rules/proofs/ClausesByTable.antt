-- The clauses of soundness table by table and buffer by buffer: what is taken from a sound store, and what makes one.
-- Assumes nothing.
use mathlib.Core.Path.{◌≡◌}
use mathlib.Core.Bool.{true}
use lib.Dec.{eqb}
use lib.ListN.{length}
use borrow.Author.Tests.{eqb-true, eq-eqb}
use Rattle.limits.specs.Limits.{process_places, thread_places, buffer_records}
use Rattle.lists.specs.Lists.{all, pairs_where}
use Rattle.lists.proofs.Bools.{and-fst, and-snd, and_both}
use Rattle.rules.specs.Store.{Store, used, view}
use Rattle.rules.specs.Sound.{is_live, apart, if_live, if_free, process_id, thread_id, actions_long, lengths_right}
use Rattle.rules.specs.Sound.{zero_process, zero_thread, free_zero, good_process_id, good_thread_id, ids_in_range}
use Rattle.rules.specs.Sound.{ids_distinct, fields_fit, fields_in_range, belongs, has_thread, threads_owned}
use Rattle.rules.specs.Sound.{processes_have_threads, process_unmasked, thread_unmasked, nothing_unmaskable}
use Rattle.rules.specs.Sound.{kill_stop_default, unmaskable_default, process_flags_known, all_flags_known, rest_zero}
use Rattle.rules.specs.Sound.{aimed_at_thread, aimed_at_process, records_laid_out, within_limit, limit_kept}
use Rattle.rules.specs.Sound.{is_standard}
use Rattle.rules.specs.Sound.{not_twice, not_marked_too, pending_once, record_not_ignored, process_not_ignored}
use Rattle.rules.specs.Sound.{thread_not_ignored, nothing_ignored, sound}
use Rattle.rules.proofs.Clauses.{Clauses, clauses, sound-by}

pub record Lengths (st : Store) : Type 0 where
  pub processes : length st.processes ≡ process_places
  pub actions : all actions_long st.processes ≡ true
  pub threads : length st.threads ≡ thread_places
  pub thread_slots : length st.thread_buffer ≡ buffer_records
  pub process_slots : length st.process_buffer ≡ buffer_records

pub lengths-of : (st : Store) → lengths_right st ≡ true → Lengths st
unfolding lengths_right
lengths-of st e =
    let e1 = and-snd (eqb (length st.processes) process_places) _ e in
    let e2 = and-snd (all actions_long st.processes) _ e1 in
    let e3 = and-snd (eqb (length st.threads) thread_places) _ e2 in
    record {
      processes =
          eqb-true (length st.processes) process_places (and-fst (eqb (length st.processes) process_places) _ e);
      actions = and-fst (all actions_long st.processes) _ e1;
      threads = eqb-true (length st.threads) thread_places (and-fst (eqb (length st.threads) thread_places) _ e2);
      thread_slots =
          eqb-true (length st.thread_buffer) buffer_records
          (and-fst (eqb (length st.thread_buffer) buffer_records) _ e3);
      process_slots =
          eqb-true (length st.process_buffer) buffer_records
          (and-snd (eqb (length st.thread_buffer) buffer_records) _ e3);
    }

pub lengths-by : (st : Store) → Lengths st → lengths_right st ≡ true
unfolding lengths_right
lengths-by st l =
    and_both (eq-eqb (length st.processes) process_places l.processes)
    (and_both l.actions
    (and_both (eq-eqb (length st.threads) thread_places l.threads)
    (and_both (eq-eqb (length st.thread_buffer) buffer_records l.thread_slots)
    (eq-eqb (length st.process_buffer) buffer_records l.process_slots))))

pub record Parts (st : Store) : Type 0 where
  pub lengths : Lengths st
  -- of the process places
  pub process_free : all (if_free process_id zero_process) st.processes ≡ true
  pub process_ids : all (if_live process_id good_process_id) st.processes ≡ true
  pub process_apart : pairs_where (is_live process_id) (apart process_id) st.processes ≡ true
  pub fields : all fields_fit st.processes ≡ true
  pub have-threads : all (if_live process_id (has_thread (view st))) st.processes ≡ true
  pub process_sets : all process_unmasked st.processes ≡ true
  pub defaults : all kill_stop_default st.processes ≡ true
  pub flags : all process_flags_known st.processes ≡ true
  pub limit : all (if_live process_id (within_limit st)) st.processes ≡ true
  pub process_marks_not_ignored : all (if_live process_id process_not_ignored) st.processes ≡ true
  -- of the thread places
  pub thread_free : all (if_free thread_id zero_thread) st.threads ≡ true
  pub thread_ids : all (if_live thread_id good_thread_id) st.threads ≡ true
  pub thread_apart : pairs_where (is_live thread_id) (apart thread_id) st.threads ≡ true
  pub owned : all (if_live thread_id (belongs (view st))) st.threads ≡ true
  pub thread_sets : all thread_unmasked st.threads ≡ true
  pub thread_marks_not_ignored : all (if_live thread_id (thread_not_ignored (view st))) st.threads ≡ true
  -- of the records aimed at threads
  pub thread_rest : rest_zero st.thread_buffer ≡ true
  pub thread_aimed : all (aimed_at_thread (view st)) (used st.thread_buffer) ≡ true
  pub thread_once : pairs_where is_standard not_twice (used st.thread_buffer) ≡ true
  pub thread_unmarked : all (not_marked_too st) (used st.thread_buffer) ≡ true
  pub thread_records_not_ignored : all (record_not_ignored (view st)) (used st.thread_buffer) ≡ true
  -- of the records aimed at processes
  pub process_rest : rest_zero st.process_buffer ≡ true
  pub process_aimed : all (aimed_at_process (view st)) (used st.process_buffer) ≡ true
  pub process_once : pairs_where is_standard not_twice (used st.process_buffer) ≡ true
  pub process_unmarked : all (not_marked_too st) (used st.process_buffer) ≡ true
  pub process_records_not_ignored : all (record_not_ignored (view st)) (used st.process_buffer) ≡ true

module _ (st : Store) where
  parts-of : Clauses st → Parts st
  unfolding free_zero ids_in_range ids_distinct fields_in_range threads_owned processes_have_threads nothing_unmaskable
      unmaskable_default all_flags_known records_laid_out limit_kept pending_once nothing_ignored
  parts-of c =
      let l1 = and-snd (rest_zero st.thread_buffer) _ c.laid_out in
      let l2 = and-snd (rest_zero st.process_buffer) _ l1 in
      let o1 = and-snd (pairs_where is_standard not_twice (used st.thread_buffer)) _ c.once in
      let o2 = and-snd (pairs_where is_standard not_twice (used st.process_buffer)) _ o1 in
      let h1 = and-snd (all (if_live process_id process_not_ignored) st.processes) _ c.not-ignored in
      let h2 = and-snd (all (if_live thread_id (thread_not_ignored (view st))) st.threads) _ h1 in
      record {
        lengths = lengths-of st c.lengths;
        process_free = and-fst (all (if_free process_id zero_process) st.processes) _ c.free_places;
        process_ids = and-fst (all (if_live process_id good_process_id) st.processes) _ c.ids_range;
        process_apart = and-fst (pairs_where (is_live process_id) (apart process_id) st.processes) _ c.ids_apart;
        fields = c.fields;
        have-threads = c.have-threads;
        process_sets = and-fst (all process_unmasked st.processes) _ c.unmasked_sets;
        defaults = c.unmaskable_actions;
        flags = c.flags;
        limit = c.limit;
        process_marks_not_ignored = and-fst (all (if_live process_id process_not_ignored) st.processes) _ c.not-ignored;
        thread_free = and-snd (all (if_free process_id zero_process) st.processes) _ c.free_places;
        thread_ids = and-snd (all (if_live process_id good_process_id) st.processes) _ c.ids_range;
        thread_apart = and-snd (pairs_where (is_live process_id) (apart process_id) st.processes) _ c.ids_apart;
        owned = c.owned;
        thread_sets = and-snd (all process_unmasked st.processes) _ c.unmasked_sets;
        thread_marks_not_ignored = and-fst (all (if_live thread_id (thread_not_ignored (view st))) st.threads) _ h1;
        thread_rest = and-fst (rest_zero st.thread_buffer) _ c.laid_out;
        thread_aimed = and-fst (all (aimed_at_thread (view st)) (used st.thread_buffer)) _ l2;
        thread_once = and-fst (pairs_where is_standard not_twice (used st.thread_buffer)) _ c.once;
        thread_unmarked = and-fst (all (not_marked_too st) (used st.thread_buffer)) _ o2;
        thread_records_not_ignored = and-fst (all (record_not_ignored (view st)) (used st.thread_buffer)) _ h2;
        process_rest = and-fst (rest_zero st.process_buffer) _ l1;
        process_aimed = and-snd (all (aimed_at_thread (view st)) (used st.thread_buffer)) _ l2;
        process_once = and-fst (pairs_where is_standard not_twice (used st.process_buffer)) _ o1;
        process_unmarked = and-snd (all (not_marked_too st) (used st.thread_buffer)) _ o2;
        process_records_not_ignored = and-snd (all (record_not_ignored (view st)) (used st.thread_buffer)) _ h2;
      }

  clauses-by : Parts st → Clauses st
  unfolding free_zero ids_in_range ids_distinct fields_in_range threads_owned processes_have_threads nothing_unmaskable
      unmaskable_default all_flags_known records_laid_out limit_kept pending_once nothing_ignored
  clauses-by p =
      record {
        lengths = lengths-by st p.lengths;
        free_places = and_both p.process_free p.thread_free;
        ids_range = and_both p.process_ids p.thread_ids;
        ids_apart = and_both p.process_apart p.thread_apart;
        fields = p.fields;
        owned = p.owned;
        have-threads = p.have-threads;
        unmasked_sets = and_both p.process_sets p.thread_sets;
        unmaskable_actions = p.defaults;
        flags = p.flags;
        laid_out = and_both p.thread_rest (and_both p.process_rest (and_both p.thread_aimed p.process_aimed));
        limit = p.limit;
        once = and_both p.thread_once (and_both p.process_once (and_both p.thread_unmarked p.process_unmarked));
        not-ignored =
            and_both p.process_marks_not_ignored
            (and_both p.thread_marks_not_ignored (and_both p.thread_records_not_ignored p.process_records_not_ignored));
      }

  pub parts : sound st ≡ true → Parts st
  parts e = parts-of (clauses st e)

  pub sound-of : Parts st → sound st ≡ true
  sound-of p = sound-by st (clauses-by p)
