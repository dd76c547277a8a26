-- The whole test as the code makes it: lengths of the words, buffers laid out, places, records. Over plain variables.
use Prim.Native.Nat.{ℕ, ◌≤◌}
use mathlib.Core.Path.{◌≡◌, refl, sym, ap, ◌∙◌}
use mathlib.Core.Bool.{Bool, true, false, not, ◌&&◌, ◌||◌, and-false}
use mathlib.Core.List.{List}
use lib.Dec.{eqb}
use lib.ListN.{length}
use borrow.Author.Tests.{eqb-true, eq-eqb, not-true, not-false}
use Rattle.limits.specs.Limits.{process_places, process_table, thread_places, thread_table, buffer_records}
use Rattle.limits.specs.Limits.{buffer_bytes}
use Rattle.lists.specs.Lists.{count, find}
use Rattle.lists.proofs.Bools.{and_both, and_left, and_right, or_cases, or-fst-false, or-snd-false}
use Rattle.hints.specs.Hints.{Hinted}
use Rattle.rules.specs.View.{is_process, is_thread}
use Rattle.rules.specs.Store.{used}
use Rattle.rules.specs.Sound.{lengths_right, rest_zero}
use Rattle.queue.specs.Queue.{slots_of, records_of, is_laid}
use Rattle.queue.proofs.Buffer.{length-slots_of}
use Rattle.tables.specs.Tables.{processes_of, threads_of, held_processes, held_threads}
use Rattle.tables.proofs.Words.{length-processes_of, length-threads_of, all-actions_long}
use Rattle.soundness.specs.Check.{process_by, thread_by, places_ok, records_ok, checked}
use Rattle.soundness.proofs.Ids.{process-found, thread-found}
use Rattle.soundness.proofs.Regrouped.{regrouped}
use Rattle.sound.specs.Lent.{lent, decoded, lengths_are, sound_tables}

shape : (a b c d p t q r : Bool)
    → ((a && (b && (c && d))) && (p && (t && (q && r)))) ≡ (a && (b && ((c && t) && ((d && q) && (p && r)))))
shape false b c d p t q r = refl
shape true false c d p t q r = refl
shape true true false d p t q r = refl
shape true true true false p t q r = sym (and-false t)
shape true true true true p false q r = and-false p
shape true true true true p true false r = and-false p
shape true true true true p true true r = refl

module _ (ps ts tb pb : List ℕ) where
  decoded-long : lengths_right (decoded (lent ps ts tb pb)) ≡ true
  unfolding lengths_right decoded
  decoded-long =
      and_both (eq-eqb (length (processes_of ps)) process_places (length-processes_of ps))
      (and_both (all-actions_long ps)
      (and_both (eq-eqb (length (threads_of ts)) thread_places (length-threads_of ts))
      (and_both (eq-eqb (length (slots_of tb)) buffer_records (length-slots_of tb))
      (eq-eqb (length (slots_of pb)) buffer_records (length-slots_of pb)))))

  abbrev tested : (p t : ℕ → ℕ) → Bool
  tested p t =
      eqb (length ps) process_table && (eqb (length ts) thread_table
      && (is_laid tb && (is_laid pb && (places_ok p t (processes_of ps) (threads_of ts)
      && records_ok (processes_of ps) (threads_of ts) (records_of tb) (records_of pb)))))

  -- by any two functions that find an id where a search does
  told : (p t : ℕ → ℕ)
      → ((n : ℕ) → count (is_process n) (held_processes ps) ≤ 1 → p n ≡ find (is_process n) (held_processes ps))
      → ((n : ℕ) → count (is_thread n) (held_threads ts) ≤ 1 → t n ≡ find (is_thread n) (held_threads ts))
      → sound_tables (lent ps ts tb pb) ≡ tested p t
  unfolding sound_tables lengths_are is_laid records_of checked decoded
  told p t fp ft =
      ap (λ b. lengths_are (lent ps ts tb pb) && b)
      (sym (regrouped p t (decoded (lent ps ts tb pb)) fp ft decoded-long))
      ∙ shape (eqb (length ps) process_table) (eqb (length ts) thread_table) (eqb (length tb) buffer_bytes)
      (eqb (length pb) buffer_bytes)
      (places_ok p t (processes_of ps) (threads_of ts)) (rest_zero (slots_of tb)) (rest_zero (slots_of pb))
      (records_ok (processes_of ps) (threads_of ts) (used (slots_of tb)) (used (slots_of pb)))

  -- by the search itself
  searched : sound_tables (lent ps ts tb pb)
      ≡ tested (λ n. find (is_process n) (held_processes ps)) (λ n. find (is_thread n) (held_threads ts))
  searched =
      told (λ n. find (is_process n) (held_processes ps)) (λ n. find (is_thread n) (held_threads ts)) (λ n c. refl)
      (λ n c. refl)

  pub wrong-length : (not (eqb (length ps) process_table) || not (eqb (length ts) thread_table)) ≡ true
      → false ≡ sound_tables (lent ps ts tb pb)
  wrong-length e =
      sym (searched ∙ or_cases (not (eqb (length ps) process_table)) (not (eqb (length ts) thread_table)) e
      (λ n. and_left _ (not-true (eqb (length ps) process_table) n))
      (λ n. and_right (eqb (length ps) process_table) (and_left _ (not-true (eqb (length ts) thread_table) n))))

  module _ (l : (not (eqb (length ps) process_table) || not (eqb (length ts) thread_table)) ≡ false) where
    right-words : eqb (length ps) process_table ≡ true
    right-words =
        not-false (eqb (length ps) process_table)
        (or-fst-false (not (eqb (length ps) process_table)) (not (eqb (length ts) thread_table)) l)

    right-threads : eqb (length ts) thread_table ≡ true
    right-threads =
        not-false (eqb (length ts) thread_table)
        (or-snd-false (not (eqb (length ps) process_table)) (not (eqb (length ts) thread_table)) l)

    pub processes-long : length ps ≡ process_table
    processes-long = eqb-true (length ps) process_table right-words

    pub threads-long : length ts ≡ thread_table
    threads-long = eqb-true (length ts) thread_table right-threads

    pub threads-unlaid : is_laid tb ≡ false → false ≡ sound_tables (lent ps ts tb pb)
    threads-unlaid e = sym (searched ∙ rw (right-words, right-threads, e))

    pub processes-unlaid : is_laid tb ≡ true → is_laid pb ≡ false → false ≡ sound_tables (lent ps ts tb pb)
    processes-unlaid t e = sym (searched ∙ rw (right-words, right-threads, t, e))

  -- lengths and what is behind the records being right, places and records decide
  module _ (ph th : List ℕ) (hp : Hinted process_places ph) (ht : Hinted thread_places th)
      (lp : length ps ≡ process_table) (lt : length ts ≡ thread_table) (t : is_laid tb ≡ true) (p : is_laid pb ≡ true)
    where
      hinted : sound_tables (lent ps ts tb pb) ≡ tested (process_by ph ps) (thread_by th ts)
      hinted =
          told (process_by ph ps) (thread_by th ts) (λ n c. process-found ph ps n hp c)
          (λ n c. thread-found th ts n ht c)

      pub places-wrong : places_ok (process_by ph ps) (thread_by th ts) (processes_of ps) (threads_of ts) ≡ false
          → false ≡ sound_tables (lent ps ts tb pb)
      places-wrong e =
          sym (hinted ∙ rw (eq-eqb (length ps) process_table lp, eq-eqb (length ts) thread_table lt, t, p, e))

      pub records-decide : places_ok (process_by ph ps) (thread_by th ts) (processes_of ps) (threads_of ts) ≡ true
          → records_ok (processes_of ps) (threads_of ts) (records_of tb) (records_of pb)
          ≡ sound_tables (lent ps ts tb pb)
      records-decide e =
          sym (hinted ∙ rw (eq-eqb (length ps) process_table lp, eq-eqb (length ts) thread_table lt, t, p, e))
