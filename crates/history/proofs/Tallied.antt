-- The ledger's lists and counts are what all acts so far come to: an act that is right keeps it so. Assumes nothing.
use Prim.Native.Nat.{ℕ, zero, suc, ◌+◌, ◌≤◌}
use mathlib.Core.Path.{◌≡◌, refl, sym, ap, ◌∙◌, subst}
use mathlib.Core.Bool.{Bool, true, false, cond}
use mathlib.Core.List.{List, [], ◌∷◌, ◌++◌, tail}
use native.Mathlib.Omega.{arith}
use lib.ListN.{length, length-append, length-drop, drop}
use Rattle.lists.specs.Lists.{count}
use Rattle.types.specs.declared.Siginfo.{Siginfo}
use Rattle.rules.specs.Types.{Queue}
use Rattle.rules.specs.View.{Change, forget, new_process, new_thread, remove_process, remove_thread, set_stopped}
use Rattle.rules.specs.View.{set_action}
use Rattle.rules.specs.View.{set_mask, set_mark, clear_mark, append, drop_oldest, discard, in_queue}
use Rattle.history.specs.Ledger.{Counts, Line, Ledger, empty_ledger, ledger_view, with_mark, is_at, place, place_all}
use Rattle.history.specs.Acts.{Act, kept, marked, took_send, took_mark, emptied, empties, keep_send, take_send}
use Rattle.history.specs.Acts.{empty_line, play, play_all, Turn, take_turn, take_turns, acts_of}
use Rattle.history.specs.Tally.{kept_since, taken_since, mark_since, discarded_at, keeps_where, is_keep, keeps_at}
use Rattle.history.specs.Tally.{takes_where, is_take, takes_at}
use Rattle.history.specs.History.{onto}
use Rattle.history.specs.Takes.{Right, RightActs, RightTurns}
use Rattle.history.proofs.Records.{at-queue, at-signal}

-- ---- one line: n of the sends ks were taken, m is its mark; a, b and d are how many were kept, taken and discarded

pub record LineIs (x : Line) (n : ℕ) (ks : List Siginfo) (m : Bool) (a b d : ℕ) : Type 0 where
  pub since : x.sends ≡ drop n ks
  pub few : n ≤ length ks
  pub mark : x.mark ≡ m
  pub kept : x.counts.kept ≡ a
  pub taken : x.counts.taken ≡ b
  pub discarded : x.counts.discarded ≡ d

drop-end : (n : ℕ) (rs : List Siginfo) (r : Siginfo) → n ≤ length rs → drop n rs ++ (r ∷ []) ≡ drop n (rs ++ (r ∷ []))
drop-end zero rs r h = refl
drop-end (suc n) [] r h = absurd (omega arith)
drop-end (suc n) (x ∷ rs) r h = drop-end n rs r (omega arith)

-- one less
drop-one : (n : ℕ) (rs : List Siginfo) → tail (drop n rs) ≡ drop (n + 1) rs
drop-one zero [] = refl
drop-one zero (x ∷ rs) = refl
drop-one (suc n) [] = let e : suc (n + 1) ≡ suc n + 1 = omega arith in ap (λ m. drop m []) e
drop-one (suc n) (x ∷ rs) =
    let e : suc (n + 1) ≡ suc n + 1 = omega arith in
    drop-one n rs ∙ ap (λ m. drop m (x ∷ rs)) e

module _ (x : Line) (n : ℕ) (ks : List Siginfo) (m : Bool) (a b d : ℕ) (h : LineIs x n ks m a b d) where
  -- a line that stays
  line_stays : LineIs x n ks m (0 + a) (0 + b) d
  line_stays =
      record {
        since = h.since;
        few = h.few;
        mark = h.mark;
        kept = omega (arith, h.kept);
        taken = omega (arith, h.taken);
        discarded = h.discarded;
      }

  line_kept : (r : Siginfo) (y : Bool)
      → LineIs (cond y (keep_send r x) x) n (cond y (ks ++ (r ∷ [])) ks) m (cond y 1 0 + a) (0 + b) d
  line_kept r true =
      record {
        since = ap (λ (rs : List Siginfo). rs ++ (r ∷ [])) h.since ∙ drop-end n ks r h.few;
        few = omega (arith, h.few, length-append ks (r ∷ []));
        mark = h.mark;
        kept = omega (arith, h.kept);
        taken = omega (arith, h.taken);
        discarded = h.discarded;
      }
  line_kept r false = line_stays

  -- where it is taken from there is a send
  line_taken : (y : Bool) → (y ≡ true → 1 ≤ length x.sends)
      → LineIs (cond y (take_send x) x) (n + cond y 1 0) ks m (0 + a) (cond y 1 0 + b) d
  line_taken true o =
      record {
        since = ap tail h.since ∙ drop-one n ks;
        few = omega (arith, h.few, o refl, ap length h.since, length-drop n ks);
        mark = h.mark;
        kept = omega (arith, h.kept);
        taken = omega (arith, h.taken);
        discarded = h.discarded;
      }
  line_taken false o =
      let e : n ≡ n + 0 = omega arith in
      record {
        since = h.since ∙ ap (λ (i : ℕ). drop i ks) e;
        few = omega (arith, h.few);
        mark = h.mark;
        kept = omega (arith, h.kept);
        taken = omega (arith, h.taken);
        discarded = h.discarded;
      }

  line_marked : (y z : Bool) → LineIs (cond z (with_mark y x) x) n ks (cond z y m) (0 + a) (0 + b) d
  line_marked y true =
      record {
        since = h.since;
        few = h.few;
        mark = refl;
        kept = omega (arith, h.kept);
        taken = omega (arith, h.taken);
        discarded = h.discarded;
      }
  line_marked y false = line_stays

  line-emptied : (y : Bool)
      → LineIs (cond y (empty_line x) x) (cond y 0 n) (cond y [] ks) (cond y false m) (0 + a) (0 + b)
      (d + cond y (length (drop n ks)) 0)
  line-emptied true =
      record {
        since = refl;
        few = omega arith;
        mark = refl;
        kept = omega (arith, h.kept);
        taken = omega (arith, h.taken);
        discarded = omega (arith, h.discarded, ap length h.since);
      }
  line-emptied false =
      record {
        since = h.since;
        few = h.few;
        mark = h.mark;
        kept = omega (arith, h.kept);
        taken = omega (arith, h.taken);
        discarded = omega (arith, h.discarded);
      }

-- ---- all lines, and the total

pub record Tallied (lines : Queue → ℕ → Line) (total : Counts) (done : List Act) : Type 0 where
  pub line : (q : Queue) (s : ℕ)
      → LineIs (lines q s) (taken_since q s done) (kept_since q s done) (mark_since q s done)
      (count (keeps_at q s) done) (count (takes_at q s) done) (discarded_at q s done)
  pub kept : total.kept ≡ count is_keep done
  pub taken : total.taken ≡ count is_take done

abbrev pub Tallies : Ledger → List Act → Type 0
Tallies k done = Tallied k.lines k.total done

pub tallies-start : Tallies empty_ledger []
unfolding empty_ledger kept_since taken_since mark_since discarded_at count
tallies-start =
    record {
      line = λ q s.
          record { since = refl; few = omega arith; mark = refl; kept = refl; taken = refl; discarded = refl };
      kept = refl;
      taken = refl;
    }

-- an act that is right
tallies-play : (a : Act) (k : Ledger) (done : List Act) → Right k a → Tallies k done → Tallies (play a k) (a ∷ done)
unfolding play kept_since taken_since mark_since discarded_at count keeps_where takes_where
tallies-play (kept r) k done w h =
    record {
      line = λ q s. line_kept (k.lines q s) _ _ _ _ _ _ (h.line q s) r (in_queue q s r);
      kept = omega (arith, h.kept);
      taken = omega (arith, h.taken);
    }
tallies-play (marked j n) k done w h =
    record {
      line = λ q s. line_marked (k.lines q s) _ _ _ _ _ _ (h.line q s) true (is_at j n q s);
      kept = omega (arith, h.kept);
      taken = omega (arith, h.taken);
    }
tallies-play (took_send t j n r) k done w h =
    record {
      line = λ q s.
          line_taken (k.lines q s) _ _ _ _ _ _ (h.line q s) (is_at j n q s)
          (λ e. subst (λ (i : Queue). 1 ≤ length (k.lines i s).sends) (sym (at-queue j q n s e))
          (subst (λ (m : ℕ). 1 ≤ length (k.lines j m).sends) (sym (at-signal j q n s e))
          (omega (arith, ap length w.oldest))));
      kept = omega (arith, h.kept);
      taken = omega (arith, h.taken);
    }
tallies-play (took_mark t j n) k done w h =
    record {
      line = λ q s. line_marked (k.lines q s) _ _ _ _ _ _ (h.line q s) false (is_at j n q s);
      kept = omega (arith, h.kept);
      taken = omega (arith, h.taken);
    }
tallies-play (emptied e) k done w h =
    record {
      line = λ q s. line-emptied (k.lines q s) _ _ _ _ _ _ (h.line q s) (empties e q s);
      kept = omega (arith, h.kept);
      taken = omega (arith, h.taken);
    }

-- ---- a list of acts, a list of turns

tallies-acts : (xs : List Act) (k : Ledger) (done : List Act) → RightActs xs k → Tallies k done
    → Tallies (play_all xs k) (onto xs done)
unfolding play_all onto
tallies-acts [] k done w h = h
tallies-acts (a ∷ xs) k done w h = tallies-acts xs (play a k) (a ∷ done) w.1 (tallies-play a k done w.0 h)

-- other processes and threads, the same lists
place-lists : (ch : Change) (k : Ledger) (done : List Act) → Tallies k done → Tallies (place ch k) done
unfolding place
place-lists forget k done h = h
place-lists (new_process p) k done h = h
place-lists (new_thread t) k done h = h
place-lists (remove_process n) k done h = h
place-lists (remove_thread n) k done h = h
place-lists (set_stopped n b) k done h = h
place-lists (set_action n s a) k done h = h
place-lists (set_mask n m) k done h = h
place-lists (set_mark q s) k done h = h
place-lists (clear_mark q s) k done h = h
place-lists (append r) k done h = h
place-lists (drop_oldest q s) k done h = h
place-lists (discard n x) k done h = h

places-lists : (cs : List Change) (k : Ledger) (done : List Act) → Tallies k done → Tallies (place_all cs k) done
unfolding place_all
places-lists [] k done h = h
places-lists (c ∷ cs) k done h = places-lists cs (place c k) done (place-lists c k done h)

onto-append : (xs ys done : List Act) → onto (xs ++ ys) done ≡ onto ys (onto xs done)
unfolding onto
onto-append [] ys done = refl
onto-append (a ∷ xs) ys done = onto-append xs ys (a ∷ done)

pub tallies-turns : (xs : List Turn) (k : Ledger) (done : List Act) → RightTurns xs k → Tallies k done
    → Tallies (take_turns xs k) (onto (acts_of xs k) done)
unfolding take_turns take_turn acts_of onto
tallies-turns [] k done w h = h
tallies-turns (x ∷ xs) k done w h =
    let xs₁ : List Act = x.does (ledger_view k) in
    subst (Tallies (take_turns xs (take_turn x k))) (sym (onto-append xs₁ (acts_of xs (take_turn x k)) done))
    (tallies-turns xs (take_turn x k) (onto xs₁ done) w.1
    (places-lists (x.stage (ledger_view k)) (play_all xs₁ k) (onto xs₁ done) (tallies-acts xs₁ k done w.0 h)))
