-- What all acts so far come to: plain functions of the list of them, which has the latest first.
use Rattle.std.specs.Prelude.{ℕ, ◌+◌, Bool, true, false, cond, List, [], ◌∷◌, ◌++◌, length, drop}
use Rattle.types.specs.declared.Siginfo.{Siginfo}
use Rattle.rules.specs.Types.{Queue}
use Rattle.rules.specs.View.{in_queue}
use Rattle.history.specs.Ledger.{is_at}
use Rattle.history.specs.Acts.{Act, kept, marked, took_send, took_mark, emptied, empties}

-- ---- since the last event that empties the queue of the signal

-- "the sends kept there since", in order
unfoldable pub kept_since : Queue → ℕ → List Act → List Siginfo
kept_since q s [] = []
kept_since q s (kept r ∷ xs) = cond (in_queue q s r) (kept_since q s xs ++ (r ∷ [])) (kept_since q s xs)
kept_since q s (marked j n ∷ xs) = kept_since q s xs
kept_since q s (took_send t j n r ∷ xs) = kept_since q s xs
kept_since q s (took_mark t j n ∷ xs) = kept_since q s xs
kept_since q s (emptied e ∷ xs) = cond (empties e q s) [] (kept_since q s xs)

-- "as many .. as threads have taken of them since"
unfoldable pub taken_since : Queue → ℕ → List Act → ℕ
taken_since q s [] = 0
taken_since q s (kept r ∷ xs) = taken_since q s xs
taken_since q s (marked j n ∷ xs) = taken_since q s xs
taken_since q s (took_send t j n r ∷ xs) = taken_since q s xs + cond (is_at j n q s) 1 0
taken_since q s (took_mark t j n ∷ xs) = taken_since q s xs
taken_since q s (emptied e ∷ xs) = cond (empties e q s) 0 (taken_since q s xs)

-- whether a mark is set there and not taken since
unfoldable pub mark_since : Queue → ℕ → List Act → Bool
mark_since q s [] = false
mark_since q s (kept r ∷ xs) = mark_since q s xs
mark_since q s (marked j n ∷ xs) = cond (is_at j n q s) true (mark_since q s xs)
mark_since q s (took_send t j n r ∷ xs) = mark_since q s xs
mark_since q s (took_mark t j n ∷ xs) = cond (is_at j n q s) false (mark_since q s xs)
mark_since q s (emptied e ∷ xs) = cond (empties e q s) false (mark_since q s xs)

-- "Sends that emptying events remove": how many, in all
unfoldable pub discarded_at : Queue → ℕ → List Act → ℕ
discarded_at q s [] = 0
discarded_at q s (kept r ∷ xs) = discarded_at q s xs
discarded_at q s (marked j n ∷ xs) = discarded_at q s xs
discarded_at q s (took_send t j n r ∷ xs) = discarded_at q s xs
discarded_at q s (took_mark t j n ∷ xs) = discarded_at q s xs
discarded_at q s (emptied e ∷ xs) =
    discarded_at q s xs + cond (empties e q s) (length (drop (taken_since q s xs) (kept_since q s xs))) 0

-- ---- which acts keep a send, take a send or a mark

unfoldable pub keeps_where : (Siginfo → Bool) → Act → Bool
keeps_where p (kept r) = p r
keeps_where p (marked q s) = false
keeps_where p (took_send t q s r) = false
keeps_where p (took_mark t q s) = false
keeps_where p (emptied e) = false

-- a: of sends, b: of marks too
unfoldable pub takes_where : (a b : Queue → ℕ → Bool) → Act → Bool
takes_where a b (kept r) = false
takes_where a b (marked q s) = false
takes_where a b (took_send t q s r) = a q s
takes_where a b (took_mark t q s) = b q s
takes_where a b (emptied e) = false

-- a send is kept, one of that signal in that queue
abbrev pub is_keep : Act → Bool
is_keep = keeps_where (λ r. true)

abbrev pub keeps_at : Queue → ℕ → Act → Bool
keeps_at q s = keeps_where (in_queue q s)

-- a send is taken, one of that signal in that queue; a send or a mark
abbrev pub is_take : Act → Bool
is_take = takes_where (λ q s. true) (λ q s. false)

abbrev pub takes_at : Queue → ℕ → Act → Bool
takes_at q s = takes_where (λ j n. is_at j n q s) (λ j n. false)

abbrev pub takes_either : Act → Bool
takes_either = takes_where (λ q s. true) (λ q s. true)
