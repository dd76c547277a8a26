-- What is noted of the places in passing, so that threads and records are held against it.
use Rattle.std.specs.Prelude.{ℕ, ◌<◌, ◌≡◌, Bool, true, false, ◌&&◌, List, map, eqb, leb, get_or}
use Rattle.std.specs.Prelude.{take}
use Rattle.std.specs.Int.Bits.{bit_and}
use Rattle.limits.specs.Limits.{process_places, known_flags, sig_ign}
use Rattle.lists.specs.Lists.{all, any}
use Rattle.sigset.specs.Set.{empty, set_of}
use Rattle.sigset.specs.declared.SigSet.{SigSet}
use Rattle.rules.specs.Types.{Process, Thread}
use Rattle.rules.specs.View.{belongs_to, action_of}
use Rattle.rules.specs.Store.{Place, held, free_process, free_thread}
use Rattle.rules.specs.Sound.{is_live, if_live, process_id, thread_id, unmasked, action_unmasked, flags_known}
use Rattle.soundness.specs.Check.{ignored_by, owner_place}
use Rattle.places.specs.declared.Gathered.{Gathered}

-- the signals that a process has set to ignore
abbrev pub ignored_by_choice : Process → ℕ → Bool
ignored_by_choice p s = eqb (action_of p s).handler sig_ign

-- how many actions are gathered at once
abbrev pub block : ℕ
block = 8

-- what a pass over the first n actions gathers: their flags and masks put together, and the signals set to ignore
pub record Gathers (p : Process) (n : ℕ) (g : Gathered) : Type 0 where
  pub known : eqb (bit_and g.flags known_flags) g.flags ≡ all flags_known (take n p.actions)
  pub maskable : unmasked g.masks ≡ all action_unmasked (take n p.actions)
  pub chosen : g.chosen ≡ set_of (λ s. leb s n && ignored_by_choice p s)

-- the ignored signals of the live processes in the first n places
abbrev pub IgnoredNoted : List (Place Process) → (n : ℕ) → List SigSet → Type 0
IgnoredNoted xs n notes = (i : ℕ) → i < n → is_live process_id (get_or xs i free_process) ≡ true
    → get_or notes i empty ≡ ignored_by (get_or xs i free_process).holds

-- the places of the processes of the live threads in the first n places
abbrev pub OwnersNoted : List (Place Process) → List (Place Thread) → (n : ℕ) → List ℕ → Type 0
OwnersNoted xs ys n notes = (i : ℕ) → i < n → is_live thread_id (get_or ys i free_thread) ≡ true
    → get_or notes i 0 ≡ owner_place (map held xs) (get_or ys i free_thread)

-- which live processes have a thread in the first n places
abbrev pub ThreadedNoted : List (Place Process) → List (Place Thread) → (n : ℕ) → List Bool → Type 0
ThreadedNoted xs ys n notes = (i : ℕ) → i < process_places → is_live process_id (get_or xs i free_process) ≡ true
    → get_or notes i false ≡ any (belongs_to (get_or xs i free_process).holds.id) (take n (map held ys))

-- the same, as it is noted
unfoldable pub threaded_by : List (Place Process) → List Bool → ℕ → Bool
threaded_by xs notes i = if_live process_id (λ _. get_or notes i false) (get_or xs i free_process)
