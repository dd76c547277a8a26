-- The refusal table: the first row that applies is the one given, and what follows for every call. Assumes nothing.
use Prim.Native.Nat.{ℕ}
use mathlib.Core.Path.{◌≡◌, refl, sym, ap, ◌∙◌}
use mathlib.Core.Bool.{Bool, true, false, not, ◌&&◌, ◌||◌}
use mathlib.Core.List.{List, [], ◌∷◌, ◌++◌}
use mathlib.Core.Option.{some}
use lib.Dec.{eqb, ltb}
use borrow.Author.Tests.{eqb-true, not-false}
use Rattle.limits.specs.Limits.{EAGAIN, EFAULT, EINVAL}
use Rattle.sigset.specs.Set.{is_unmaskable}
use Rattle.sigset.proofs.Laws.{each-unmaskable}
use Rattle.lists.specs.Lists.{all, any, find, pairs, All}
use Rattle.lists.proofs.Bools.{split, clash, and-fst, and-snd, or_right, cond-true, cond-false}
use Rattle.lists.proofs.Lists.{Pass, All-imp, all-All}
use Rattle.types.specs.declared.Action.{Action}
use Rattle.rules.specs.Types.{Call, clear, add_process, add_thread, end_process, end_thread, kill, sigqueue}
use Rattle.rules.specs.Types.{sigaction, sigmask, sigpending, look, who, take, sigreturn, Kind, clearing, adding}
use Rattle.rules.specs.Types.{queueing, taking, other, kind_of}
use Rattle.rules.specs.View.{View}
use Rattle.rules.specs.Store.{Store, view}
use Rattle.rules.specs.Sound.{flags_known, lengths_right, sound}
use Rattle.rules.specs.Sending.{generation, needs_record}
use Rattle.rules.specs.Refusals.{Row, table_order, refusal, rows, fault, table, refusal_of, no_room, clears, is_clear}
use Rattle.rules.specs.Refusals.{over_last, unstorable, bad_action, einval}
use Rattle.rules.proofs.Clauses.{clauses}

abbrev pub Off : Row → Type 0
Off r = r.applies ≡ false

-- ---- any rows

-- the first row that applies is the one given
pub first-given : (before : List Row) (r : Row) (after : List Row) → All Off before → r.applies ≡ true
    → refusal (before ++ (r ∷ after)) ≡ r.errno
unfolding refusal
first-given [] r after off on = rw on
first-given (b ∷ before) r after off on = rw off.0 (first-given before r after off.1 on)

-- none is given where none applies
pub none-given : (rs : List Row) → All Off rs → refusal rs ≡ 0
unfolding refusal
none-given [] off = refl
none-given (r ∷ rs) off = rw off.0 (none-given rs off.1)

-- what is given passes a test that 0 passes and that each row's number passes, where the row applies
pub given-passes : (p : ℕ → Bool) (rs : List Row) → p 0 ≡ true
    → All (λ (r : Row). r.applies ≡ true → p r.errno ≡ true) rs → p (refusal rs) ≡ true
unfolding refusal
given-passes p [] z h = z
given-passes p (r ∷ rs) z h = split r.applies (λ e. rw e (h.0 e)) (λ e. rw e (given-passes p rs z h.1))

-- ---- the table of a call

-- the row of 14 does not apply to a sound store
pub no-fault : (c : Call) (st : Store) → sound st ≡ true → (fault st c).applies ≡ false
unfolding fault
no-fault c st e = split (is_clear c) (λ k. rw (k, (clauses st e).lengths)) (λ k. rw (k, e))

-- the row of an errno, from the top
abbrev pub rank : ℕ → ℕ
rank n = find (λ m. eqb m n) table_order

abbrev pub above : Row → Row → Bool
above a b = ltb (rank a.errno) (rank b.errno)

-- an errno of the table
abbrev pub listed : ℕ → Bool
listed n = any (eqb n) table_order

abbrev listed_row : Row → Bool
listed_row r = listed r.errno

-- the row of 14, whatever it tests
abbrev top : Row
top = record { applies = true; errno = EFAULT }

-- every call's rows stand in the table's order below it, and have the table's errnos
ordered-listed : (v : View) (c : Call) → (pairs above (top ∷ rows v c) && all listed_row (top ∷ rows v c)) ≡ true
unfolding rows pairs all any find
ordered-listed v clear = refl
ordered-listed v (add_process new) = refl
ordered-listed v (add_thread creator id) = refl
ordered-listed v (end_process id) = refl
ordered-listed v (end_thread id) = refl
ordered-listed v (kill by to t s) = refl
ordered-listed v (sigqueue by to t s value) = refl
ordered-listed v (sigaction p s new) = refl
ordered-listed v (sigmask t way set) = refl
ordered-listed v (sigpending t) = refl
ordered-listed v (look t) = refl
ordered-listed v (who p) = refl
ordered-listed v (take t) = refl
ordered-listed v (sigreturn t saved) = refl

pub in_order : (st : Store) (c : Call) → pairs above (table st c) ≡ true
unfolding table fault pairs all
in_order st c = and-fst (pairs above (top ∷ rows (view st) c)) _ (ordered-listed (view st) c)

rows-listed : (st : Store) (c : Call) → All (Pass listed_row) (table st c)
unfolding table fault
rows-listed st c =
    all-All listed_row (top ∷ rows (view st) c)
    (and-snd (pairs above (top ∷ rows (view st) c)) _ (ordered-listed (view st) c))

-- ---- the rows below 14 do not give it

abbrev pub not_fault : ℕ → Bool
not_fault n = not (eqb n EFAULT)

below_top : (r : Row) → above top r ≡ true → not_fault r.errno ≡ true
unfolding find
below_top r e =
    split (eqb r.errno EFAULT)
    (λ k. clash e (ap (λ (n : ℕ). ltb (rank EFAULT) (rank n)) (eqb-true r.errno EFAULT k)))
    (λ k. ap not k)

pub rows-no-fault : (v : View) (c : Call) → not_fault (refusal (rows v c)) ≡ true
unfolding pairs
rows-no-fault v c =
    given-passes not_fault (rows v c) refl
    (All-imp (Pass (above top)) (λ (r : Row). r.applies ≡ true → not_fault r.errno ≡ true) (λ r h e. below_top r h)
    (rows v c)
    (all-All (above top) (rows v c)
    (and-fst (all (above top) (rows v c)) _ (and-fst (pairs above (top ∷ rows v c)) _ (ordered-listed v c)))))

-- ---- what is given

-- the first row of a call's table that applies is the one given
pub first-of-table : (st : Store) (c : Call) (before : List Row) (r : Row) (after : List Row)
    → table st c ≡ before ++ (r ∷ after)
    → All Off before → r.applies ≡ true → refusal_of st c ≡ r.errno
unfolding refusal_of
first-of-table st c before r after e off on = ap refusal e ∙ first-given before r after off on

-- whatever the store and the arguments are, a call is accepted or refused by an errno of the table
pub only-listed : (st : Store) (c : Call) → (eqb (refusal_of st c) 0 || listed (refusal_of st c)) ≡ true
unfolding refusal_of
only-listed st c =
    given-passes (λ n. eqb n 0 || listed n) (table st c) refl
    (All-imp (Pass listed_row) (λ (r : Row). r.applies ≡ true → (eqb r.errno 0 || listed r.errno) ≡ true)
    (λ r h e. or_right (eqb r.errno 0) h) (table st c) (rows-listed st c))

all-off : (rs : List Row) → All (Pass listed_row) rs → refusal rs ≡ 0 → All Off rs
unfolding refusal any
all-off [] l z = tt
all-off (r ∷ rs) l z =
    split r.applies
    (λ e. clash l.0 (ap listed (sym (cond-true r.errno (refusal rs) e) ∙ z)))
    (λ e. (e, all-off rs l.1 (sym (cond-false r.errno (refusal rs) e) ∙ z)))

-- no row of an accepted call applies
pub accepted-off : (st : Store) (c : Call) → refusal_of st c ≡ 0 → All Off (table st c)
unfolding refusal_of
accepted-off st c e = all-off (table st c) (rows-listed st c) e

-- an accepted call, other than clearing, found a sound store
pub accepted-sound : (st : Store) (c : Call) → is_clear c ≡ false → refusal_of st c ≡ 0 → sound st ≡ true
unfolding table fault
accepted-sound st c k e = sym (cond-false (lengths_right st) (sound st) k) ∙ not-false _ (accepted-off st c e).0

-- clearing is the one call that asks for lengths alone
cleared_by : {c : Call} (k : Kind c) → clears k ≡ true → c ≡ clear
cleared_by clearing e = refl
cleared_by (adding new) e = clash e refl
cleared_by (queueing by to t s value) e = clash e refl
cleared_by (taking t) e = clash e refl
cleared_by other e = clash e refl

pub is-clear : (c : Call) → is_clear c ≡ true → c ≡ clear
unfolding is_clear
is-clear c e = cleared_by (kind_of c) e

-- ---- KILL and STOP are never turned away for want of room

pub room_for : (v : View) (to t s : ℕ) → is_unmaskable s ≡ true → no_room v to t s ≡ false
unfolding no_room generation needs_record
room_for v to t = each-unmaskable (λ (s : ℕ). no_room v to t s ≡ false) refl refl

abbrev not_full : ℕ → Bool
not_full n = not (eqb n EAGAIN)

-- a plain send needs no record, whatever it sends
pub kill-has-room : (st : Store) (by to t s : ℕ) → refusal_of st (kill by to t s) ≡ EAGAIN → ⊥
unfolding refusal_of table rows fault
kill-has-room st by to t s e =
    clash (given-passes not_full (table st (kill by to t s)) refl
    ((λ k. refl), ((λ k. refl), ((λ k. refl), ((λ k. refl), tt)))))
    (ap not_full e)

-- nor does a queued KILL or STOP, whatever is pending
pub queue-has-room : (st : Store) (by to t s value : ℕ) → is_unmaskable s ≡ true
    → refusal_of st (sigqueue by to t s value) ≡ EAGAIN → ⊥
unfolding refusal_of table rows fault
queue-has-room st by to t s value u e =
    clash
    (given-passes not_full (table st (sigqueue by to t s value)) refl
    ((λ k. refl), ((λ k. refl), ((λ k. refl), ((λ k. refl), ((λ k. clash k (room_for (view st) to t s u)), tt))))))
    (ap not_full e)

-- ---- no silent flags (request Six)

-- a new action with a bit outside the known flags is refused with 22, whatever process and signal are named
pub unknown-flag : (st : Store) (p s : ℕ) (a : Action) → sound st ≡ true → flags_known a ≡ false
    → refusal_of st (sigaction p s (some a)) ≡ EINVAL
unfolding table rows bad_action unstorable
unknown-flag st p s a e f =
    let c = sigaction p s (some a) in
    first-of-table st c (fault st c ∷ []) (einval (bad_action s (some a))) _ refl (no-fault c st e, tt)
    (or_right (over_last s) (or_right (eqb s 0) (or_right (is_unmaskable s) (ap not f))))
