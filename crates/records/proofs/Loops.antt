-- The pass over the records of a buffer, over plain variables: what holds after i records, and what one turn does.
use mathlib.Core.Path.{◌≡◌, sym, ap, ◌∙◌}
use mathlib.Core.Bool.{Bool, true, false, cond}
use mathlib.Core.List.{List, []}
use Prim.Native.Nat.{ℕ, ◌+◌, ◌≤◌, ◌<◌}
use native.Mathlib.Omega.{arith}
use lib.ListN.{length, get_or, take, replicate, length-map}
use lib.Seq.{length-take-le, take_all}
use Rattle.limits.specs.Limits.{process_places, record_bytes}
use Rattle.lists.specs.Lists.{count}
use Rattle.lists.specs.Rows.{row}
use Rattle.types.specs.declared.Siginfo.{Siginfo}
use Rattle.types.specs.Values.{no_siginfo}
use Rattle.siginfo.specs.Bytes.{siginfo_of}
use Rattle.rules.specs.Types.{Process}
use Rattle.rules.specs.Store.{of_process}
use Rattle.queue.specs.Queue.{records_of}
use Rattle.queue.proofs.Buffer.{length-records_of, record-read}
use Rattle.soundness.specs.Check.{tallies, is_fresh, bumped, noted, small_counts}
use Rattle.soundness.specs.Pass.{Pass, AddsUp, Next}
use Rattle.soundness.proofs.Passes.{tally-bound, tally-start}

-- after i records: they are counted, their signals noted, and all of them as they must be
pub record After (p : Pass) (rs : List Siginfo) (counts seen : List ℕ) (i : ℕ) : Type 0 where
  pub counted : counts ≡ tallies p.processes (take i rs)
  pub noticed : seen ≡ p.seen (take i rs)
  pub ok : p.ok (take i rs) ≡ true

module _ (n : ℕ) (p : Pass) (a : AddsUp n p) where
  pub before-all : (rs : List Siginfo) (seen : List ℕ) → seen ≡ p.seen []
      → After p rs (replicate process_places 0) seen 0
  before-all rs seen e =
      record {
        counted = sym (tally-start p.processes ∙ ap (λ m. replicate m 0) a.many);
        noticed = e;
        ok = a.none;
      }

  module _ (b counts seen : List ℕ) (i : ℕ) (k : After p (records_of b) counts seen i) where
    abbrev rs : List Siginfo
    rs = records_of b

    pub counts-long : length counts ≡ process_places
    unfolding tallies
    counts-long =
        ap length k.counted
        ∙ length-map p.processes (λ (x : Process). count (of_process x.id) (take i rs))
        ∙ a.many

    pub seen-long : length seen ≡ n
    seen-long = ap length k.noticed ∙ a.long (take i rs)

    pub counts-small : i ≤ length rs → small_counts counts
    counts-small l q =
        let t : get_or counts q 0 ≤ length (take i rs) = rw k.counted (tally-bound p.processes (take i rs) q) in
        let e : length (take i rs) ≡ i = length-take-le i rs l in
        let m = length-records_of b in
        omega arith

    pub after_all : length rs ≤ i → (p.ok rs ≡ true) × (counts ≡ tallies p.processes rs)
    after_all h =
        let whole = take_all i rs h in (rw whole at k.ok, k.counted ∙ ap (tallies p.processes) whole)

    -- one record more
    module _ (l : i < length rs) (r : Siginfo) (e : r ≡ siginfo_of (row record_bytes b i)) where
      next : Next rs i r
      next = (l, e ∙ sym (record-read b i no_siginfo l))

      pub not-aimed : p.aimed r ≡ false → p.ok rs ≡ false
      not-aimed f = a.fails rs i r next (rw f)

      module _ (aimed : p.aimed r ≡ true) (q : ℕ) (eq : q ≡ p.queue r) {h : Bool}
          (fresh : h ≡ is_fresh seen q r.signal) where
        fresh-too : h ≡ is_fresh (p.seen (take i rs)) (p.queue r) r.signal
        fresh-too =
            fresh ∙ ap (λ m. is_fresh m q r.signal) k.noticed ∙ ap (λ m. is_fresh (p.seen (take i rs)) m r.signal) eq

        pub not-fresh : h ≡ false → p.ok rs ≡ false
        not-fresh f = a.fails rs i r next (rw (aimed, ← fresh-too) f)

        pub one_more : (place : ℕ) → place ≡ p.process r → h ≡ true → (counts' seen' : List ℕ)
            → counts' ≡ cond h (bumped counts place) counts → seen' ≡ cond h (noted seen q r.signal) seen
            → After p rs counts' seen' (i + 1)
        one_more place ep t counts' seen' ec es =
            record {
              counted =
                  ec ∙ ap (λ x. cond x (bumped counts place) counts) t ∙ ap (λ l. bumped l place) k.counted
                  ∙ ap (bumped (tallies p.processes (take i rs))) ep
                  ∙ a.counted rs i r next aimed;
              noticed =
                  es ∙ ap (λ x. cond x (noted seen q r.signal) seen) t ∙ ap (λ l. noted l q r.signal) k.noticed
                  ∙ ap (λ x. noted (p.seen (take i rs)) x r.signal) eq
                  ∙ a.noticed rs i r next aimed;
              ok = a.more rs i r next aimed (sym fresh-too ∙ t) k.ok;
            }
