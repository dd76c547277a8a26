-- `clear` meets its contract: the whole store is cleared, or the lengths refuse. Assumes nothing.
use native.Mathlib.Omega.{arith}
use Rattle.siginfo.proofs.Numbers.{bytes-each}
use Rattle.sound.specs.Lent.{lent}
use Rattle.clearing.proofs.Cleared.{clear-refused, clear-long, clear-done}
use borrow.Author.Rules.{rules}
use Rattle.clearing.proofs.clear.Goals as goal

pub returns-then-not-lengths_are : goal.returns-then-not-lengths_are
returns-then-not-lengths_are c =
    clear-refused (lent c.args.ps.now c.args.ts.now c.args.tb.now c.args.pb.now) c.lengths_are.result
    c.lengths_are.ensures c.if-not-lengths_are.true-raw

pub forget-requires : goal.forget-requires
forget-requires c =
    clear-long (lent c.args.ps.now c.args.ts.now c.args.tb.now c.args.pb.now) c.lengths_are.result
    c.lengths_are.ensures c.if-not-lengths_are.false-raw

pub returns : goal.returns
returns c =
    clear-done (lent c.args.ps.now c.args.ts.now c.args.tb.now c.args.pb.now) c.lengths_are.result
    c.lengths_are.ensures c.if-not-lengths_are.false-raw
    (lent c.forget.new.ps c.forget.new.ts c.forget.new.tb c.forget.new.pb)
    (record {
      processes = search rules;
      threads = search rules;
      thread_buffer = search rules;
      process_buffer = search rules;
    })
    (bytes-each c.forget.new.tb (λ k. omega (arith, c.type_inv.tb k)))
    (bytes-each c.forget.new.pb (λ k. omega (arith, c.type_inv.pb k)))
    c.forget.ensures
