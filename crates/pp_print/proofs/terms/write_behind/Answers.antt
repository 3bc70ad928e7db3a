use Rattle.std.proofs.Common.{append-nil, arith}
use Rattle.pp_print.proofs.Left.{writes_comma, writes_parenthesis, writes_nothing}
use Rattle.pp_print.proofs.terms.write_behind.Goals as goal

pub returns-then-arguments-gt1 : goal.returns-then-arguments-gt1
returns-then-arguments-gt1 c = λ names ts.
    rw (c.in_ok-push-2.ensures.items, c.in_ok-push.ensures.items)
    (writes_comma names c.pop.new.self.items c.in-Some.arguments c.loop-arguments.out.items _ ts c.if-arguments-gt1.true (rw c.in-Some.ensures.items at (c.loop-arguments.invariant names ts)))

pub loop-arguments-preserved : goal.loop-arguments-preserved
loop-arguments-preserved c = λ names ts.
    rw c.in_ok-push-3.ensures.items
    (writes_parenthesis names c.pop.new.self.items c.in-Some.arguments c.loop-arguments.out.items _ ts c.if-arguments-gt1.false (rw c.in-Some.ensures.items at (c.loop-arguments.invariant names ts)))

pub returns : goal.returns
returns c = λ names ts.
    writes_nothing names c.pop.new.self.items c.loop-arguments.out.items _ ts (omega (arith, c.in_default.ensures.cases, c.pop.new.self.ok.0))
    (rw (c.in_default.ensures.items, append-nil) at (c.loop-arguments.invariant names ts))
