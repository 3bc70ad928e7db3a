use Rattle.pp_domain.proofs.Union.{gathers_first, gathers_more, gathers_turned, gathered_lies, last_integer, word_first}
use Rattle.pp_domain.proofs.joining.joined.Goals as goal

pub loop-i-init : goal.loop-i-init
loop-i-init c = rw c.in_ok-done.ensures.items (gathers_first c.args.a.now c.args.b.now _ c.requires.a c.requires.b (word_first c.args.a.now c.args.b.now _ c.requires.a c.requires.b c.min-first.ensures.value))

pub absorb-requires : goal.absorb-requires
absorb-requires c = last_integer _ _ _ _ _ _ c.loop-i.invariant

pub loop-i-preserved-then-is_next : goal.loop-i-preserved-then-is_next
loop-i-preserved-then-is_next c =
    gathers_more c.args.a.now c.args.b.now c.loop-i.i c.loop-i.j c.loop-i.done.items _ c.loop-i.last _ c.requires.a c.requires.b (c.is_next.ensures.left c.if-is_next.true)
    (record { touching = c.in_ok-last.ensures.touching; apart = c.in_ok-last.ensures.apart })
    c.loop-i.invariant

pub absorb-requires-else-is_next : goal.absorb-requires-else-is_next
absorb-requires-else-is_next c = last_integer _ _ _ _ _ _ c.loop-i.invariant

pub loop-i-preserved : goal.loop-i-preserved
loop-i-preserved c =
    gathers_turned _ _ _ _ _ _ (gathers_more c.args.b.now c.args.a.now c.loop-i.j c.loop-i.i c.loop-i.done.items _ c.loop-i.last _ c.requires.b c.requires.a (c.is_next.ensures.right c.if-is_next.false)
    (record { touching = c.in_ok-last-2.ensures.touching; apart = c.in_ok-last-2.ensures.apart })
    (gathers_turned _ _ _ _ _ _ c.loop-i.invariant))

pub returns-clause-lies : goal.returns-clause-lies
returns-clause-lies c v = gathered_lies _ _ _ _ _ _ _ v c.in_ok-push.ensures.items c.if-i-a.false c.if-j-b.false c.loop-i.invariant
