use Rattle.std.proofs.Common.{pos}
use Rattle.pp_language.specs.Printing.{interval_text}
use Rattle.pp_print.proofs.Listed.{listed_turn, listed_end}
use Rattle.pp_print.proofs.Intervals.{domain_written}
use Rattle.pp_print.proofs.domains.write_domain.Goals as goal

pub loop-interval-preserved : goal.loop-interval-preserved
loop-interval-preserved c =
    listed_turn interval_text c.intervals-interval-items.result.now c.loop-interval.interval-index (pos 0, pos 0) _ _ c.loop-interval.out.items _ c.write_interval.new.out.items _ c.loop-interval-test.true
    c.in_ok-extend_from_slice.ensures.items c.in_ok-write_interval.ensures c.as_slice-separator-in-loop-interval.ensures c.loop-interval.invariant

pub returns : goal.returns
returns c =
    let same = c.intervals-interval-items.ensures.same in
    domain_written c.args.domain.now c.intervals-interval-items.ensures.domain c.args.out.now.items c.push.new.self.items c.loop-interval.out.items _ c.in_ok-push.ensures.items
    (rw (c.as_slice-separator.ensures, same) at (listed_end interval_text c.intervals-interval-items.result.now c.loop-interval.interval-index _ c.loop-interval.out.items _ c.loop-interval-test.false c.loop-interval.invariant))
    c.in_ok-push-2.ensures.items
