use Rattle.std.proofs.Common.{arith}
use Rattle.pp_parse.proofs.Bounds.{seen_length, behind_first, one_found, two_found}
use Rattle.pp_parse.proofs.sets.bounds_at.Goals as goal

pub upper_at-requires : goal.upper_at-requires
upper_at-requires g c =
    let b = behind_first g.qs c.args.at c.in_ok-low.low c.in_ok-low.ensures.value in
    (c.requires.0, omega (arith, b, seen_length g.qs c.args.parts.now c.requires.0))

pub returns-in-Some : goal.returns-in-Some
returns-in-Some g c = two_found g.qs c.args.at c.in_ok-low.low c.in_ok-low.ensures.value c.in-Some.high c.in-Some.ensures.value c.in_ok-low.ensures.integer c.in-Some.ensures.integer

pub returns-in-None : goal.returns-in-None
returns-in-None g c = one_found g.qs c.args.at c.in_ok-low.low c.in_ok-low.ensures.value c.in-None.ensures.value c.in_ok-low.ensures.integer
