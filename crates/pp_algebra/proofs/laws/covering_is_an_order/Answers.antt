use Rattle.pp_algebra.specs.Rows.{pattern_of}
use Rattle.pp_algebra.proofs.Order.{covers_itself, covers_through}
use Rattle.pp_algebra.proofs.Antisym.{covers_antisymmetric}
use Rattle.pp_algebra.proofs.laws.covering_is_an_order.Goals as goal

pub returns-clause-itself : goal.returns-clause-itself
returns-clause-itself c = λ r. covers_itself (pattern_of r)

pub returns-clause-through : goal.returns-clause-through
returns-clause-through c = λ r q p h k. covers_through (pattern_of r) (pattern_of q) (pattern_of p) h k

pub returns-clause-both_ways : goal.returns-clause-both_ways
returns-clause-both_ways c = covers_antisymmetric
