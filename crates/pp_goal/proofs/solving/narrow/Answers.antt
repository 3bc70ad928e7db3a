use Rattle.std.proofs.Common.{ℕ, ◌+◌, ◌<◌, arith}
use Rattle.pp_algebra.specs.Terms.{Tree, variable, count}
use Rattle.pp_algebra.proofs.Put.{count-put_all}
use Rattle.pp_row.specs.Reading.{forest}
use Rattle.pp_unify.specs.States.{present}
use Rattle.pp_goal.specs.Arguments.{terms_of}
use Rattle.pp_goal.proofs.Solved.{empty_decided}
use Rattle.pp_goal.proofs.solving.narrow.Goals as goal

pub returns-in-None-clause-decided : goal.returns-in-None-clause-decided
returns-in-None-clause-decided c =
    let s : ℕ → Tree ℕ = λ v. variable (c.args.first + v) in
    let l : 0 < count (terms_of c.args.goal.now c.args.first) = omega (arith, c.requires.one, count-put_all s (forest c.args.goal.now.arguments.now)) in
    rw c.in-None.is (empty_decided (present c.args.bindings.now) (terms_of c.args.goal.now c.args.first) l)
