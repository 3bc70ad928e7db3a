use Rattle.std.proofs.Common.{ℕ, ◌+◌, ◌<◌, ap, sym, ◌∙◌, arith}
use Rattle.pp_algebra.specs.Terms.{Tree, variable, put, count}
use Rattle.pp_algebra.specs.Givens.{given}
use Rattle.pp_algebra.specs.Numbered.{counted_from}
use Rattle.pp_algebra.proofs.Put.{count-put_all}
use Rattle.pp_row.specs.Reading.{forest}
use Rattle.pp_unify.specs.States.{present, value_in, in_place}
use Rattle.pp_goal.specs.Arguments.{terms_of}
use Rattle.pp_goal.proofs.arguments.argument.Goals as goal
use Rattle.pp_algebra.proofs.Numbered.{column-put}

pub returns : goal.returns
returns c =
    let r = present c.args.bindings.now in
    let ts = forest c.args.goal.now.arguments.now in
    let s : ℕ → Tree ℕ = λ v. variable (c.args.first + v) in
    let l : c.args.place < count (terms_of c.args.goal.now c.args.first) = omega (arith, c.requires.place, count-put_all s ts) in
    c.value_at.ensures.given
    ∙ ap (λ t. given r.domains (in_place r (counted_from c.args.first t))) c.place_of.ensures.term
    ∙ ap (λ t. given r.domains (put (value_in r) t)) (sym (column-put s ts c.args.place c.requires.place))
    ∙ ap (given r.domains) (sym (column-put (value_in r) (terms_of c.args.goal.now c.args.first) c.args.place l))
