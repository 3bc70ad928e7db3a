use Rattle.std.proofs.Common.{length, ap, sym, ◌∙◌, arith}
use Rattle.std.specs.Option.{option_map}
use Rattle.pp_domain.specs.Sets.{set_of}
use Rattle.pp_domain.proofs.Ascending.{len_is}
use Rattle.pp_domain.proofs.MembersListed.{members-set_of}
use Rattle.pp_row.specs.Reading.{forest}
use Rattle.pp_unify.specs.States.{present}
use Rattle.pp_goal.proofs.Splitting.{values_are}
use Rattle.pp_goal.proofs.split.split_count.Goals as goal

pub returns-in-Some : goal.returns-in-Some
returns-in-Some c =
    let d = c.in-Some.domain.now in
    let whole = c.intervals-whole.ensures.domain in
    let v = values_are (present c.args.bindings.now) c.args.first (forest c.args.goal.now.arguments.now) (set_of d) (omega (arith, c.requires.one)) (sym c.domain_at.ensures ∙ ap (option_map (λ x. set_of x.now)) c.in-Some.is) in
    c.size.ensures ∙ len_is d whole ∙ ap length (sym (v ∙ members-set_of d whole))
