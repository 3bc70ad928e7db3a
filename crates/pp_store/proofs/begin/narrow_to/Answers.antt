use Rattle.std.proofs.Common.{sym, subst, [], ◌∷◌}
use Rattle.pp_algebra.specs.Solve.{membership, HasNone}
use Rattle.pp_algebra.specs.Rows.{pattern_of}
use Rattle.pp_term.specs.Meanings.{members_by}
use Rattle.pp_unify.specs.States.{present, in_place}
use Rattle.pp_unify.proofs.Emptied.{empty_has_none}
use Rattle.pp_store.proofs.begin.narrow_to.Goals as goal

pub returns-in-None : goal.returns-in-None
returns-in-None c = record { solved = subst (λ d. HasNone (pattern_of (present c.args.bindings.now)) (membership (in_place (present c.args.bindings.now) c.args.term.now) (members_by d) ∷ [])) (sym c.in-None.is) (empty_has_none (present c.args.bindings.now) (in_place (present c.args.bindings.now) c.args.term.now)) }
