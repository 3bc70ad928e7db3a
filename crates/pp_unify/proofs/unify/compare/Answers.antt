use Rattle.std.proofs.Common.{false}
use Rattle.pp_unify.proofs.Meeting.{values_meet}
use Rattle.pp_unify.proofs.unify.compare.Goals as goal

pub returns-in_default-other : goal.returns-in_default-other
returns-in_default-other c =
    let t = c.args.state.now in
    values_meet t c.args.one c.args.other false c.requires.good c.requires.one c.requires.other
    (λ p q e f. c.in_default-other.not-Compound q f)
    ((λ h. absurd (cc)), λ e. absurd (c.in_default-other.not-Compound c.in-Compound.left (cc (e, c.in-Compound.is))))

pub returns-in_default : goal.returns-in_default
returns-in_default c =
    let t = c.args.state.now in
    rw c.outcome.ensures (values_meet t c.args.one c.args.other c.is_same_value.result c.requires.good c.requires.one c.requires.other (λ p q e f. c.in_default.not-Compound p e) c.is_same_value.ensures)

pub returns-in-Compound-other : goal.returns-in-Compound-other
returns-in-Compound-other c = rw (c.in-Compound.is, c.in-Compound-other.is) c.compare_names.ensures
