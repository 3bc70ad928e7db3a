use Rattle.std.proofs.Common.{ap, ◌∙◌, sym, subst, length}
use Rattle.pp_domain.specs.Intervals.{integers, IsDomain}
use Rattle.pp_domain.proofs.Ascending.{len_is}
use Rattle.pp_domain.proofs.domain.Domain.size.Goals as goal

pub returns : goal.returns
returns c =
    c.total.ensures
    ∙ ap (λ ps. length (integers ps)) (c.as_slice.ensures.value ∙ c.self.view_is)
    ∙ sym (len_is c.args.self.now (subst IsDomain c.self.view_is c.self.invariant))
