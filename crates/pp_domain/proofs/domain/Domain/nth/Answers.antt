use Rattle.std.proofs.Common.{ap, ◌∙◌, subst}
use Rattle.std.specs.Prelude.{slice_get}
use Rattle.pp_domain.specs.Intervals.{integers, IsDomain}
use Rattle.pp_domain.proofs.Nth.{nth_member, nth_none}
use Rattle.pp_domain.proofs.domain.Domain.nth.Goals as goal

pub returns : goal.returns
returns c =
    let d : IsDomain c.args.self.now = subst IsDomain c.self.view_is c.self.invariant in
    let e = c.nth_of.ensures ∙ ap (λ ps. slice_get (integers ps) c.args.place) (c.as_slice.ensures.value ∙ c.self.view_is) in
    record { none = nth_none c.args.self.now c.args.place c.nth_of.result d e; member = nth_member c.args.self.now c.args.place c.nth_of.result d e; listed = e }
