use Rattle.std.proofs.Common.{◌+◌, ◌<◌, length, map, get_or, ap, ◌∙◌, subst}
use Rattle.pp_algebra.specs.Covers.{IsIn}
use Rattle.pp_algebra.specs.Terms.{put, variable, variables}
use Rattle.pp_row.specs.Cells.{variables_in, renamed}
use Rattle.pp_row.proofs.Renaming.{renamed_term}
use Rattle.pp_row.proofs.Substituted.{among_term}
use Rattle.pp_row.proofs.term.Term.shifted.Goals as goal

pub shifted-requires : goal.shifted-requires
shifted-requires c = λ k d l v i.
    let same = c.as_slice.ensures.value in
    c.requires.fits v (subst (λ t. IsIn v (variables t)) c.self.view_is (among_term c.self.inside.cells.items k d v c.self.invariant (subst (λ cs. k < length cs) same l) (subst (λ cs. IsIn v (variables_in (get_or cs k d))) same i)))

pub invariant_of-result : goal.invariant_of-result
invariant_of-result c = (renamed_term (λ v. c.args.first + v) c.self.inside.cells.items c.in_ok-shifted.field-0.items c.self.invariant (c.in_ok-shifted.ensures ∙ ap (map (renamed (λ v. c.args.first + v))) c.as_slice.ensures.value)).0

pub returns : goal.returns
returns c =
    (renamed_term (λ v. c.args.first + v) c.self.inside.cells.items c.in_ok-shifted.field-0.items c.self.invariant (c.in_ok-shifted.ensures ∙ ap (map (renamed (λ v. c.args.first + v))) c.as_slice.ensures.value)).1
    ∙ ap (put (λ v. variable (c.args.first + v))) c.self.view_is
