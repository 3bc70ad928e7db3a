use Rattle.std.proofs.Common.{◌≡◌, pos, [], ◌∷◌, ap, ◌∙◌}
use Rattle.std.proofs.lemmas.Result.{IfOk-weaker}
use Rattle.pp_algebra.specs.Rows.{domain_at}
use Rattle.pp_algebra.specs.Least.{both, union_of}
use Rattle.pp_row.specs.declared.cell.Cell.TheVariants.{Int}
use Rattle.pp_row.specs.Columns.{set_by, sets_of}
use Rattle.pp_lgg.specs.Pairs.{name}
use Rattle.pp_lgg.proofs.Unions.{of_both}
use Rattle.pp_lgg.proofs.domains.union_at.Goals as goal

pub returns : goal.returns
returns c =
    let ds = domain_at (sets_of c.args.a.now) in
    let es = domain_at (sets_of c.args.b.now) in
    IfOk-weaker _ (λ d. set_by d ≡ both (set_by c.in_ok-left.left) (set_by c.in_ok-right.right)) (λ d. set_by d ≡ union_of (ds ∷ es ∷ []) (name c.args.pair))
    (λ d e. e ∙ ap (λ x. both x (set_by c.in_ok-right.right)) c.in_ok-left.ensures ∙ ap (both _) c.in_ok-right.ensures ∙ of_both ds es c.args.pair (Int (pos 0)) c.requires) c.union.ensures
