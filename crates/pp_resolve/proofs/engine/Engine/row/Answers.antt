use Rattle.std.proofs.Common.{◌≡◌, ap, ◌∙◌}
use Rattle.std.specs.Prelude.{nat_eq}
use Rattle.std.proofs.lemmas.Result.{IfOk-weaker}
use Rattle.pp_algebra.specs.Terms.{put_all}
use Rattle.pp_algebra.specs.Rows.{domain_at}
use Rattle.pp_algebra.specs.Canon.{canon}
use Rattle.pp_algebra.specs.Stages.{pattern}
use Rattle.pp_sld.specs.Leaves.{leaf_row}
use Rattle.pp_unify.specs.States.{present, value_in, row_in}
use Rattle.pp_moves.proofs.Leaf.{leaf_numbered}
use Rattle.pp_resolve.specs.Standing.{standing}
use Rattle.pp_resolve.specs.Kept.{kept_of}
use Rattle.pp_resolve.specs.Links.{goals_of}
use Rattle.pp_resolve.specs.Engines.{goal_of, place_of}
use Rattle.pp_resolve.proofs.Overs.{columns_over}
use Rattle.pp_resolve.proofs.engine.Engine.row.Goals as goal

pub resolve_row-requires : goal.resolve_row-requires
resolve_row-requires c =
    let e = c.args.self.now in
    record { over = columns_over (present e.history.bindings) (goals_of e.clauses.now (goal_of e) (kept_of e.history) e.front) e.columns.columns c.columns.result.now c.columns.ensures.columns c.requires.good.here.over }

pub returns : goal.returns
returns c =
    let e = c.args.self.now in
    let r = present e.history.bindings in
    let ts = c.columns.result.now in
    let same : row_in r ts ≡ leaf_row (place_of e).here =
    ap (λ us. canon nat_eq (pattern (put_all (value_in r) us) (domain_at r.domains))) c.columns.ensures.columns
    ∙ leaf_numbered (standing r (goals_of e.clauses.now (goal_of e) (kept_of e.history) e.front) e.columns.columns e.front.depth) in
    IfOk-weaker c.resolve_row.result (λ x. x ≡ row_in r ts) (λ x. x ≡ leaf_row (place_of e).here) (λ x k. k ∙ same) c.resolve_row.ensures
