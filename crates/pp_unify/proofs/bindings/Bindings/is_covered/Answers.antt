use Rattle.std.proofs.Common.{◌≡◌, true, subst}
use Rattle.std.specs.Prelude.{nat_eq}
use Rattle.std.proofs.lemmas.Result.{IfOk-weaker}
use Rattle.pp_algebra.specs.Terms.{put_all}
use Rattle.pp_algebra.specs.Covers.{RowCovers}
use Rattle.pp_algebra.specs.Canon.{canon}
use Rattle.pp_row.specs.Columns.{trees_of}
use Rattle.pp_heap.specs.Stores.{solution}
use Rattle.pp_unify.specs.Covering.{domains_now}
use Rattle.pp_unify.specs.States.{present, row_in}
use Rattle.pp_unify.proofs.Covering.{row_now}
use Rattle.pp_unify.proofs.InPlace.{all_among}
use Rattle.pp_unify.proofs.bindings.Bindings.is_covered.Goals as goal

pub is_covered-requires-clause-among : goal.is_covered-requires-clause-among
is_covered-requires-clause-among c = all_among c.self.inside.state c.args.self.now c.args.columns.now c.self.view_is c.requires.over

pub returns-clause-covers : goal.returns-clause-covers
returns-clause-covers c =
    let t = c.self.inside.state in
    let us = c.args.columns.now in
    let by = c.args.by.now in
    IfOk-weaker c.is_covered.result (λ is. is ≡ true → RowCovers by (canon nat_eq (record { columns = put_all (solution t) (trees_of us); domains = domains_now t }))) (λ is. is ≡ true → RowCovers by (row_in (present c.args.self.now) us))
    (λ is k e. subst (RowCovers by) (row_now t c.args.self.now us c.self.view_is c.requires.over) (k e))
    c.is_covered.ensures
