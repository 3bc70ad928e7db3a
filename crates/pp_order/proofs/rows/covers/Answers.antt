use Rattle.std.proofs.Common.{[], length, arith, refl, sym, ◌∙◌, subst, true, false}
use Rattle.std.proofs.Math.ListN.{length-map}
use Rattle.pp_algebra.specs.Terms.{variables, variables_all}
use Rattle.pp_algebra.specs.Rows.{IsNumbered}
use Rattle.pp_row.specs.Columns.{trees_of}
use Rattle.pp_order.specs.Bindings.{terms, term_of}
use Rattle.pp_order.proofs.Walking.{at_end}
use Rattle.pp_order.proofs.Columns.{columns_from, column_numbered, past_column, other_column, all_columns, taken, covered}
use Rattle.pp_order.proofs.rows.covers.Goals as goal
use Rattle.pp_row.proofs.ColumnLists.{same_length}

pub bounds-right-k : goal.bounds-right-k
bounds-right-k c =
    let l = same_length c.columns-left.result.now c.columns-right.result.now c.args.general.now.columns c.args.special.now.columns c.columns-left.ensures.columns c.columns-right.ensures.columns c.requires.same_width in
    omega (arith, l)

pub covers_term-requires-clause-numbered : goal.covers_term-requires-clause-numbered
covers_term-requires-clause-numbered c =
    let ts = c.columns-left.result.now in
    let us = c.columns-right.result.now in
    let l = same_length ts us c.args.general.now.columns c.args.special.now.columns c.columns-left.ensures.columns c.columns-right.ensures.columns c.requires.same_width in
    let a = columns_from ts c.loop-k.k c.index-left-k.result c.loop-k-test.true c.index-left-k.is in
    let b = columns_from us c.loop-k.k c.index-right-k.result (omega (arith, l)) c.index-right-k.is in
    let n : IsNumbered 0 (variables_all (trees_of ts)) (length c.args.general.now.domains) = subst (λ x. IsNumbered 0 (variables_all x) (length c.args.general.now.domains)) (sym c.columns-left.ensures.columns) c.columns-left.ensures.row.canonical in
    let r = column_numbered _ _ [] (terms c.loop-k.bound.items) _ _ _ _ _ _ _ _ c.loop-k.invariant.walked a b (length c.args.general.now.domains) n in
    (r.0, subst (λ x. IsNumbered x (variables c.index-left-k.result) r.0) (length-map c.loop-k.bound.items _) r.1)

pub returns-then-not-branch : goal.returns-then-not-branch
returns-then-not-branch c = (
  λ h. absurd (cc),
  λ h.
      let ts = c.columns-left.result.now in
      let us = c.columns-right.result.now in
      let l = same_length ts us c.args.general.now.columns c.args.special.now.columns c.columns-left.ensures.columns c.columns-right.ensures.columns c.requires.same_width in
      let a = columns_from ts c.loop-k.k c.index-left-k.result c.loop-k-test.true c.index-left-k.is in
      let b = columns_from us c.loop-k.k c.index-right-k.result (omega (arith, l)) c.index-right-k.is in
      let t = taken c.args.general.now c.args.special.now ts us c.domains-general_domains.result.now c.domains-special_domains.result.now c.columns-left.ensures.columns c.columns-right.ensures.columns c.domains-general_domains.ensures.domains c.domains-special_domains.ensures.domains h in
      absurd (other_column _ _ [] (terms c.loop-k.bound.items) _ _ _ _ _ _ _ _ c.loop-k.invariant.walked a b (c.in_ok-covers_term.ensures.apart c.if-not-branch.true) h.by (λ k l. absurd (omega arith)) t),
)

pub loop-k-preserved : goal.loop-k-preserved
loop-k-preserved c =
    let ts = c.columns-left.result.now in
    let us = c.columns-right.result.now in
    let l = same_length ts us c.args.general.now.columns c.args.special.now.columns c.columns-left.ensures.columns c.columns-right.ensures.columns c.requires.same_width in
    let a = columns_from ts c.loop-k.k c.index-left-k.result c.loop-k-test.true c.index-left-k.is in
    let b = columns_from us c.loop-k.k c.index-right-k.result (omega (arith, l)) c.index-right-k.is in
    let e = c.in_ok-covers_term.ensures in
    record {
      bound = e.bound;
      walked = past_column _ _ [] (terms c.loop-k.bound.items) _ _ _ _ _ _ _ _ c.loop-k.invariant.walked a b (terms c.covers_term.new.bound.items)
          (λ m h. length-map c.covers_term.new.bound.items _ ∙ e.numbered c.if-not-branch.false m (subst (λ x. IsNumbered x (variables c.index-left-k.result) m) (length-map c.loop-k.bound.items _) h))
          (e.covers c.if-not-branch.false);
    }

pub returns : goal.returns
returns c =
    let ts = c.columns-left.result.now in
    let us = c.columns-right.result.now in
    let l = same_length ts us c.args.general.now.columns c.args.special.now.columns c.columns-left.ensures.columns c.columns-right.ensures.columns c.requires.same_width in
    let s = term_of (terms c.loop-k.bound.items) in
    let e = all_columns ts us c.loop-k.k l c.loop-k-test.false in
    let r = (at_end _ _ [] (terms c.loop-k.bound.items) _ _ _ _ c.loop-k.invariant.walked e.0 e.1 s).1 (λ k h. refl) in
    (λ _. covered c.args.general.now c.args.special.now ts us c.domains-general_domains.result.now c.domains-special_domains.result.now c.columns-left.ensures.columns c.columns-right.ensures.columns c.domains-general_domains.ensures.domains c.domains-special_domains.ensures.domains s r.1, λ _. refl)
