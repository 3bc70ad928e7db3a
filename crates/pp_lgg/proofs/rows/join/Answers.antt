use Rattle.std.proofs.Common.{◌≡◌, ap, sym, ◌∙◌, arith, subst, [], ◌∷◌, map}
use Rattle.std.proofs.lemmas.Result.{IfOk-weaker}
use Rattle.pp_algebra.specs.Canon.{canon}
use Rattle.pp_algebra.specs.Least.{least_row, union_of}
use Rattle.pp_algebra.specs.Rows.{AreWide, domain_at}
use Rattle.std.specs.Prelude.{nat_eq}
use Rattle.pp_row.specs.Columns.{trees_of, sets_of, pattern_by}
use Rattle.pp_lgg.specs.Pairs.{names}
use Rattle.pp_lgg.proofs.Columns.{next_column, all_columns, least_again}
use Rattle.pp_algebra.proofs.WideLeast.{unions_wide}
use Rattle.pp_lgg.proofs.rows.join.Goals as goal
use Rattle.pp_row.proofs.ColumnLists.{same_length}

pub bounds-right-k : goal.bounds-right-k
bounds-right-k c =
    let l = same_length c.columns-left.result.now c.columns-right.result.now c.args.a.now.columns c.args.b.now.columns c.columns-left.ensures.columns c.columns-right.ensures.columns c.requires.same_width in
    omega (arith, l)

pub loop-k-preserved : goal.loop-k-preserved
loop-k-preserved c =
    let ts = c.columns-left.result.now in
    let us = c.columns-right.result.now in
    let l = same_length ts us c.args.a.now.columns c.args.b.now.columns c.columns-left.ensures.columns c.columns-right.ensures.columns c.requires.same_width in
    record {
      pairs = c.in_ok-joined.ensures.pairs;
      joined = rw c.in_ok-push.ensures.items (next_column ts us c.loop-k.columns.items c.loop-k.k (names c.loop-k.pairs.keys) (names c.joined.new.pairs.keys) c.index-left-k.result c.index-right-k.result c.in_ok-joined.field-0 l c.loop-k-test.true c.index-left-k.is c.index-right-k.is c.loop-k.invariant.joined c.in_ok-joined.ensures.names c.in_ok-joined.ensures.term);
    }

pub canon-requires : goal.canon-requires
canon-requires c =
    let a = c.args.a.now in
    let b = c.args.b.now in
    let ts = c.columns-left.result.now in
    let us = c.columns-right.result.now in
    let l = same_length ts us a.columns b.columns c.columns-left.ensures.columns c.columns-right.ensures.columns c.requires.same_width in
    let j = all_columns ts us c.loop-k.columns.items c.loop-k.k (names c.loop-k.pairs.keys) l c.loop-k-test.false c.loop-k.invariant.joined in
    let e : sets_of c.deref.result.now ≡ map (union_of (domain_at (sets_of c.domains.result.now) ∷ domain_at (sets_of c.domains-2.result.now) ∷ [])) (names c.loop-k.pairs.keys) = ap (λ ds. sets_of ds) c.deref.ensures.value ∙ c.in_ok-domains.ensures in
    let v = subst AreWide (sym c.domains.ensures.domains) c.domains.ensures.row.wide in
    let w = subst AreWide (sym c.domains-2.ensures.domains) c.domains-2.ensures.row.wide in
    record { wide = subst AreWide (sym e) (unions_wide (sets_of c.domains.result.now) (sets_of c.domains-2.result.now) (trees_of ts) (trees_of us) (names c.loop-k.pairs.keys) v w j.names) }

pub returns : goal.returns
returns c =
    let a = c.args.a.now in
    let b = c.args.b.now in
    let ts = c.columns-left.result.now in
    let us = c.columns-right.result.now in
    let l = same_length ts us a.columns b.columns c.columns-left.ensures.columns c.columns-right.ensures.columns c.requires.same_width in
    let j = all_columns ts us c.loop-k.columns.items c.loop-k.k (names c.loop-k.pairs.keys) l c.loop-k-test.false c.loop-k.invariant.joined in
    let e : sets_of c.deref.result.now ≡ map (union_of (domain_at (sets_of c.domains.result.now) ∷ domain_at (sets_of c.domains-2.result.now) ∷ [])) (names c.loop-k.pairs.keys) = ap (λ ds. sets_of ds) c.deref.ensures.value ∙ c.in_ok-domains.ensures in
    record {
      least = IfOk-weaker _ (λ r. r ≡ canon nat_eq (pattern_by c.loop-k.columns.items c.deref.result.now)) (λ r. r ≡ least_row a (b ∷ []))
          (λ r f. f ∙ least_again a b ts us c.loop-k.columns.items (names c.loop-k.pairs.keys) c.domains.result.now c.domains-2.result.now c.deref.result.now c.columns-left.ensures.columns c.columns-right.ensures.columns c.domains.ensures.domains c.domains-2.ensures.domains j e) c.canon.ensures;
    }
