use Rattle.std.proofs.Common.{◌≡◌, ℕ, ◌<◌, ◌≤◌, drop, length, ap, sym, subst, arith, refl}
use Rattle.std.proofs.Math.ListN.{drop_of_length-le}
use Rattle.pp_algebra.specs.Terms.{Tree, none}
use Rattle.pp_algebra.specs.Rows.{domain_at}
use Rattle.pp_row.specs.Columns.{sets_of, trees_of}
use Rattle.pp_unify.specs.Covering.{TakesNow, bound_at, now_term}
use Rattle.pp_unify.specs.Tops.{IsAmong}
use Rattle.pp_unify.proofs.Covering.{column_taken, none_bound, nothing_taken, taken_covers}
use Rattle.pp_unify.proofs.cover.is_covered.Goals as goal

pub loop-k-init : goal.loop-k-init
loop-k-init c = record {
  bound = none_bound c.args.state.now (domain_at (sets_of c.domains-domains.result.now)) c.clear.new.self.items c.clear.ensures.items;
  back = λ s g k. k;
}

pub covers_column-requires-clause-among : goal.covers_column-requires-clause-among
covers_column-requires-clause-among c =
    let us = c.args.columns.now in
    let u = c.index-columns-k.result in
    let l : c.loop-k.k < length us = omega (arith, c.loop-k-test.true, c.if-terms-columns.false) in
    subst (IsAmong c.args.state.now.slots.items) (sym c.index-columns-k.is) (c.requires.among c.loop-k.k u l)

pub loop-k-preserved : goal.loop-k-preserved
loop-k-preserved c =
    let t = c.args.state.now in
    let ts = c.columns-terms.result.now in
    let us = c.args.columns.now in
    let ds = domain_at (sets_of c.domains-domains.result.now) in
    let l : c.loop-k.k < length us = omega (arith, c.loop-k-test.true, c.if-terms-columns.false) in
    let m = c.in_ok-covers_column.ensures c.if-not-branch.false in
    let i = c.loop-k.invariant in
    record {
      bound = m.bound;
      back = λ s g k. i.back s (m.older s g) (column_taken t ds s ts us c.loop-k.k c.index-terms-k.result c.index-columns-k.result c.loop-k-test.true l c.index-terms-k.is c.index-columns-k.is (m.takes s g) k);
    }

pub returns : goal.returns
returns c = λ _.
    let t = c.args.state.now in
    let ts = c.columns-terms.result.now in
    let us = c.args.columns.now in
    let ds = domain_at (sets_of c.domains-domains.result.now) in
    let s : ℕ → Tree ℕ = λ k. now_term t (bound_at c.loop-k.cover.bound.items k) in
    let l : length us ≤ c.loop-k.k = omega (arith, c.loop-k-test.false, c.if-terms-columns.false) in
    let a : trees_of (drop c.loop-k.k ts) ≡ none = ap trees_of (drop_of_length-le ts c.loop-k-test.false) in
    let b : trees_of (drop c.loop-k.k us) ≡ none = ap trees_of (drop_of_length-le us l) in
    let n : TakesNow t ds s (trees_of (drop c.loop-k.k ts)) (trees_of (drop c.loop-k.k us)) = subst (λ x. TakesNow t ds s x (trees_of (drop c.loop-k.k us))) (sym a) (subst (TakesNow t ds s none) (sym b) (nothing_taken t ds s)) in
    taken_covers t c.args.by.now ts us c.domains-domains.result.now s c.columns-terms.ensures.columns c.domains-domains.ensures.domains (c.loop-k.invariant.back s (λ k l. refl) n)
