use Rattle.std.proofs.Common.{◌<◌, length, get_or, pos, arith, sym, ap, ◌∙◌, subst, inl, inr}
use Rattle.std.proofs.lemmas.Bool.{cases_eq}
use Rattle.pp_algebra.specs.Covers.{IsIn}
use Rattle.pp_algebra.specs.Terms.{int, variables}
use Rattle.pp_store.specs.Occurring.{Stands}
use Rattle.pp_store.specs.Patterns.{column_at}
use Rattle.pp_store.proofs.Applying.{IsIn-terms}
use Rattle.pp_store.proofs.Lists.{in_get}
use Rattle.pp_unify.proofs.Listed.{get_any}
use Rattle.pp_store.proofs.Noting.{more_then, only_one}
use Rattle.pp_store.proofs.pattern.add_all.Goals as goal

pub add-requires : goal.add-requires
add-requires c = record {
  within = λ v i.
      let l : c.loop-i.i < length c.args.terms.now = omega (arith, c.loop-i-test.true) in
      let b = c.requires.within v (IsIn-terms c.args.terms.now c.loop-i.i c.index-terms-i.result v l (subst (λ t. IsIn v (variables t)) c.index-terms-i.is i)) in
      omega (arith, b, c.loop-i.invariant.more.count);
}

pub returns-in_err-add-clause-more : goal.returns-in_err-add-clause-more
returns-in_err-add-clause-more c = more_then c.args.numbers.now _ c.args.places.now c.loop-i.places c.add.new.self c.loop-i.invariant.more c.in_err-add.ensures.more (λ k i. only_one (get_or c.args.numbers.now c.loop-i.i 0) k c.args.numbers.now (in_get c.args.numbers.now c.loop-i.i 0 (omega (arith, c.loop-i-test.true, c.requires.many))) i)

pub loop-i-preserved : goal.loop-i-preserved
loop-i-preserved c = record {
  more = more_then c.args.numbers.now _ c.args.places.now c.loop-i.places c.add.new.self c.loop-i.invariant.more c.in_ok-add.ensures.more (λ k i. only_one (get_or c.args.numbers.now c.loop-i.i 0) k c.args.numbers.now (in_get c.args.numbers.now c.loop-i.i 0 (omega (arith, c.loop-i-test.true, c.requires.many))) i);
  added = λ j v l i. elim (cases_eq j c.loop-i.i) [
    | inl e ↦ subst (λ x. Stands c.add.new.self v (get_or c.args.numbers.now x 0)) (sym e) (c.in_ok-add.ensures.added v (subst (λ t. IsIn v (variables t)) (ap (column_at c.args.terms.now) e ∙ get_any c.args.terms.now c.loop-i.i (int (pos 0)) _ (omega (arith, c.loop-i-test.true)) ∙ sym c.index-terms-i.is) i))
    | inr f ↦ c.in_ok-add.ensures.more.stays v (get_or c.args.numbers.now j 0) (c.loop-i.invariant.added j v (omega (arith, l, f)) i)
  ];
}
