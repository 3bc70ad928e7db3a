use Rattle.std.proofs.Common.{◌<◌, length, take, get_or, arith, sym, ◌∙◌, subst, inl, refl}
use Rattle.std.proofs.lemmas.List.{take_more}
use Rattle.pp_algebra.specs.Covers.{IsIn}
use Rattle.pp_algebra.specs.Terms.{variables}
use Rattle.pp_store.specs.Numbers.{AreNumbers}
use Rattle.pp_store.proofs.Applying.{IsIn-terms}
use Rattle.pp_store.proofs.FreshNumbers.{fresh_are, not_taken}
use Rattle.pp_store.proofs.Lists.{in_get}
use Rattle.pp_store.proofs.numbers.numbered.Goals as goal

pub loop-i-init : goal.loop-i-init
loop-i-init c = fresh_are c.args.first c.args.count c.in_ok-numbers.numbers.items c.in_ok-numbers.ensures

pub keep_name-requires-clause-within : goal.keep_name-requires-clause-within
keep_name-requires-clause-within c = λ v e.
    let l : c.loop-i.i < length c.args.columns.now = omega (arith, c.loop-i-test.true, c.requires.many) in
    let b = c.requires.below v (IsIn-terms c.args.columns.now c.loop-i.i c.index-columns-i.result v l (subst (λ t. IsIn v (variables t)) (sym e ∙ c.index-columns-i.is) (inl refl))) in
    omega (arith, b, c.loop-i.invariant.many)

pub keep_name-requires-clause-old : goal.keep_name-requires-clause-old
keep_name-requires-clause-old c = c.requires.old (get_or c.args.names.now c.loop-i.i 0) (in_get c.args.names.now c.loop-i.i 0 (omega (arith, c.loop-i-test.true)))

pub loop-i-preserved : goal.loop-i-preserved
loop-i-preserved c =
    let l : c.loop-i.i < length c.args.names.now = omega (arith, c.loop-i-test.true) in
    subst (λ ts. AreNumbers c.args.first c.args.count ts c.keep_name.new.numbers.items) (sym (take_more c.args.names.now c.loop-i.i 0 l))
    (c.keep_name.ensures.kept c.args.count (take c.loop-i.i c.args.names.now) c.loop-i.invariant (not_taken c.args.names.now c.loop-i.i c.requires.distinct l))
