use Rattle.std.proofs.Common.{◌<◌, [], ◌∷◌, ◌++◌, length, take, arith, sym, ap, ◌∙◌, subst, inl, inr}
use Rattle.std.proofs.lemmas.List.{take_more}
use Rattle.pp_algebra.specs.Covers.{IsIn}
use Rattle.pp_algebra.specs.Terms.{variables, variables_all}
use Rattle.pp_algebra.proofs.Antisym.{IsIn-either}
use Rattle.pp_row.specs.Columns.{trees_of}
use Rattle.pp_store.proofs.Applying.{IsIn-terms}
use Rattle.pp_store.proofs.Noting.{more_then}
use Rattle.pp_store.proofs.goals.name_all.Goals as goal
use Rattle.pp_row.proofs.ColumnLists.{variables-push}

pub add-requires : goal.add-requires
add-requires c = record {
  within = λ v i.
      let l : c.loop-argument.argument-index < length c.args.arguments.now = omega (arith, c.loop-argument-test.true) in
      let b = c.requires.below v (IsIn-terms c.args.arguments.now c.loop-argument.argument-index c.argument-item.result v l (subst (λ t. IsIn v (variables t)) c.argument-item.is i)) in
      omega (arith, b, c.loop-argument.invariant.more.count);
}

pub loop-argument-preserved : goal.loop-argument-preserved
loop-argument-preserved c =
    let n = c.args.number ∷ [] in
    let k = c.loop-argument.argument-index in
    let ts = c.args.arguments.now in
    let t = c.argument-item.result in
    let l : k < length ts = omega (arith, c.loop-argument-test.true) in
    record {
      more = more_then n n c.args.naming.now c.loop-argument.naming c.add.new.self c.loop-argument.invariant.more c.in_ok-add.ensures.more (λ j i. i);
      named = λ v i. elim (IsIn-either v (variables_all (trees_of (take k ts))) (variables t) (subst (IsIn v) (ap (λ us. variables_all (trees_of us)) (take_more ts k t l ∙ ap (λ x. take k ts ++ x ∷ []) (sym c.argument-item.is)) ∙ variables-push (take k ts) t) i)) [
        | inl a ↦ c.in_ok-add.ensures.more.stays v c.args.number (c.loop-argument.invariant.named v a)
        | inr b ↦ c.in_ok-add.ensures.added v b
      ];
    }
