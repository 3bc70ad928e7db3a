use Rattle.std.proofs.Common.{◌≡◌, ◌<◌, ◌∷◌, [], ℕ, length, pos, arith, sym, ap, ◌∙◌, subst, inl, inr, rules}
use Rattle.std.proofs.lemmas.Bool.{cases_eq}
use Rattle.pp_algebra.specs.Covers.{IsIn}
use Rattle.pp_algebra.specs.Terms.{int, variables}
use Rattle.pp_store.specs.Occurring.{Stands}
use Rattle.pp_store.specs.Patterns.{column_at}
use Rattle.pp_store.proofs.Applying.{IsIn-terms}
use Rattle.pp_unify.proofs.Listed.{get_any}
use Rattle.pp_store.proofs.pattern.places_of.Goals as goal

one_below : (k n m : ℕ) → n < m → IsIn k (n ∷ []) → k < m
one_below k n m l (inl e) = omega (arith, l, e)
one_below k n m l (inr h) = absurd h

pub add-requires : goal.add-requires
add-requires c = record {
  within = λ v i.
      let l : c.loop-i.i < length c.args.columns.now = omega (arith, c.loop-i-test.true) in
      let b = c.requires.below v (IsIn-terms c.args.columns.now c.loop-i.i c.index-columns-i.result v l (subst (λ t. IsIn v (variables t)) c.index-columns-i.is i)) in
      omega (arith, b, c.loop-i.invariant.count);
}

pub loop-i-preserved : goal.loop-i-preserved
loop-i-preserved c =
    let e : c.in_ok-place.place ≡ c.loop-i.i = search rules in
    let l : c.loop-i.i < length c.args.columns.now = omega (arith, c.loop-i-test.true) in
    let here : column_at c.args.columns.now c.loop-i.i ≡ c.index-columns-i.result = get_any c.args.columns.now c.loop-i.i (int (pos 0)) _ l ∙ sym c.index-columns-i.is in
    record {
      count = omega (arith, c.loop-i.invariant.count, c.in_ok-add.ensures.more.count);
      placed = λ k v m i. elim (cases_eq k c.loop-i.i) [
        | inl f ↦ subst (Stands c.add.new.self v) (e ∙ sym f) (c.in_ok-add.ensures.added v (subst (λ t. IsIn v (variables t)) (ap (column_at c.args.columns.now) f ∙ here) i))
        | inr f ↦ c.in_ok-add.ensures.more.stays v k (c.loop-i.invariant.placed k v (omega (arith, m, f)) i)
      ];
      within = λ v k s. elim (c.in_ok-add.ensures.more.only v k s) [
        | inl t ↦ c.loop-i.invariant.within v k t
        | inr j ↦ one_below k c.in_ok-place.place (length c.args.columns.now) (omega (arith, l, e)) j
      ];
    }
