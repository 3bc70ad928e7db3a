-- The pattern of a row, and what is known of its places.
use Rattle.std.proofs.Common.{◌≡◌, ℕ, ℤ, zero, suc, Option, None, ◌++◌, ◌+◌, ◌<◌, ◌≤◌, inl, inr, true, false, List, [], ◌∷◌, length, get_or, refl, ap, sym, ◌∙◌, subst, arith}
use Rattle.std.specs.Prelude.{nat_eq, Result, Ok, Err, OnErr}
use Rattle.std.proofs.lemmas.List.{length_push}
use Rattle.std.proofs.Math.ListN.{length-map}
use Rattle.pp_algebra.specs.Terms.{Tree, variables_all, count}
use Rattle.pp_algebra.specs.Rows.{Row, IsRow, domain_at}
use Rattle.pp_algebra.specs.Covers.{IsIn}
use Rattle.pp_algebra.specs.Canon.{has, canon}
use Rattle.pp_row.specs.Columns.{trees_of, sets_of, set_by}
use Rattle.pp_store.specs.declared.pattern.Pattern.{Pattern}
use Rattle.pp_store.specs.Occurring.{Stands, HasMore, IsLonger}
use Rattle.pp_store.specs.Patterns.{row_in, IsSound, AreLonger, IsAsBefore}
use Rattle.pp_store.proofs.Planning.{row_below}
use Rattle.pp_store.proofs.Solving.{numbered_again}

-- nothing stands anywhere at first
pub none_stand : (old new : List (List ℕ)) → old ≡ [] → IsLonger old new → (v k : ℕ) → Stands new v k → ⊥
none_stand old new e h v k s =
    let f : get_or new v [] ≡ [] = h.same v ∙ ap (λ ss. get_or ss v []) e ∙ nothing v in
    let g : has nat_eq [] k ≡ true = sym (ap (λ ks. has nat_eq ks k) f) ∙ s in
    let x : false ≡ true = g in absurd (cc (x))
  where
    nothing : (v : ℕ) → get_or {A = List ℕ} [] v [] ≡ []
    nothing v = refl

pub below_row : (r : Row) → IsRow r → (columns : List (Tree ℕ)) (domains : List (Option (List (ℤ × ℤ)))) → trees_of columns ≡ r.columns → sets_of domains ≡ r.domains → (v : ℕ) → IsIn v (variables_all (trees_of columns)) → v < length domains
below_row r row columns domains c d v i = let l = row_below r row v (subst (λ ts. IsIn v (variables_all ts)) c i) in omega (arith, l, ap length d, length-map domains set_by)

pub opened_row : (p : Pattern) (r : Row) → IsRow r → trees_of p.columns.items ≡ r.columns → sets_of p.domains.items ≡ r.domains → row_in p ≡ r
opened_row p r row c d =
    ap (λ ts. canon nat_eq (record { columns = ts; domains = domain_at (sets_of p.domains.items) })) c
    ∙ ap (λ ds. canon nat_eq (record { columns = r.columns; domains = domain_at ds })) d
    ∙ numbered_again r row.canonical

-- one domain more is `any`
domain_push : (es : List (Option (List (ℤ × ℤ)))) (v : ℕ) → domain_at (sets_of (es ++ None ∷ [])) v ≡ domain_at (sets_of es) v
domain_push [] zero = refl
domain_push [] (suc v) = refl
domain_push (e ∷ es) zero = refl
domain_push (e ∷ es) (suc v) = domain_push es v

pub longer_by_one : (ds es fs : List (Option (List (ℤ × ℤ)))) → AreLonger ds es → fs ≡ es ++ None ∷ [] → AreLonger ds fs
longer_by_one ds es fs h e = record {
  count = omega (arith, h.count, ap length e, length_push es None);
  same = λ v. ap (λ xs. domain_at (sets_of xs) v) e ∙ domain_push es v ∙ h.same v;
}

-- where nothing was changed but what is known of later variables
pub before_grown : (p q : Pattern) → IsSound p → q.columns.items ≡ p.columns.items → AreLonger p.domains.items q.domains.items → IsLonger p.places q.places → length q.domains.items ≤ length q.places → IsAsBefore p q
before_grown p q sound c d l k = record {
  columns = c;
  domains = d;
  known = k;
  stays = λ v j s. ap (λ ks. has nat_eq ks j) (l.same v) ∙ s;
  only = λ v j s. sound.within v j (sym (ap (λ ks. has nat_eq ks j) (l.same v)) ∙ s);
}

pub longer_same : (ds : List (Option (List (ℤ × ℤ)))) → AreLonger ds ds
longer_same ds = record { count = omega arith; same = λ v. refl }

-- and more is noted
pub noted : (p q r : Pattern) (ks : List ℕ) → IsAsBefore p q → r.columns.items ≡ q.columns.items → r.domains.items ≡ q.domains.items → HasMore ks q.places r.places → ((k : ℕ) → IsIn k ks → k < length p.columns.items) → IsAsBefore p r
noted p q r ks h c d m within = record {
  columns = c ∙ h.columns;
  domains = subst (AreLonger p.domains.items) (sym d) h.domains;
  known = omega (arith, h.known, ap length d, m.count);
  stays = λ v k s. m.stays v k (h.stays v k s);
  only = λ v k s. elim (m.only v k s) [ inl t ↦ h.only v k t | inr i ↦ within k i ];
}

pub on_err : {A E : Type 0} (r : Result A E) (P : Type 0) → P → OnErr r P
on_err (Ok x) P p = tt
on_err (Err e) P p = p
