-- The test for equal rows passes exactly on equal rows.
use Rattle.std.proofs.Common.{◌≡◌, true, List, [], ◌∷◌, Option, Some, None, refl, ap, ◌∙◌, subst}
use Rattle.std.specs.Prelude.{◌↔◌}
use Rattle.std.specs.FinSet as set
use Rattle.std.specs.Cmp.{int_cmp_total}
use Rattle.pp_algebra.specs.Rows.{Domain, Row}
use Rattle.pp_algebra.specs.Canon.{same_trees, same_domain, same_domains, same_row}
use Rattle.pp_algebra.proofs.Bools.{both_true, left_true, right_true}
use Rattle.pp_algebra.proofs.CanonLemmas.{same_trees-itself, same_trees-is}
use Rattle.pp_algebra.proofs.Antisym.{row_of, same_set}

subset-itself : (d : Domain) → set.is_subset d d ≡ true
subset-itself d = set.contains-is_subset int_cmp_total d d (λ n h. h)

same_domain-itself : (d : Option Domain) → same_domain d d ≡ true
same_domain-itself None = refl
same_domain-itself (Some d) = both_true _ _ (subset-itself d) (subset-itself d)

same_domains-itself : (ds : List (Option Domain)) → same_domains ds ds ≡ true
same_domains-itself [] = refl
same_domains-itself (d ∷ ds) = both_true _ _ (same_domain-itself d) (same_domains-itself ds)

same_domain-is : (d e : Option Domain) → same_domain d e ≡ true → d ≡ e
same_domain-is None None h = refl
same_domain-is None (Some e) h = absurd (cc)
same_domain-is (Some d) None h = absurd (cc)
same_domain-is (Some d) (Some e) h = ap Some (same_set d e (set.is_subset-contains int_cmp_total e d (right_true (set.is_subset d e) _ h)) (set.is_subset-contains int_cmp_total d e (left_true _ _ h)))

same_domains-is : (ds es : List (Option Domain)) → same_domains ds es ≡ true → ds ≡ es
same_domains-is [] [] h = refl
same_domains-is [] (e ∷ es) h = absurd (cc)
same_domains-is (d ∷ ds) [] h = absurd (cc)
same_domains-is (d ∷ ds) (e ∷ es) h = rw (same_domain-is d e (left_true _ _ h), same_domains-is ds es (right_true (same_domain d e) _ h)) refl

pub same_row-sound : (r q : Row) → same_row r q ≡ true → r ≡ q
same_row-sound r q h =
    ap (λ ts. row_of ts r.domains) (same_trees-is r.columns q.columns (left_true _ _ h))
    ∙ ap (row_of q.columns) (same_domains-is r.domains q.domains (right_true (same_trees r.columns q.columns) _ h))

pub same_row-itself : (r : Row) → same_row r r ≡ true
same_row-itself r = both_true _ _ (same_trees-itself r.columns) (same_domains-itself r.domains)

pub same_is_equal : (r q : Row) → (same_row r q ≡ true) ↔ (r ≡ q)
same_is_equal r q = (same_row-sound r q, λ e. subst (λ x. same_row r x ≡ true) e (same_row-itself r))
