use Rattle.std.proofs.Common.{◌≡◌, ◌<◌, length, map, get_or, arith, refl, sym, ap, ◌∙◌, subst}
use Rattle.std.specs.Prelude.{nat_eq}
use Rattle.std.proofs.Math.ListN.{length-map}
use Rattle.pp_algebra.specs.Canon.{Distinct}
use Rattle.pp_algebra.specs.Covers.{IsIn}
use Rattle.pp_algebra.specs.Terms.{variable, count, put, variables_all}
use Rattle.pp_row.specs.Columns.{trees_of, sets_of, set_by}
use Rattle.pp_store.specs.Occurring.{AreGathered}
use Rattle.pp_store.specs.Patterns.{column_at, names_at, IsChange, IsMeant}
use Rattle.pp_store.specs.Replacing.{replacement}
use Rattle.pp_store.proofs.Applying.{goal_with}
use Rattle.pp_store.proofs.Lists.{in_has, in_get}
use Rattle.pp_store.proofs.Planning.{terms_under, names_distinct, name_below, row_below, meant, face_wide, numbers_by}
use Rattle.pp_store.proofs.pattern.Pattern.change.Goals as goal
use Rattle.pp_row.proofs.ColumnLists.{count-trees_of}

pub face_names-requires : goal.face_names-requires
face_names-requires c = λ v i. subst (λ cs. v < length cs) (sym c.deref.ensures.value) (c.requires.below v i)

pub numbered-requires-clause-many : goal.numbered-requires-clause-many
numbered-requires-clause-many c =
    let g = goal_with c.args.arguments.now in
    let w = c.requires.wide g refl ∙ face_wide c.args.self.now c.args.arguments.now g refl in
    let n = c.as_slice.ensures.keys ∙ c.in_ok-names.ensures ∙ ap (λ cs. names_at cs c.args.arguments.now) c.deref.ensures.value in
    let m : count c.args.given.now.columns ≡ length c.columns.result.now = ap (λ ts. count ts) (sym c.columns.ensures.columns) ∙ count-trees_of c.columns.result.now in
    omega (arith, w, ap length n, m)

pub numbered-requires-clause-below : goal.numbered-requires-clause-below
numbered-requires-clause-below c = λ v i.
    let l = row_below c.args.given.now c.columns.ensures.row v (subst (λ ts. IsIn v (variables_all ts)) c.columns.ensures.columns i) in
    omega (arith, l, c.in_ok-count.ensures, ap length c.domains.ensures.domains, length-map c.domains.result.now set_by)

pub numbered-requires-clause-old : goal.numbered-requires-clause-old
numbered-requires-clause-old c = λ v i.
    let n = c.in_ok-names.ensures ∙ ap (λ cs. names_at cs c.args.arguments.now) c.deref.ensures.value in
    let l = name_below c.args.self.now c.requires.sound c.args.arguments.now c.in_ok-names.names.keys n v (subst (IsIn v) c.as_slice.ensures.keys i) in
    omega (arith, l, c.in_ok-first.ensures, ap length c.deref-2.ensures.value)

pub numbered-requires-clause-distinct : goal.numbered-requires-clause-distinct
numbered-requires-clause-distinct c =
    let n = c.in_ok-names.ensures ∙ ap (λ cs. names_at cs c.args.arguments.now) c.deref.ensures.value in
    subst (Distinct nat_eq) (sym c.as_slice.ensures.keys) (names_distinct c.args.self.now.columns.items c.args.arguments.now c.in_ok-names.names.keys n)

pub gather-requires : goal.gather-requires
gather-requires c = record {
  within = λ v i.
      let n = c.in_ok-names.ensures ∙ ap (λ cs. names_at cs c.args.arguments.now) c.deref.ensures.value in
      let l = name_below c.args.self.now c.requires.sound c.args.arguments.now c.in_ok-names.names.keys n v (subst (IsIn v) c.as_slice-2.ensures.keys i) in
      omega (arith, l, c.requires.sound.count);
}

pub renewed_at-requires-clause-many : goal.renewed_at-requires-clause-many
renewed_at-requires-clause-many c =
    let g = goal_with c.args.arguments.now in
    let w = c.requires.wide g refl ∙ face_wide c.args.self.now c.args.arguments.now g refl in
    let n = c.in_ok-names.ensures ∙ ap (λ cs. names_at cs c.args.arguments.now) c.deref.ensures.value in
    let m : count c.args.given.now.columns ≡ length c.columns-2.result.now = ap (λ ts. count ts) (sym c.columns-2.ensures.columns) ∙ count-trees_of c.columns-2.result.now in
    let t = ap length c.in_ok-terms.ensures ∙ length-map c.columns-2.result.now _ in
    omega (arith, w, ap length n, m, t)

pub renewed_at-requires-clause-places : goal.renewed_at-requires-clause-places
renewed_at-requires-clause-places c = λ k d l.
    let s = c.in_ok-touched.ensures.only (get_or c.as_slice-3.result.now k d) (in_has c.in_ok-touched.touched.keys (get_or c.as_slice-3.result.now k d) (subst (IsIn (get_or c.as_slice-3.result.now k d)) c.as_slice-3.ensures.keys (in_get c.as_slice-3.result.now k d l))) in
    subst (λ cs. get_or c.as_slice-3.result.now k d < length cs) (sym c.deref-5.ensures.value) (c.requires.sound.within s.0 (get_or c.as_slice-3.result.now k d) s.1)

changes : (c : goal.After-drop-fresh-2) → IsChange c.args.self.now c.args.arguments.now c.args.given.now (record { touched = c.in_ok-touched.touched; columns = c.in_ok-columns.columns; numbers = c.in_ok-numbers.numbers; domains = c.in_ok-domain_copies.field-0 })
changes c =
    let n = c.in_ok-names.ensures ∙ ap (λ cs. names_at cs c.args.arguments.now) c.deref.ensures.value in
    let d = ap length c.domains.ensures.domains in
    let numbers = numbers_by c.in_ok-first.first _ c.in_ok-count.count _ c.as_slice.result.now _ c.in_ok-numbers.numbers.items c.in_ok-numbers.ensures
    (c.in_ok-first.ensures ∙ ap length c.deref-2.ensures.value) (c.in_ok-count.ensures ∙ sym (length-map c.domains.result.now set_by) ∙ d) (c.as_slice.ensures.keys ∙ n) in
    let terms = terms_under c.args.given.now c.in_ok-numbers.numbers.items c.deref-4.result.now c.columns-2.result.now c.in_ok-terms.terms.items (c.deref-4.ensures.value ∙ c.in_ok-fresh.ensures ∙ ap (λ xs. map variable xs) c.deref-3.ensures.value) c.columns-2.ensures.columns c.in_ok-terms.ensures
    (λ w i. (let l = row_below c.args.given.now c.columns.ensures.row w i in omega (arith, l, numbers.many))) in
    record {
      touched = subst (λ ns. AreGathered c.args.self.now.places ns c.in_ok-touched.touched.keys) (c.as_slice-2.ensures.keys ∙ n) c.in_ok-touched.ensures;
      columns =
          c.in_ok-columns.ensures
          ∙ ap (λ ks. map (λ k. put (replacement c.in_ok-names.names.keys (trees_of c.in_ok-terms.terms.items)) (column_at c.deref-5.result.now k)) ks) c.as_slice-3.ensures.keys
          ∙ ap (λ cs. map (λ k. put (replacement c.in_ok-names.names.keys (trees_of c.in_ok-terms.terms.items)) (column_at cs k)) c.in_ok-touched.touched.keys) c.deref-5.ensures.value
          ∙ ap (λ ns. map (λ k. put (replacement ns (trees_of c.in_ok-terms.terms.items)) (column_at c.args.self.now.columns.items k)) c.in_ok-touched.touched.keys) n
          ∙ ap (λ ts. map (λ k. put (replacement (names_at c.args.self.now.columns.items c.args.arguments.now) ts) (column_at c.args.self.now.columns.items k)) c.in_ok-touched.touched.keys) terms;
      numbers = numbers;
      domains = ap (λ xs. sets_of xs) c.in_ok-domain_copies.ensures ∙ c.domains-2.ensures.domains;
    }

pub returns-clause-change : goal.returns-clause-change
returns-clause-change c = subst (λ t. IsChange c.args.self.now c.args.arguments.now c.args.given.now (record { touched = t; columns = c.in_ok-columns.columns; numbers = c.in_ok-numbers.numbers; domains = c.in_ok-domain_copies.field-0 })) (sym c.touched.view_is) (changes c)

pub returns-clause-meant : goal.returns-clause-meant
returns-clause-meant c = subst (λ t. IsMeant c.args.self.now (record { touched = t; columns = c.in_ok-columns.columns; numbers = c.in_ok-numbers.numbers; domains = c.in_ok-domain_copies.field-0 })) (sym c.touched.view_is) (meant c.args.self.now c.requires.sound c.args.arguments.now c.args.given.now c.columns.ensures.row _ (changes c))
