use Rattle.std.proofs.Common.{length, get_or, arith, refl, sym, ap, ◌∙◌, subst, inl, inr}
use Rattle.std.specs.Prelude.{cond, nat_eq}
use Rattle.pp_algebra.specs.Canon.{has, place, Distinct}
use Rattle.pp_algebra.specs.Covers.{IsIn}
use Rattle.pp_algebra.specs.Rows.{domain_at}
use Rattle.pp_algebra.specs.Terms.{variables, variables_all}
use Rattle.pp_row.specs.Columns.{sets_of, trees_of}
use Rattle.pp_store.specs.Occurring.{Stands}
use Rattle.pp_store.specs.Patterns.{column_at}
use Rattle.pp_store.specs.Written.{written}
use Rattle.pp_store.proofs.Lists.{in_get}
use Rattle.pp_store.proofs.Opening.{longer_same, before_grown, noted, on_err}
use Rattle.pp_store.proofs.pattern.Pattern.make.Goals as goal

pub returns-in_err-grow-clause-err : goal.returns-in_err-grow-clause-err
returns-in_err-grow-clause-err c = on_err _ _ (before_grown c.args.self.now _ c.requires.sound refl (longer_same c.args.self.now.domains.items) c.in_err-grow.ensures.longer (omega (arith, c.requires.sound.count, c.in_err-grow.ensures.longer.count)))

pub returns-in_err-grow_domains-clause-err : goal.returns-in_err-grow_domains-clause-err
returns-in_err-grow_domains-clause-err c =
    let k = c.in_err-grow_domains.ensures.least (omega (arith, c.end_of-end.ensures.first, c.len.ensures)) in
    on_err _ _ (before_grown c.args.self.now _ c.requires.sound refl c.in_err-grow_domains.ensures.longer c.in_ok-grow.ensures.longer (omega (arith, k, c.in_ok-grow.ensures.count)))

pub add_all-requires-clause-within : goal.add_all-requires-clause-within
add_all-requires-clause-within c = λ v i. elim (c.requires.meant.known v (subst (λ ts. IsIn v (variables_all (trees_of ts))) c.deref-2.ensures.value i)) [
  | inl l ↦ omega (arith, l, c.requires.sound.count, c.in_ok-grow.ensures.longer.count)
  | inr j ↦ (let a = c.end_of-end.ensures.above v (subst (IsIn v) (sym c.deref.ensures.value) j) in omega (arith, a, c.in_ok-grow.ensures.count))
]

pub returns-in_err-add_all-clause-err : goal.returns-in_err-add_all-clause-err
returns-in_err-add_all-clause-err c =
    let k = c.in_ok-grow_domains.ensures.least (omega (arith, c.end_of-end.ensures.first, c.len.ensures)) in
    on_err _ _ (noted c.args.self.now (record { alloc = c.args.self.now.alloc; columns = c.args.self.now.columns; domains = c.grow_domains.new.domains; places = c.grow.new.self }) _ c.as_slice.result.now
    (before_grown c.args.self.now _ c.requires.sound refl c.in_ok-grow_domains.ensures.longer c.in_ok-grow.ensures.longer (omega (arith, k, c.in_ok-grow.ensures.count)))
    refl refl c.in_err-add_all.ensures.more (λ j i. c.requires.meant.touched j (subst (IsIn j) c.as_slice.ensures.keys i)))

pub write_terms-requires-clause-within : goal.write_terms-requires-clause-within
write_terms-requires-clause-within c = λ k d l. c.requires.meant.touched (get_or c.as_slice-2.result.now k d) (subst (IsIn (get_or c.as_slice-2.result.now k d)) c.as_slice-2.ensures.keys (in_get c.as_slice-2.result.now k d l))

pub write_terms-requires-clause-distinct : goal.write_terms-requires-clause-distinct
write_terms-requires-clause-distinct c = subst (Distinct nat_eq) (sym c.as_slice-2.ensures.keys) c.requires.meant.distinct

pub write_domains-requires-clause-within : goal.write_domains-requires-clause-within
write_domains-requires-clause-within c = λ k d l.
    let a = c.end_of-end.ensures.above (get_or c.deref-3.result.now k d) (subst (IsIn (get_or c.deref-3.result.now k d)) (c.deref-3.ensures.value ∙ sym c.deref.ensures.value) (in_get c.deref-3.result.now k d l)) in
    omega (arith, a, c.in_ok-grow_domains.ensures.count)

pub write_domains-requires-clause-distinct : goal.write_domains-requires-clause-distinct
write_domains-requires-clause-distinct c = subst (Distinct nat_eq) (sym c.deref-3.ensures.value) c.requires.meant.apart

pub returns-clause-made : goal.returns-clause-made
returns-clause-made c =
    let k = c.in_ok-grow_domains.ensures.least (omega (arith, c.end_of-end.ensures.first, c.len.ensures)) in
    let more = c.in_ok-add_all.ensures.more in
    record {
      count = c.write_terms.ensures.count;
      columns = λ j l. c.write_terms.ensures.written j l ∙ ap (λ ks. written ks (column_at c.args.change.columns.items) (column_at c.args.self.now.columns.items) j) c.as_slice-2.ensures.keys;
      domains = λ v.
          c.write_domains.ensures.written v
          ∙ ap (λ ks. written ks (domain_at (sets_of c.args.change.domains.items)) (domain_at (sets_of c.grow_domains.new.domains.items)) v) c.deref-3.ensures.value
          ∙ ap (λ d. cond (has nat_eq c.args.change.numbers.items v) (domain_at (sets_of c.args.change.domains.items) (place nat_eq c.args.change.numbers.items v)) d) (c.in_ok-grow_domains.ensures.longer.same v);
      longer = omega (arith, c.in_ok-grow_domains.ensures.longer.count, c.write_domains.ensures.count);
      room = λ v i. (let a = c.end_of-end.ensures.above v (subst (IsIn v) (sym c.deref.ensures.value) i) in omega (arith, a, c.in_ok-grow_domains.ensures.count, c.write_domains.ensures.count));
      known = omega (arith, k, c.write_domains.ensures.count, c.in_ok-grow.ensures.count, more.count);
      stays = λ v j s. more.stays v j (ap (λ ks. has nat_eq ks j) (c.in_ok-grow.ensures.longer.same v) ∙ s);
      added = λ i v l j. subst (λ ks. Stands c.add_all.new.places v (get_or ks i 0)) c.as_slice.ensures.keys
          (c.in_ok-add_all.ensures.added i v (omega (arith, l, c.requires.meant.columns, ap length c.deref-2.ensures.value)) (subst (λ ts. IsIn v (variables (column_at ts i))) (sym c.deref-2.ensures.value) j));
      only = λ v j s. elim (more.only v j s) [
        | inl t ↦ c.requires.sound.within v j (sym (ap (λ ks. has nat_eq ks j) (c.in_ok-grow.ensures.longer.same v)) ∙ t)
        | inr i ↦ c.requires.meant.touched j (subst (IsIn j) c.as_slice.ensures.keys i)
      ];
    }
