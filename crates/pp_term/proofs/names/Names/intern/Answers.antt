use Rattle.std.proofs.Common.{◌≡◌, ◌∷◌, [], map, length, true, ap, sym, ◌∙◌, arith, subst, refl, rules, ◌+◌, ◌<◌, ◌^◌, length-append}
use Rattle.std.proofs.Math.ListN.{length-map}
use Rattle.pp_algebra.specs.Canon.{has, place, firsts, Distinct}
use Rattle.pp_algebra.proofs.OneCanon.{distinct_push}
use Rattle.pp_algebra.specs.Texts.{same_text}
use Rattle.pp_row.proofs.Keys.{any_has, position_place, position_some, has_none, taken_new, firsts_new, place_new}
use Rattle.pp_term.proofs.names.Names.intern.Goals as goal
use Rattle.pp_algebra.proofs.SameText.{same_text-IsSame, same_text-itself}

pub returns-in-Some-clause-names : goal.returns-in-Some-clause-names
returns-in-Some-clause-names c =
    let h : has same_text c.args.self.now c.args.text.now ≡ true = ap (λ vs. has same_text vs c.args.text.now) (sym c.self.view_is) ∙ sym (any_has same_text same_text-IsSame (λ t. t.items) c.self.inside.texts.keys c.args.text.now) ∙ sym c.in-Some.ensures.found in
    rw h refl

pub returns-in-Some-clause-number : goal.returns-in-Some-clause-number
returns-in-Some-clause-number c =
    position_some _ c.self.inside.texts.keys c.in-Some.place c.in-Some.ensures.index ∙ position_place same_text same_text-IsSame (λ t. t.items) c.self.inside.texts.keys c.args.text.now ∙ ap (λ vs. place same_text vs c.args.text.now) c.self.view_is

pub invariant_of-self-in-None : goal.invariant_of-self-in-None
invariant_of-self-in-None c =
    let old = c.self.inside.texts.keys in
    let text = c.args.text.now in
    let new = taken_new same_text same_text-IsSame (λ t. t.items) old c.insert.new.self.keys c.in_ok-from_slice-in-None.field-0 text c.in_ok-from_slice-in-None.ensures.items c.in-None.ensures.found c.in_ok-insert-in-None.ensures.keys in
    let none = has_none same_text same_text-IsSame (λ t. t.items) old text c.in-None.ensures.found in
    let small : length old < 2 ^ 32 = search rules in (
      subst (Distinct same_text) (sym new) (distinct_push same_text same_text-IsSame (map (λ t. t.items) old) text c.self.invariant.0 none),
      (let l : length c.insert.new.self.keys ≡ length old + 1 = sym (length-map c.insert.new.self.keys (λ t. t.items)) ∙ ap length new ∙ length-append (map (λ t. t.items) old) (text ∷ []) ∙ ap (λ n. n + 1) (length-map old (λ t. t.items)) in omega arith),
    )

pub returns-in_ok-insert-in-None-clause-names : goal.returns-in_ok-insert-in-None-clause-names
returns-in_ok-insert-in-None-clause-names c =
    let old = c.self.inside.texts.keys in
    let text = c.args.text.now in
    let new = taken_new same_text same_text-IsSame (λ t. t.items) old c.insert.new.self.keys c.in_ok-from_slice-in-None.field-0 text c.in_ok-from_slice-in-None.ensures.items c.in-None.ensures.found c.in_ok-insert-in-None.ensures.keys in
    let none = has_none same_text same_text-IsSame (λ t. t.items) old text c.in-None.ensures.found in
    new ∙ sym (firsts_new same_text (map (λ t. t.items) old) text none) ∙ ap (λ ts. firsts same_text ts (text ∷ [])) c.self.view_is

pub returns-in_ok-insert-in-None-clause-number : goal.returns-in_ok-insert-in-None-clause-number
returns-in_ok-insert-in-None-clause-number c =
    let old = c.self.inside.texts.keys in
    let text = c.args.text.now in
    let new = taken_new same_text same_text-IsSame (λ t. t.items) old c.insert.new.self.keys c.in_ok-from_slice-in-None.field-0 text c.in_ok-from_slice-in-None.ensures.items c.in-None.ensures.found c.in_ok-insert-in-None.ensures.keys in
    let none = has_none same_text same_text-IsSame (λ t. t.items) old text c.in-None.ensures.found in
    let e : c.in_ok-number-in-None.number ≡ length old = search rules in
    e ∙ sym (length-map old (λ t. t.items)) ∙ sym (place_new same_text (map (λ t. t.items) old) text (same_text-itself text) none) ∙ ap (λ ts. place same_text ts text) (sym new)
