use Rattle.std.proofs.Common.{◌≡◌, true, false, ap, sym, ◌∙◌}
use Rattle.pp_algebra.specs.Canon.{has, place}
use Rattle.pp_algebra.specs.Texts.{same_text}
use Rattle.pp_row.proofs.Keys.{any_has, position_place, position_some, has_none}
use Rattle.pp_term.proofs.names.Names.find.Goals as goal
use Rattle.pp_algebra.proofs.SameText.{same_text-IsSame}

pub returns-in-Some : goal.returns-in-Some
returns-in-Some c =
    let h : has same_text c.args.self.now c.args.text.now ≡ true = ap (λ vs. has same_text vs c.args.text.now) (sym c.self.view_is) ∙ sym (any_has same_text same_text-IsSame (λ t. t.items) c.self.inside.texts.keys c.args.text.now) ∙ sym c.in-Some.ensures.found in
    (h, position_some _ c.self.inside.texts.keys c.in-Some.place c.in-Some.ensures.index ∙ position_place same_text same_text-IsSame (λ t. t.items) c.self.inside.texts.keys c.args.text.now ∙ ap (λ vs. place same_text vs c.args.text.now) c.self.view_is)

pub returns-in-None : goal.returns-in-None
returns-in-None c = ap (λ vs. has same_text vs c.args.text.now) (sym c.self.view_is) ∙ has_none same_text same_text-IsSame (λ t. t.items) c.self.inside.texts.keys c.args.text.now c.in-None.ensures.found
