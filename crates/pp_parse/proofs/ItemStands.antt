-- An item that is read in front of parts stands there.
use Rattle.std.proofs.Common.{◌≡◌, true, false, List, [], ◌∷◌, ◌++◌, drop, Option, Some, None, refl, ap, ◌∙◌}
use Rattle.std.specs.Prelude.{Bool, ◌&&◌, cond}
use Rattle.std.proofs.lemmas.Bool.{and_parts, and_from}
use Rattle.std.proofs.lemmas.Option.{same_Some}
use Rattle.pp_sld.specs.Verdicts.{Mode, most, unique, consistent}
use Rattle.pp_language.specs.declared.token.Kind.{Kind}
use Rattle.pp_language.specs.declared.token.Kind.TheVariants.{Atom, Infers, Equals, InDomain, Less, AtMost, Equal, Differ}
use Rattle.pp_language.specs.Texts.{Text}
use Rattle.pp_algebra.specs.Texts.{same_text}
use Rattle.pp_language.specs.Words.{word}
use Rattle.pp_language.specs.Phrases.{Phrase, integer_phrase, variable_phrase, said, no_phrases, phrase_and, is_phrase, Part, term_part, mark}
use Rattle.pp_language.specs.PartsOf.{are_parts}
use Rattle.pp_language.specs.Statements.{SetPhrase, Item, equates, belongs, compares, set_parts, mode_text, item_parts, is_comparison, is_item}
use Rattle.pp_language.specs.Fronts.{Front, front_as, set_in, term_in, mode_named, plain_text, mode_by, mode_in, infer_by, infer_in, call_in, item_in}
use Rattle.pp_parse.proofs.Fronts.{Stands, set_stands}
use Rattle.pp_algebra.proofs.SameText.{same_text-is}

-- the parts are what is read and the parts behind it, and it is an item where the parts are well formed
pub record IsItemOf (ps : List Part) (x : Item) (rest : List Part) : Type 0 where
  pub stands : ps ≡ item_parts x ++ rest
  pub fits : are_parts ps ≡ true → is_item x ≡ true

abbrev pub ItemStands : List Part → Front Item → Type 0
ItemStands ps None = Unit {0}
ItemStands ps (Some r) = IsItemOf ps r.0 r.1

both_phrases : (a b r : Bool) → (a && (b && r)) ≡ true → (a && b) ≡ true
both_phrases a b r h = let k = and_parts a (b && r) h in and_from a b k.0 (and_parts b r k.1).0

call_stands : (p : Phrase) (ps : List Part) → ItemStands (term_part p ∷ ps) (call_in (term_part p ∷ ps))
call_stands (integer_phrase bs) ps = tt
call_stands (variable_phrase bs) ps = tt
call_stands (said w us) ps = record { stands = refl; fits = λ h. (and_parts (is_phrase (said w us)) (are_parts ps) h).0 }

equation_stands : (p : Phrase) (ps : List Part) → ItemStands (term_part p ∷ mark Equals ∷ ps) (front_as (equates p) (term_in ps))
equation_stands p [] = tt
equation_stands p (mark k ∷ ps) = tt
equation_stands p (term_part q ∷ ps) = record { stands = refl; fits = both_phrases (is_phrase p) (is_phrase q) (are_parts ps) }

membership_stands : (p : Phrase) (ps : List Part) (r : Front SetPhrase) → Stands set_parts ps r → ItemStands (term_part p ∷ mark InDomain ∷ ps) (front_as (belongs p) r)
membership_stands p ps None h = tt
membership_stands p ps (Some r) h = record { stands = ap (λ us. term_part p ∷ mark InDomain ∷ us) h; fits = λ g. (and_parts (is_phrase p) (are_parts ps) g).0 }

comparison_stands : (k : Kind) (p : Phrase) (ps : List Part) → is_comparison k ≡ true → (are_parts (mark k ∷ ps) ≡ true → are_parts ps ≡ true)
    → ItemStands (term_part p ∷ mark k ∷ ps) (front_as (compares k p) (term_in ps))
comparison_stands k p [] h g = tt
comparison_stands k p (mark l ∷ ps) h g = tt
comparison_stands k p (term_part q ∷ ps) h g = record {
  stands = refl;
  fits = λ e.
      let a = and_parts (is_phrase p) (are_parts (mark k ∷ term_part q ∷ ps)) e in
      and_from (is_comparison k && is_phrase p) (is_phrase q) (and_from (is_comparison k) (is_phrase p) h a.0) (and_parts (is_phrase q) (are_parts ps) (g a.1)).0;
}

-- the text is that of the mode that it names
mode_is : (bs : Text) (m : Mode) → mode_named bs ≡ Some m → bs ≡ mode_text m
mode_is bs m = go (same_text bs (mode_text most)) (same_text bs (mode_text unique)) (same_text bs (mode_text consistent)) (same_text-is bs (mode_text most)) (same_text-is bs (mode_text unique)) (same_text-is bs (mode_text consistent))
  where
    go : (a b c : Bool) → (a ≡ true → bs ≡ mode_text most) → (b ≡ true → bs ≡ mode_text unique) → (c ≡ true → bs ≡ mode_text consistent)
        → cond a (Some most) (cond b (Some unique) (cond c (Some consistent) None)) ≡ Some m → bs ≡ mode_text m
    go true b c f g h e = f refl ∙ ap mode_text (same_Some most m e)
    go false true c f g h e = g refl ∙ ap mode_text (same_Some unique m e)
    go false false true f g h e = h refl ∙ ap mode_text (same_Some consistent m e)
    go false false false f g h e = absurd (cc (e))

-- the atom that names a mode
mode_front : (ps : List Part) (m : Mode) → mode_in ps ≡ Some m → ps ≡ term_part (said (word Atom (mode_text m)) no_phrases) ∷ drop 1 ps
mode_front [] m e = absurd (cc (e))
mode_front (mark k ∷ ps) m e = absurd (cc (e))
mode_front (term_part (integer_phrase bs) ∷ ps) m e = absurd (cc (e))
mode_front (term_part (variable_phrase bs) ∷ ps) m e = absurd (cc (e))
mode_front (term_part (said w (phrase_and p us)) ∷ ps) m e = absurd (cc (e))
mode_front (term_part (said w no_phrases) ∷ ps) m e = go w.kind refl e
  where
    go : (k : Kind) → w.kind ≡ k → mode_by (plain_text k w.text) ≡ Some m → term_part (said w no_phrases) ∷ ps ≡ term_part (said (word Atom (mode_text m)) no_phrases) ∷ ps
    go Atom f g = ap (λ k. term_part (said (word k w.text) no_phrases) ∷ ps) f ∙ ap (λ bs. term_part (said (word Atom bs) no_phrases) ∷ ps) (mode_is w.text m g)
    go k f g = absurd (cc (g))

goal_stands : (p : Phrase) (ps : List Part) → ItemStands (term_part p ∷ mark Infers ∷ ps) (infer_in (term_part p ∷ mark Infers ∷ ps))
goal_stands (integer_phrase bs) ps = tt
goal_stands (variable_phrase bs) ps = tt
goal_stands (said w us) ps = go (mode_in ps) refl
  where
    go : (o : Option Mode) → mode_in ps ≡ o → ItemStands (term_part (said w us) ∷ mark Infers ∷ ps) (infer_by (Some (said w us, mark Infers ∷ ps)) o (drop 1 ps))
    go None e = tt
    go (Some m) e = record {
      stands = ap (λ qs. term_part (said w us) ∷ mark Infers ∷ qs) (mode_front ps m e);
      fits = λ h. (and_parts (is_phrase (said w us)) (are_parts ps) h).0;
    }

pub item_stands : (ps : List Part) → ItemStands ps (item_in ps)
item_stands [] = tt
item_stands (mark k ∷ ps) = tt
item_stands (term_part p ∷ mark Equals ∷ ps) = equation_stands p ps
item_stands (term_part p ∷ mark InDomain ∷ ps) = membership_stands p ps (set_in ps) (set_stands ps)
item_stands (term_part p ∷ mark Infers ∷ ps) = goal_stands p ps
item_stands (term_part p ∷ mark Less ∷ ps) = comparison_stands Less p ps refl (λ h. h)
item_stands (term_part p ∷ mark AtMost ∷ ps) = comparison_stands AtMost p ps refl (λ h. h)
item_stands (term_part p ∷ mark Equal ∷ ps) = comparison_stands Equal p ps refl (λ h. h)
item_stands (term_part p ∷ mark Differ ∷ ps) = comparison_stands Differ p ps refl (λ h. h)
item_stands (term_part p ∷ ps) = call_stands p ps
