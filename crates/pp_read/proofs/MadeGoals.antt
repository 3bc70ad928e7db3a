-- The goals that the code makes of the items of a body are those that the items write.
use Rattle.std.proofs.Common.{◌≡◌, ℕ, ◌+◌, true, ◌&&◌, cond, nat_eq, List, [], ◌∷◌, ◌++◌, drop, refl, ap, sym, ◌∙◌, subst, arith}
use Rattle.std.specs.Prelude.{All, codes}
use Rattle.std.proofs.lemmas.Bool.{and_parts}
use Rattle.std.proofs.lemmas.List.Elements.{All-head}
use Rattle.pp_algebra.specs.Terms as terms
use Rattle.pp_algebra.specs.Terms.{Trees, none, more}
use Rattle.pp_algebra.specs.Canon.{has, place}
use Rattle.pp_sld.specs.BuiltIns.{plus, times, indomain}
use Rattle.pp_sld.specs.Goals.{Predicate, Shape, user, equals, member, test, Goal}
use Rattle.pp_row.specs.Cells.{cells_of}
use Rattle.pp_language.specs.declared.token.Kind.{Kind}
use Rattle.pp_language.specs.declared.token.Kind.TheVariants.{Atom, Quoted, Equals, InDomain}
use Rattle.pp_language.specs.Texts.{Text}
use Rattle.pp_algebra.specs.Texts.{same_text}
use Rattle.pp_language.specs.Words.{Word, is_name_kind, atom_of}
use Rattle.pp_language.specs.Phrases as phrases
use Rattle.pp_language.specs.Phrases.{Phrase, integer_phrase, variable_phrase, said, Phrases, count, are_phrases, term_part, mark, group_words}
use Rattle.pp_language.specs.Statements.{Item, calls, equates, belongs, compares, asks, set_parts, item_parts, is_item, is_body_item}
use Rattle.pp_language.specs.Meanings as meanings
use Rattle.pp_language.specs.Meanings.{texts_by, blanks, item_phrases, goal_by, predicate_by}
use Rattle.pp_parse.specs.declared.parts.Part.{Part}
use Rattle.pp_parse.specs.declared.items.Entry.{Entry}
use Rattle.pp_parse.specs.Words.{texts_in}
use Rattle.pp_parse.specs.Terms.{term_of, terms_of}
use Rattle.pp_parse.specs.Parts.{AreParts}
use Rattle.pp_build.specs.Pieces.{tree_at, IsAtom, predicate_of_tree}
use Rattle.pp_build.specs.Values.{shape_by, goal_of_tree, goal_from, HasCallableAt, IsGoalEntry}
use Rattle.pp_parse.specs.Layouts.{IsEntry}
use Rattle.pp_parse.proofs.KnownTexts.{Known}
use Rattle.pp_parse.proofs.NamePlaces.{name-place, place-within}
use Rattle.pp_parse.proofs.ReadingLeaves.{terms-count}
use Rattle.pp_read.proofs.PartsAt.{get_drop, HasCells, term_first, term_third, Stands, stands, IsGood, AreGood}

-- ===== shapes

abbrev shape_at : Text → Predicate → Shape
shape_at name p =
    cond (same_text name (codes "plus") && nat_eq p.arity 3) (test plus)
    (cond (same_text name (codes "times") && nat_eq p.arity 3) (test times)
    (cond (same_text name (codes "indomain") && nat_eq p.arity 1) (test indomain) (user p)))

abbrev make_predicate : ℕ → ℕ → Predicate
make_predicate f k = record { name = f; arity = k }

abbrev pub make_goal : Shape → Trees ℕ → Goal ℕ
make_goal s ts = record { shape = s; arguments = ts }

name_known : (names rest : List Text) (k : Kind) (bs : Text) → is_name_kind k ≡ true → All (Known names) (texts_by k bs ++ rest) → has same_text names (atom_of k bs) ≡ true
name_known names rest Atom bs h a = All-head (Known names) bs rest a
name_known names rest Quoted bs h a = All-head (Known names) (atom_of Quoted bs) rest a
name_known names rest _ bs h a = absurd (cc)

pub known_name : (names : List Text) (w : Word) (us : Phrases) → is_name_kind w.kind ≡ true → IsGood names (term_part (said w us)) → has same_text names (atom_of w.kind w.text) ≡ true
known_name names w us h g = name_known names (texts_in (group_words us)) w.kind w.text h g.known

module _ (names named : List Text) where
  pub said_shape_is : (n : ℕ) (w : Word) (us : Phrases) → has same_text names (atom_of w.kind w.text) ≡ true → shape_by names (predicate_of_tree (term_of names named n (said w us))) ≡ meanings.shape_by names w us
  said_shape_is n w us h =
      ap (λ x. shape_at x (make_predicate (place same_text names (atom_of w.kind w.text)) (terms.count (terms_of names named n us)))) (name-place names (atom_of w.kind w.text) h)
      ∙ ap (λ k. shape_at (atom_of w.kind w.text) (make_predicate (place same_text names (atom_of w.kind w.text)) k)) (terms-count names named n us)

  pub said_predicate_is : (n : ℕ) (w : Word) (us : Phrases) → predicate_of_tree (term_of names named n (said w us)) ≡ predicate_by names w us
  said_predicate_is n w us = ap (make_predicate (place same_text names (atom_of w.kind w.text))) (terms-count names named n us)

  -- an atom with its arguments, as a goal
  pub record IsCalled (ps : List Part) (a n : ℕ) (w : Word) (us : Phrases) : Type 0 where
    pub callable : HasCallableAt names ps a
    pub goal : goal_of_tree names (tree_at ps a) ≡ make_goal (meanings.shape_by names w us) (terms_of names named n us)

  pub called : (ps : List Part) (a n : ℕ) (w : Word) (us : Phrases) → has same_text names (atom_of w.kind w.text) ≡ true → Stands names named ps a n (said w us) → IsCalled ps a n w us
  called ps a n w us h s = record {
    callable = record {
      term = s.term;
      atom = subst IsAtom (sym s.tree) tt;
      name = let e = ap (λ t. (predicate_of_tree t).name) s.tree in let l = place-within names (atom_of w.kind w.text) h in omega arith;
    };
    goal = ap (goal_of_tree names) s.tree ∙ ap (λ x. make_goal x (terms_of names named n us)) (said_shape_is n w us h);
  }

  -- ===== items

  module _ (ps : List Part) where
    pub phrase_stands : (i n w : ℕ) (p : Phrase) (qs : List phrases.Part) → AreParts names named n w (term_part p ∷ qs) (drop i ps) → IsGood names (term_part p) → Stands names named ps i n p
    phrase_stands i n w p qs a g =
        let z : i ≡ i + 0 = omega arith in
        stands names named ps i n p g.spelled g.narrow (subst (λ o. HasCells names named o (cells_of (term_of names named n p))) (get_drop ps i 0 i z) (term_first names named n w p qs (drop i ps) a))

    pub second_stands : (i n w : ℕ) (p q : Phrase) (k : Kind) (qs : List phrases.Part) → AreParts names named n w (term_part p ∷ mark k ∷ term_part q ∷ qs) (drop i ps) → IsGood names (term_part q) → Stands names named ps (i + 2) (n + blanks p) q
    second_stands i n w p q k qs a g =
        stands names named ps (i + 2) (n + blanks p) q g.spelled g.narrow (subst (λ o. HasCells names named o (cells_of (term_of names named (n + blanks p) q))) (get_drop ps i 2 (i + 2) refl) (term_third names named n (n + blanks p) w p q k qs (drop i ps) refl a))

    abbrev pub two_terms : ℕ → Phrase → Phrase → Trees ℕ
    two_terms n p q = more (term_of names named n p) (more (term_of names named (n + blanks p) q) none)

    pub two_stand : (i n w : ℕ) (p q : Phrase) (k : Kind) (qs : List phrases.Part) → AreParts names named n w (term_part p ∷ mark k ∷ term_part q ∷ qs) (drop i ps) → AreGood names (term_part p ∷ mark k ∷ term_part q ∷ []) → Stands names named ps i n p × Stands names named ps (i + 2) (n + blanks p) q
    two_stand i n w p q k qs h g = (phrase_stands i n w p (mark k ∷ term_part q ∷ qs) h g.0, second_stands i n w p q k qs h g.1.1.0)

    pub pair_is : (i n : ℕ) (p q : Phrase) → Stands names named ps i n p × Stands names named ps (i + 2) (n + blanks p) q → more (tree_at ps i) (more (tree_at ps (i + 2)) none) ≡ two_terms n p q
    pair_is i n p q t = ap (λ x. more x (more (tree_at ps (i + 2)) none)) t.0.tree ∙ ap (λ x. more (term_of names named n p) (more x none)) t.1.tree

    -- the goal of an item of a body
    pub goal_made : (x : Item) (e : Entry) (i n w : ℕ) (rest : List phrases.Part) → is_item x ≡ true → is_body_item x ≡ true → IsEntry i x e → AreParts names named n w (item_parts x ++ rest) (drop i ps) → AreGood names (item_parts x)
        → IsGoalEntry names ps e × (goal_from names ps e ≡ goal_by names x (terms_of names named n (item_phrases x)))
    goal_made (calls (integer_phrase bs)) e i n w rest h b s q g = absurd (cc)
    goal_made (calls (variable_phrase bs)) e i n w rest h b s q g = absurd (cc)
    goal_made (calls (said v us)) e i n w rest h b s q g =
        let name = and_parts (is_name_kind v.kind) (are_phrases us) h in
        let c = called ps i n v us (known_name names v us name.0 g.0) (phrase_stands i n w (said v us) rest q g.0) in
        rw s (c.callable, c.goal)
    goal_made (equates p r) e i n w rest h b s q g =
        let t = two_stand i n w p r Equals rest q g in
        rw s ((t.0.term, t.1.term), ap (make_goal equals) (pair_is i n p r t))
    goal_made (belongs p d) e i n w rest h b s q g =
        let t = phrase_stands i n w p (mark InDomain ∷ set_parts d ++ rest) q g.0 in
        rw s.1 (
          t.term,
          ap (λ x. make_goal (member x) (more (tree_at ps i) none)) s.2 ∙ ap (λ x. make_goal (member (meanings.set_by d)) (more x none)) t.tree,
        )
    goal_made (compares k p r) e i n w rest h b s q g =
        let t = two_stand i n w p r k rest q g in
        rw s.1 (
          (t.0.term, t.1.term),
          ap (λ x. make_goal (test x) (more (tree_at ps i) (more (tree_at ps (i + 2)) none))) s.2 ∙ ap (make_goal (test (meanings.relation_of k))) (pair_is i n p r t),
        )
    goal_made (asks p m) e i n w rest h b s q g = absurd (cc (b))
