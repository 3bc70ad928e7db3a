-- The items that the code makes of a query are those that the query writes.
use Rattle.std.proofs.Common.{◌≡◌, ℕ, ◌+◌, true, List, ◌∷◌, ◌++◌, drop, ap, ◌∙◌}
use Rattle.std.proofs.lemmas.Bool.{and_parts}
use Rattle.pp_algebra.specs.Solve.{equation, membership}
use Rattle.pp_language.specs.declared.token.Kind.TheVariants.{Atom, Infers, Equals, InDomain}
use Rattle.pp_language.specs.Texts.{Text}
use Rattle.pp_language.specs.Programs.{solves, infers}
use Rattle.pp_language.specs.Words.{word, is_name_kind}
use Rattle.pp_language.specs.Phrases as phrases
use Rattle.pp_language.specs.Phrases.{integer_phrase, variable_phrase, said, no_phrases, are_phrases, term_part, mark}
use Rattle.pp_language.specs.Statements.{Item, calls, equates, belongs, compares, asks, mode_text, set_parts, item_parts, is_item, is_query_item}
use Rattle.pp_language.specs.Meanings as meanings
use Rattle.pp_language.specs.Meanings.{item_phrases, item_by}
use Rattle.pp_parse.specs.declared.parts.Part.{Part}
use Rattle.pp_parse.specs.declared.items.Entry.{Entry}
use Rattle.pp_parse.specs.Terms.{term_of, terms_of}
use Rattle.pp_parse.specs.Parts.{AreParts}
use Rattle.pp_build.specs.Pieces.{tree_at}
use Rattle.pp_build.specs.Values.{goal_of_tree, item_from, IsItemEntry}
use Rattle.pp_parse.specs.Layouts.{IsEntry}
use Rattle.pp_read.proofs.MadeGoals.{known_name, called, phrase_stands, two_stand}
use Rattle.pp_read.proofs.PartsAt.{AreGood}

module _ (names named : List Text) (ps : List Part) where
  pub query_made : (x : Item) (e : Entry) (i n w : ℕ) (rest : List phrases.Part) → is_item x ≡ true → is_query_item x ≡ true → IsEntry i x e → AreParts names named n w (item_parts x ++ rest) (drop i ps) → AreGood names (item_parts x)
      → IsItemEntry names ps e × (item_from names ps e ≡ item_by names x (terms_of names named n (item_phrases x)))
  query_made (calls p) e i n w rest h b s q g = absurd (cc (b))
  query_made (compares k p r) e i n w rest h b s q g = absurd (cc (b))
  query_made (equates p r) e i n w rest h b s q g =
      let t = two_stand names named ps i n w p r Equals rest q g in
      rw s ((t.0.term, t.1.term), ap (λ x. solves (equation x (tree_at ps (i + 2)))) t.0.tree ∙ ap (λ x. solves (equation (term_of names named n p) x)) t.1.tree)
  query_made (belongs p d) e i n w rest h b s q g =
      let t = phrase_stands names named ps i n w p (mark InDomain ∷ set_parts d ++ rest) q g.0 in
      rw s.1 (t.term, ap (λ x. solves (membership (tree_at ps i) x)) s.2 ∙ ap (λ x. solves (membership x (meanings.set_by d))) t.tree)
  query_made (asks (integer_phrase bs) m) e i n w rest h b s q g = absurd (cc)
  query_made (asks (variable_phrase bs) m) e i n w rest h b s q g = absurd (cc)
  query_made (asks (said v us) m) e i n w rest h b s q g =
      let name = and_parts (is_name_kind v.kind) (are_phrases us) h in
      let behind = mark Infers ∷ term_part (said (word Atom (mode_text m)) no_phrases) ∷ rest in
      let c = called names named ps i n v us (known_name names v us name.0 g.0) (phrase_stands names named ps i n w (said v us) behind q g.0) in
      rw s.1 (c.callable, ap (λ x. infers (goal_of_tree names (tree_at ps i)) x) s.2 ∙ ap (λ x. infers x m) c.goal)
