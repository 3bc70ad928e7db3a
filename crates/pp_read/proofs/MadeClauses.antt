-- The clause that the code makes is the one that the statement writes, and it is well formed.
use Rattle.std.proofs.Common.{◌≡◌, ℕ, ◌+◌, true, ◌&&◌, List, [], ◌∷◌, length, map, refl, ap, sym, ◌∙◌, subst, arith}
use Rattle.std.specs.Prelude.{All, Bool, false, nat_eq}
use Rattle.std.specs.List.{list_all, list_any}
use Rattle.std.proofs.lemmas.Bool.{and_parts, and_from}
use Rattle.std.proofs.lemmas.List.Elements.{All-head, All-tail}
use Rattle.pp_algebra.specs.Canon.{firsts}
use Rattle.pp_algebra.specs.Least.{arguments}
use Rattle.pp_sld.specs.Goals as goals
use Rattle.pp_language.specs.Texts.{Text}
use Rattle.pp_language.specs.Keys.{same_key, texts_of}
use Rattle.pp_language.specs.Phrases.{Phrase, integer_phrase, variable_phrase, said, is_phrase, are_phrases, parts_words}
use Rattle.pp_language.specs.Statements.{Item, calls, equates, belongs, compares, asks, clause, statement_parts, is_callable, is_head, is_item, is_body_item, is_comparison}
use Rattle.pp_language.specs.Meanings.{blanks_all, said_arguments, item_phrases, head_predicate, clause_by, predicate_by}
use Rattle.pp_term.specs.declared.clause.Clause.{Clause}
use Rattle.pp_term.specs.declared.pred.Shape.TheVariants.{User}
use Rattle.pp_row.specs.Columns.{trees_of}
use Rattle.pp_term.specs.Meanings.{predicate_of, goal_of, clause_of}
use Rattle.pp_term.specs.WellFormed.{IsClause, AreArguments}
use Rattle.pp_parse.specs.declared.parts.Part.{Part}
use Rattle.pp_parse.specs.declared.items.Entry.{Entry}
use Rattle.pp_parse.specs.Terms.{terms_of}
use Rattle.pp_build.specs.Pieces.{tree_at, predicate_of_tree}
use Rattle.pp_build.specs.Values.{goal_from}
use Rattle.pp_build.specs.Renumbered.{clause_variables, placed, renumbered}
use Rattle.pp_build.proofs.RenumberedClauses.{variables_of_clause, meaning, clause_with, clause-put, renumbered_formed}
use Rattle.pp_read.specs.Passed.{is_wide}
use Rattle.pp_read.specs.Sizes.{variables_of, IsCounted}
use Rattle.pp_parse.specs.Parsed.{IsKnown}
use Rattle.pp_parse.specs.Layouts.{AreEntries}
use Rattle.pp_parse.proofs.KnownTexts.{Known, firsts_known}
use Rattle.pp_read.proofs.ListKeys.{list_keys, list_blanks, list_terms}
use Rattle.pp_parse.proofs.Spelled.{spelled_all}
use Rattle.pp_read.proofs.PartsAt.{parts_wide, good_all}
use Rattle.pp_parse.proofs.ReadingLeaves.{terms-count}
use Rattle.pp_read.proofs.MadeStatements.{clause_lists, head_callable, clause_keys, clause_named, clause_counted, ClauseMade, clause_made, make_pair, make_clause, numbered_clause, parsed_keys, clause_is}
use Rattle.pp_read.proofs.Counted.{keys, has_place, has_named_place, variables_counted}
use Rattle.pp_read.proofs.NumberedAgain.{clause_again}
use Rattle.pp_read.proofs.WellMade.{Below, lists_below, call_made, goals_made}

callable_arguments : (p : Phrase) → is_callable p ≡ true → are_phrases (said_arguments p) ≡ true
callable_arguments (integer_phrase bs) h = refl
callable_arguments (variable_phrase bs) h = refl
callable_arguments (said w us) h = (and_parts _ (are_phrases us) h).1

two_are : (a b : Bool) → a ≡ true → b ≡ true → (a && (b && true)) ≡ true
two_are a b h g = and_from a (b && true) h (and_from b true g refl)

item_are : (x : Item) → is_item x ≡ true → are_phrases (item_phrases x) ≡ true
item_are (calls p) h = callable_arguments p h
item_are (equates p q) h = let i = and_parts (is_phrase p) (is_phrase q) h in two_are (is_phrase p) (is_phrase q) i.0 i.1
item_are (belongs p s) h = and_from (is_phrase p) true h refl
item_are (compares k p q) h =
    let i = and_parts (is_comparison k && is_phrase p) (is_phrase q) h in
    two_are (is_phrase p) (is_phrase q) (and_parts (is_comparison k) (is_phrase p) i.0).1 i.1
item_are (asks p m) h = callable_arguments p h

pub items_are : (is : List Item) → list_all is_item is ≡ true → list_all are_phrases (map item_phrases is) ≡ true
items_are [] h = refl
items_are (i ∷ is) h = let k = and_parts (is_item i) (list_all is_item is) h in and_from (are_phrases (item_phrases i)) (list_all are_phrases (map item_phrases is)) (item_are i k.0) (items_are is k.1)

module _ (names named : List Text) (count : ℕ) (ps : List Part) (p : Phrase) (is : List Item) (h : is_head p ≡ true) (g : list_all is_item is ≡ true) (k : IsKnown names named count (statement_parts (clause p is)) ps) where
  -- where no atom is too wide
  pub clause_parts : (es : List Entry) → list_all is_body_item is ≡ true → list_any is_wide ps ≡ false → AreEntries 2 is es → ClauseMade names named ps p is es
  clause_parts es d w s =
      let qs = statement_parts (clause p is) in
      clause_made names named ps p is es (head_callable p h) g d s k.are (good_all names qs k.known (spelled_all (parts_words qs) k.spelled) (sym (parts_wide names named (length named) 0 qs ps k.are) ∙ w))

  clause_below : All (Below (length named + count)) (list_terms names named (length named) (clause_lists p is))
  clause_below =
      let pss = clause_lists p is in
      let forms = and_from (are_phrases (said_arguments p)) (list_all are_phrases (map item_phrases is)) (callable_arguments p (head_callable p h)) (items_are is g) in
      let known : All (Known named) (texts_of (list_keys names 0 pss)) = subst (λ xs. All (Known xs) (texts_of (list_keys names 0 pss))) (sym (clause_named names named count ps p is h g k)) (firsts_known (texts_of (list_keys names 0 pss))) in
      let size : count ≡ list_blanks pss = clause_counted names named count ps p is h g k in
      lists_below names named (length named + count) (omega arith) 0 (length named) pss forms known (omega arith)

  record IsParsed (c : Clause) : Type 0 where
    value : clause_of c ≡ make_pair (head_predicate names p) (numbered_clause names p is (parsed_keys names p is))
    formed : IsClause c
    counted : IsCounted c

  clause_parsed : (es : List Entry) (c : Clause) → ClauseMade names named ps p is es → predicate_of c.pred ≡ predicate_of_tree (tree_at ps 0) → trees_of c.head ≡ arguments (tree_at ps 0) → map goal_of c.body ≡ map (goal_from names ps) es → c.vars ≡ length named + count → IsParsed c
  clause_parsed es c m pred head body vars =
      let n = length named in
      let b = blanks_all (said_arguments p) in
      let us = terms_of names named n (said_arguments p) in
      let rest = list_terms names named (n + b) (map item_phrases is) in
      let value = ap (λ x. make_pair x (make_clause (trees_of c.head) (map goal_of c.body))) (pred ∙ m.pred)
      ∙ ap (λ x. make_pair (head_predicate names p) (make_clause x (map goal_of c.body))) (head ∙ m.args)
      ∙ ap (λ x. make_pair (head_predicate names p) (make_clause us x)) (body ∙ m.goals)
      ∙ clause_is names named count p is (clause_keys names named count ps p is h g k)
      in
      let below = subst (λ v. All (Below v) (list_terms names named n (clause_lists p is))) (sym vars) clause_below in
      record {
        value = value;
        counted = vars ∙ sym (clause_keys names named count ps p is h g k).counted ∙ sym (variables_counted names p is (parsed_keys names p is) (has_named_place (keys names p is))) ∙ ap (λ x. length (firsts nat_eq [] (variables_of x.1))) (sym value);
        formed = record {
          head = head_formed p (head_callable p h) c (pred ∙ m.pred) (head ∙ m.args) (All-head (Below c.vars) us rest below);
          body = goals_made names named c.vars c.body is (n + b) (body ∙ m.goals) (All-tail (Below c.vars) us rest below);
        };
      }
    where
      head_formed : (q : Phrase) → is_callable q ≡ true → (d : Clause) → predicate_of d.pred ≡ head_predicate names q → trees_of d.head ≡ terms_of names named (length named) (said_arguments q) → Below d.vars (terms_of names named (length named) (said_arguments q)) → AreArguments d.vars (User d.pred) d.head
      head_formed (integer_phrase bs) s d e f l = absurd (cc)
      head_formed (variable_phrase bs) s d e f l = absurd (cc)
      head_formed (said w us) s d e f l = call_made d.vars (User d.pred) d.head (goals.user (predicate_by names w us)) (terms_of names named (length named) us) (ap goals.user e) f (sym (terms-count names named (length named) us)) l

  pub record IsWritten (c : Clause) : Type 0 where
    pub value : clause_of c ≡ clause_by names p is
    pub formed : IsClause c
    pub counted : IsCounted c

  renumbered_written : (c : Clause) → IsParsed c → c.vars ≡ length named + count → IsWritten (renumbered c)
  renumbered_written c w vars =
      let all = keys names p is in
      let same = variables_of_clause c in
      let value =
      clause-put (placed (firsts nat_eq [] (clause_variables c))) c
      ∙ ap (λ vs. meaning (predicate_of c.pred) (clause_with (placed (firsts nat_eq [] vs)) (clause_of c).1)) same
      ∙ ap (λ x. meaning x.0 (clause_with (placed (firsts nat_eq [] (variables_of x.1))) x.1)) w.value
      ∙ ap (meaning (head_predicate names p)) (clause_again names p is (parsed_keys names p is) (has_named_place all))
      in
      record {
        value = value;
        formed = renumbered_formed c w.formed (w.counted ∙ ap (λ vs. length (firsts nat_eq [] vs)) (sym same));
        counted = vars ∙ sym (clause_keys names named count ps p is h g k).counted ∙ sym (variables_counted names p is (firsts same_key [] all) (has_place all)) ∙ ap (λ x. length (firsts nat_eq [] (variables_of x.1))) (sym value);
      }

  pub clause_written : (es : List Entry) (c : Clause) → ClauseMade names named ps p is es → predicate_of c.pred ≡ predicate_of_tree (tree_at ps 0) → trees_of c.head ≡ arguments (tree_at ps 0) → map goal_of c.body ≡ map (goal_from names ps) es → c.vars ≡ length named + count → IsWritten (renumbered c)
  clause_written es c m pred head body vars = renumbered_written c (clause_parsed es c m pred head body vars) vars
