-- The clause and the query that the code makes of a statement are those that the statement writes, and the limits that it finds are
-- those that the statement passes.
use Rattle.std.proofs.Common.{◌≡◌, ℕ, suc, ◌+◌, true, ◌||◌, List, [], ◌∷◌, ◌++◌, length, map, refl, ap, sym, ◌∙◌, subst, arith, append-nil, None}
use Rattle.std.specs.Prelude.{All}
use Rattle.std.specs.List.{list_all, list_any}
use Rattle.std.proofs.lemmas.Bool.{and_parts}
use Rattle.std.proofs.lemmas.List.Elements.{All-nil}
use Rattle.pp_algebra.specs.Terms.{Trees, variables_all}
use Rattle.pp_algebra.specs.Least.{arguments}
use Rattle.pp_algebra.specs.Canon.{firsts}
use Rattle.pp_sld.specs.Goals.{Predicate, Goal, Clause}
use Rattle.pp_language.specs.declared.token.Kind.TheVariants.{Neck}
use Rattle.pp_language.specs.declared.which.Which.TheVariants.{Clauses, Arity, Variables}
use Rattle.pp_language.specs.Texts.{Text}
use Rattle.pp_algebra.specs.Texts.{same_text}
use Rattle.pp_language.specs.Words.{Word, is_name_kind}
use Rattle.pp_language.specs.Keys.{Key, texts_of, named_first, numbered}
use Rattle.pp_language.specs.Phrases as phrases
use Rattle.pp_language.specs.Phrases.{Phrase, integer_phrase, variable_phrase, said, Phrases, count, is_phrase, are_phrases, term_part, mark, phrase_words}
use Rattle.pp_language.specs.Statements.{Item, clause, items_parts, statement_parts, is_callable, is_head, is_item, is_body_item}
use Rattle.pp_language.specs.Meanings.{blanks, blanks_all, keyed_all, said_arguments, item_phrases, goal_by, goals_by, head_predicate, keyed_lists, keys_in}
use Rattle.pp_language.specs.Limits.{is_above, is_too_wide, item_too_wide, when, passed}
use Rattle.pp_parse.specs.declared.parts.Part.{Part}
use Rattle.pp_parse.specs.declared.items.Entry.{Entry}
use Rattle.pp_parse.specs.Words.{named_in}
use Rattle.pp_parse.specs.Terms.{terms_of}
use Rattle.pp_parse.specs.Parts.{AreParts}
use Rattle.pp_build.specs.Pieces.{tree_at, predicate_of_tree}
use Rattle.pp_build.specs.Values.{goal_from, HasCallableAt, IsGoalEntry}
use Rattle.pp_read.specs.Passed.{is_wide, clause_passed}
use Rattle.pp_parse.specs.Parsed.{IsKnown}
use Rattle.pp_parse.specs.Layouts.{AreEntries}
use Rattle.pp_read.proofs.Keys.{keys_by, texts_of-append}
use Rattle.pp_read.proofs.ListKeys.{list_keys, list_blanks, list_terms, AreKeys, keys_of_all}
use Rattle.pp_read.proofs.PartsAt.{IsGood, part_wide, parts_blanks, parts_wide, behind, AreGood}
use Rattle.pp_read.proofs.PartTexts.{parts_texts, words_texts, words_blanks, said_texted, items_texts, items_blanks, items_wide}
use Rattle.pp_read.proofs.MadeGoals.{known_name, called, phrase_stands, said_predicate_is, goal_made}
use Rattle.pp_read.proofs.MadeItems.{values, all_made}

abbrev pub clause_lists : Phrase → List Item → List Phrases
clause_lists p is = said_arguments p ∷ map item_phrases is

pub head_callable : (p : Phrase) → is_head p ≡ true → is_callable p ≡ true
head_callable (integer_phrase bs) h = h
head_callable (variable_phrase bs) h = h
head_callable (said w us) h = (and_parts (is_phrase (said w us)) _ h).0

pub callable_name : (w : Word) (us : Phrases) → is_callable (said w us) ≡ true → is_name_kind w.kind ≡ true
callable_name w us h = (and_parts (is_name_kind w.kind) (are_phrases us) h).0

callable_blanks : (p : Phrase) → is_callable p ≡ true → blanks p ≡ blanks_all (said_arguments p)
callable_blanks (integer_phrase bs) h = absurd (cc)
callable_blanks (variable_phrase bs) h = absurd (cc)
callable_blanks (said w us) h = refl

-- ===== the variables of a clause

module _ (names : List Text) where
  clause_texts : (p : Phrase) (is : List Item) → is_callable p ≡ true → list_all is_item is ≡ true → parts_texts (statement_parts (clause p is)) ≡ texts_of (list_keys names 0 (clause_lists p is))
  clause_texts p [] h g = (said_texted names p h).texts 0 ∙ ap texts_of (sym (append-nil (variables_all (keyed_all names 0 (said_arguments p)))))
  clause_texts p (i ∷ is) h g =
      let first = variables_all (keyed_all names 0 (said_arguments p)) in
      let n = 0 + blanks_all (said_arguments p) in
      ap (λ xs. xs ++ parts_texts (items_parts (i ∷ is))) (sym (append-nil (named_in (phrase_words p))) ∙ (said_texted names p h).texts 0)
      ∙ ap (λ xs. texts_of first ++ xs) (items_texts names (i ∷ is) n g)
      ∙ sym (texts_of-append first (list_keys names n (map item_phrases (i ∷ is))))

  clause_blanks : (p : Phrase) (is : List Item) → is_callable p ≡ true → list_all is_item is ≡ true → parts_blanks (statement_parts (clause p is)) ≡ list_blanks (clause_lists p is)
  clause_blanks p [] h g = omega (arith, callable_blanks p h)
  clause_blanks p (i ∷ is) h g = omega (arith, callable_blanks p h, items_blanks names (i ∷ is) g)

  clause_wide : (p : Phrase) (is : List Item) → is_callable p ≡ true → list_all is_item is ≡ true → list_any part_wide (statement_parts (clause p is)) ≡ (is_too_wide p || list_any item_too_wide is)
  clause_wide p [] h g = refl
  clause_wide p (i ∷ is) h g = ap (λ b. is_too_wide p || b) (items_wide names (i ∷ is) g)

-- ===== a clause

module _ (names named : List Text) (count : ℕ) (ps : List Part) (p : Phrase) (is : List Item) (h : is_head p ≡ true) (g : list_all is_item is ≡ true) (k : IsKnown names named count (statement_parts (clause p is)) ps) where
  pub clause_named : named ≡ firsts same_text [] (texts_of (list_keys names 0 (clause_lists p is)))
  clause_named = k.named_is ∙ ap (firsts same_text []) (words_texts (statement_parts (clause p is)) k.formed ∙ clause_texts names p is (head_callable p h) g)

  pub clause_counted : count ≡ list_blanks (clause_lists p is)
  clause_counted = k.count_is ∙ words_blanks (statement_parts (clause p is)) k.formed ∙ clause_blanks names p is (head_callable p h) g

  pub clause_keys : AreKeys names named count (clause_lists p is)
  clause_keys = subst (λ n. AreKeys names named n (clause_lists p is)) (sym clause_counted) (keys_of_all names named (clause_lists p is) clause_named)

  clause_width : list_any is_wide ps ≡ (is_too_wide p || list_any item_too_wide is)
  clause_width = parts_wide names named (length named) 0 (statement_parts (clause p is)) ps k.are ∙ clause_wide names p is (head_callable p h) g

  pub clause_limit_is : (n : ℕ) → clause_passed n ps (length named + count) ≡ passed n (clause p is)
  clause_limit_is n =
      ap (λ b. when (is_above 65535 (suc n)) Clauses (when b Arity (when (is_above 255 (length named + count)) Variables None))) clause_width
      ∙ ap (λ v. when (is_above 65535 (suc n)) Clauses (when (is_too_wide p || list_any item_too_wide is) Arity (when (is_above 255 v) Variables None))) (sym clause_keys.counted)

pub record ClauseMade (names named : List Text) (ps : List Part) (p : Phrase) (is : List Item) (es : List Entry) : Type 0 where
  pub head : HasCallableAt names ps 0
  pub body : All (IsGoalEntry names ps) es
  pub pred : predicate_of_tree (tree_at ps 0) ≡ head_predicate names p
  pub args : arguments (tree_at ps 0) ≡ terms_of names named (length named) (said_arguments p)
  pub goals : map (goal_from names ps) es ≡ goals_by names is (list_terms names named (length named + blanks_all (said_arguments p)) (map item_phrases is))

goals_are : (names : List Text) (is : List Item) (tss : List (Trees ℕ)) → values (goal_by names) is tss ≡ goals_by names is tss
goals_are names [] tss = refl
goals_are names (i ∷ is) [] = refl
goals_are names (i ∷ is) (ts ∷ tss) = ap (λ gs. goal_by names i ts ∷ gs) (goals_are names is tss)

module _ (names named : List Text) (ps : List Part) where
  head_made : (p : Phrase) (w : ℕ) (qs : List phrases.Part) → is_callable p ≡ true → AreParts names named (length named) w (term_part p ∷ qs) ps → IsGood names (term_part p) → HasCallableAt names ps 0 × (predicate_of_tree (tree_at ps 0) ≡ head_predicate names p) × (arguments (tree_at ps 0) ≡ terms_of names named (length named) (said_arguments p))
  head_made (integer_phrase bs) w qs h a g = absurd (cc)
  head_made (variable_phrase bs) w qs h a g = absurd (cc)
  head_made (said v us) w qs h a g =
      let s = phrase_stands names named ps 0 (length named) w (said v us) qs a g in
      let c = called names named ps 0 (length named) v us (known_name names v us (callable_name v us h) g) s in
      (c.callable, ap predicate_of_tree s.tree ∙ said_predicate_is names named (length named) v us, ap arguments s.tree)

  pub clause_made : (p : Phrase) (is : List Item) (es : List Entry) → is_callable p ≡ true → list_all is_item is ≡ true → list_all is_body_item is ≡ true → AreEntries 2 is es → AreParts names named (length named) 0 (statement_parts (clause p is)) ps → AreGood names (statement_parts (clause p is)) → ClauseMade names named ps p is es
  clause_made p [] [] h g d s q o = let m = head_made p 0 [] h q o.0 in record { head = m.0; body = All-nil (IsGoalEntry names ps); pred = m.1; args = m.2; goals = refl }
  clause_made p [] (e ∷ es) h g d s q o = absurd s
  clause_made p (i ∷ is) es h g d s q o =
      let n = length named + blanks_all (said_arguments p) in
      let items = items_parts (i ∷ is) in
      let m = head_made p 0 (mark Neck ∷ items) h q o.0 in
      let b = behind names named (length named) n 0 (term_part p ∷ mark Neck ∷ []) items ps (omega (arith, callable_blanks p h)) q in
      let r = all_made names named ps is_body_item (IsGoalEntry names ps) (goal_from names ps) (goal_by names) (goal_made names named ps) (i ∷ is) es 2 n _ g d s b o.1.1 in
      record { head = m.0; body = r.fits; pred = m.1; args = m.2; goals = r.are ∙ goals_are names (i ∷ is) (list_terms names named n (map item_phrases (i ∷ is))) }

abbrev pub make_clause : Trees ℕ → List (Goal ℕ) → Clause
make_clause ts gs = record { head = ts; body = gs }

abbrev pub make_pair : Predicate → Clause → Predicate × Clause
make_pair p c = (p, c)

-- the clause whose variables are numbered by their places in a list
abbrev pub numbered_clause : List Text → Phrase → List Item → List Key → Clause
numbered_clause names p is ks = make_clause (numbered ks (keyed_all names 0 (said_arguments p))) (goals_by names is (map (numbered ks) (keyed_lists names (blanks_all (said_arguments p)) (map item_phrases is))))

-- the parser numbers the named ones first
abbrev pub parsed_keys : List Text → Phrase → List Item → List Key
parsed_keys names p is = named_first (keys_in (keyed_all names 0 (said_arguments p) ∷ keyed_lists names (blanks_all (said_arguments p)) (map item_phrases is)))

-- the variables of the goals are numbered as the code numbers them
pub clause_is : (names named : List Text) (count : ℕ) (p : Phrase) (is : List Item) → AreKeys names named count (clause_lists p is)
    → make_pair (head_predicate names p) (make_clause (terms_of names named (length named) (said_arguments p)) (goals_by names is (list_terms names named (length named + blanks_all (said_arguments p)) (map item_phrases is)))) ≡ make_pair (head_predicate names p) (numbered_clause names p is (parsed_keys names p is))
clause_is names named count p is k =
    let b = blanks_all (said_arguments p) in
    let pss = map item_phrases is in
    let z : b ≡ 0 + b = omega arith in
    let head = keyed_all names 0 (said_arguments p) in
    let ks = keys_by named count in
    let first : terms_of names named (length named) (said_arguments p) ≡ numbered ks head = let t = k.terms in cc in
    let rest : list_terms names named (length named + b) pss ≡ map (numbered ks) (keyed_lists names (0 + b) pss) = let t = k.terms in cc in
    ap (λ ts. make_pair (head_predicate names p) (make_clause ts (goals_by names is (list_terms names named (length named + b) pss)))) first
    ∙ ap (λ tss. make_pair (head_predicate names p) (make_clause (numbered ks head) (goals_by names is tss))) rest
    ∙ ap (λ hs. make_pair (head_predicate names p) (make_clause (numbered hs head) (goals_by names is (map (numbered hs) (keyed_lists names (0 + b) pss))))) (sym k.keys)
    ∙ ap (λ n. make_pair (head_predicate names p) (make_clause (numbered (named_first (keys_in (head ∷ keyed_lists names n pss))) head) (goals_by names is (map (numbered (named_first (keys_in (head ∷ keyed_lists names n pss)))) (keyed_lists names n pss))))) (sym z)
