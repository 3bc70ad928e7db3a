-- The clauses and queries that the code makes are well formed.
use Rattle.std.proofs.Common.{◌≡◌, ℕ, suc, ◌+◌, ◌<◌, ◌≤◌, true, false, ◌&&◌, cond, nat_eq, List, [], ◌∷◌, ◌++◌, length, map, refl, ap, sym, ◌∙◌, subst, arith}
use Rattle.std.specs.Prelude.{All, codes}
use Rattle.std.specs.List.{list_all}
use Rattle.std.proofs.lemmas.Bool.{and_parts, eqb-true}
use Rattle.std.proofs.lemmas.List.Elements.{All-nil, All-cons, All-head, All-tail}
use Rattle.pp_algebra.specs.Covers.{IsIn}
use Rattle.pp_algebra.specs.Terms as terms
use Rattle.pp_algebra.specs.Terms.{Tree, Trees, none, more, variables_all}
use Rattle.pp_sld.specs.BuiltIns.{plus, times, indomain}
use Rattle.pp_sld.specs.Goals as goals
use Rattle.pp_sld.specs.Goals.{user, test}
use Rattle.pp_language.specs.declared.token.Kind.{Kind}
use Rattle.pp_language.specs.declared.token.Kind.TheVariants.{Less, AtMost, Equal}
use Rattle.pp_language.specs.Texts.{Text}
use Rattle.pp_algebra.specs.Texts.{same_text}
use Rattle.pp_language.specs.Words.{Word, atom_of}
use Rattle.pp_language.specs.Keys.{texts_of}
use Rattle.pp_language.specs.Phrases.{Phrase, integer_phrase, variable_phrase, said, Phrases, are_phrases}
use Rattle.pp_language.specs.Statements.{Item, calls, equates, belongs, compares, asks, is_query_item}
use Rattle.pp_language.specs.Meanings.{blanks, blanks_all, goals_by, items_by, said_arguments, keyed_all, shape_by, said_shape, relation_of, item_shape, item_phrases, item_by, predicate_by, two_phrases}
use Rattle.pp_term.specs.declared.pred.Shape.{Shape}
use Rattle.pp_term.specs.declared.pred.Shape.TheVariants.{User, Plus, Times, Indomain}
use Rattle.pp_term.specs.declared.clause.Goal.{Goal}
use Rattle.pp_term.specs.declared.clause.Goal.TheVariants.{Call, Equate, Member, Compare}
use Rattle.pp_term.specs.declared.query.Item as query
use Rattle.pp_term.specs.declared.query.Item.TheVariants as items
use Rattle.pp_row.specs.Columns.{trees_of}
use Rattle.pp_term.specs.Meanings.{shape_of, goal_of}
use Rattle.pp_query.specs.Meanings.{item_of}
use Rattle.pp_term.specs.WellFormed.{arguments_of, AreArguments, IsGoal, IsItem}
use Rattle.pp_parse.specs.Terms.{term_of, terms_of}
use Rattle.pp_parse.proofs.KnownTexts.{Known, all_first, all_second}
use Rattle.pp_read.proofs.Keys.{texts_of-append}
use Rattle.pp_read.proofs.PhraseKeys.{group_texts}
use Rattle.pp_read.proofs.PhraseTerms.{group_below}
use Rattle.pp_read.proofs.ListKeys.{list_keys, list_blanks, list_terms}
use Rattle.pp_parse.proofs.ReadingLeaves.{terms-count}
use Rattle.pp_read.proofs.MadeGoals.{make_goal}

-- ===== variables

abbrev pub Below : ℕ → Trees ℕ → Type 0
Below n ts = (v : ℕ) → IsIn v (variables_all ts) → v < n

pub lists_below : (names named : List Text) (most : ℕ) → length named ≤ most → (n m : ℕ) (pss : List Phrases) → list_all are_phrases pss ≡ true → All (Known named) (texts_of (list_keys names n pss)) → m + list_blanks pss ≤ most → All (Below most) (list_terms names named m pss)
lists_below names named most l n m [] h k s = All-nil (Below most)
lists_below names named most l n m (ps ∷ pss) h k s =
    let i = and_parts (are_phrases ps) (list_all are_phrases pss) h in
    let here = texts_of (variables_all (keyed_all names n ps)) in
    let there = texts_of (list_keys names (n + blanks_all ps) pss) in
    let split : All (Known named) (here ++ there) = subst (All (Known named)) (texts_of-append (variables_all (keyed_all names n ps)) (list_keys names (n + blanks_all ps) pss)) k in
    All-cons (Below most) (terms_of names named m ps) (list_terms names named (m + blanks_all ps) pss)
    (λ v j. group_below names named most l m v ps (subst (All (Known named)) (group_texts names n ps i.0) (all_first (Known named) here there split)) (omega arith) j)
    (lists_below names named most l (n + blanks_all ps) (m + blanks_all ps) pss i.1 (all_second (Known named) here there split) (omega arith))

-- ===== numbers of arguments

-- a goal of this shape has so many arguments, where the shape says how many
abbrev pub Fits : goals.Shape → ℕ → Type 0
Fits (user p) k = p.arity ≡ k
Fits (test plus) k = k ≡ 3
Fits (test times) k = k ≡ 3
Fits (test indomain) k = k ≡ 1
Fits _ k = Unit {0}

shape_fits : (name : Text) (p : goals.Predicate) →
    Fits (cond (same_text name (codes "plus") && nat_eq p.arity 3) (test plus) (cond (same_text name (codes "times") && nat_eq p.arity 3) (test times) (cond (same_text name (codes "indomain") && nat_eq p.arity 1) (test indomain) (user p)))) p.arity
shape_fits name p =
    elim (same_text name (codes "plus") && nat_eq p.arity 3) as (λ a. (same_text name (codes "plus") && nat_eq p.arity 3) ≡ a → Fits (cond a (test plus) (cond (same_text name (codes "times") && nat_eq p.arity 3) (test times) (cond (same_text name (codes "indomain") && nat_eq p.arity 1) (test indomain) (user p)))) p.arity) [
      | true ↦ λ e. eqb-true p.arity 3 (and_parts (same_text name (codes "plus")) (nat_eq p.arity 3) e).1
      | false ↦ λ _. elim (same_text name (codes "times") && nat_eq p.arity 3) as (λ a. (same_text name (codes "times") && nat_eq p.arity 3) ≡ a → Fits (cond a (test times) (cond (same_text name (codes "indomain") && nat_eq p.arity 1) (test indomain) (user p))) p.arity) [
        | true ↦ λ e. eqb-true p.arity 3 (and_parts (same_text name (codes "times")) (nat_eq p.arity 3) e).1
        | false ↦ λ _. elim (same_text name (codes "indomain") && nat_eq p.arity 1) as (λ a. (same_text name (codes "indomain") && nat_eq p.arity 1) ≡ a → Fits (cond a (test indomain) (user p)) p.arity) [
          | true ↦ λ e. eqb-true p.arity 1 (and_parts (same_text name (codes "indomain")) (nat_eq p.arity 1) e).1
          | false ↦ λ _. refl
        ] refl
      ] refl
    ] refl

said_fits : (names named : List Text) (n : ℕ) (w : Word) (us : Phrases) → Fits (shape_by names w us) (terms.count (terms_of names named n us))
said_fits names named n w us = subst (Fits (shape_by names w us)) (sym (terms-count names named n us)) (shape_fits (atom_of w.kind w.text) (predicate_by names w us))

relation_fits : (k : Kind) (n : ℕ) → Fits (test (relation_of k)) n
relation_fits Less n = tt
relation_fits AtMost n = tt
relation_fits Equal n = tt
relation_fits _ n = tt

callable_fits : (names named : List Text) (n : ℕ) (p : Phrase) → Fits (said_shape names p) (terms.count (terms_of names named n (said_arguments p)))
callable_fits names named n (integer_phrase bs) = tt
callable_fits names named n (variable_phrase bs) = tt
callable_fits names named n (said w us) = said_fits names named n w us

item_fits : (names named : List Text) (n : ℕ) (x : Item) → Fits (item_shape names x) (terms.count (terms_of names named n (item_phrases x)))
item_fits names named n (calls p) = callable_fits names named n p
item_fits names named n (equates p q) = tt
item_fits names named n (belongs p s) = tt
item_fits names named n (compares k p q) = relation_fits k (terms.count (terms_of names named n (two_phrases p q)))
item_fits names named n (asks p m) = callable_fits names named n p

-- ===== goals

count-trees_of : (ts : List (Tree ℕ)) → terms.count (trees_of ts) ≡ length ts
count-trees_of [] = refl
count-trees_of (t ∷ ts) = ap suc (count-trees_of ts)

call_fits : (s : Shape) (k : ℕ) → Fits (shape_of s) k → k ≡ arguments_of s
call_fits (User p) k f = sym f
call_fits Plus k f = f
call_fits Times k f = f
call_fits Indomain k f = f

pub call_made : (n : ℕ) (s : Shape) (ts : List (Tree ℕ)) (shape : goals.Shape) (us : Trees ℕ) → shape_of s ≡ shape → trees_of ts ≡ us → Fits shape (terms.count us) → Below n us → AreArguments n s ts
call_made n s ts shape us e f h b = record {
  count = sym (count-trees_of ts) ∙ ap terms.count f ∙ call_fits s (terms.count us) (subst (λ x. Fits x (terms.count us)) (sym e) h);
  below = λ v i. b v (subst (λ x. IsIn v (variables_all x)) f i);
}

goal_made : (n : ℕ) (g : Goal) (shape : goals.Shape) (us : Trees ℕ) → goal_of g ≡ make_goal shape us → Fits shape (terms.count us) → Below n us → IsGoal n g
goal_made n (Call s ts) shape us e f b = call_made n s ts shape us (ap (λ x. x.shape) e) (ap (λ x. x.arguments) e) f b
goal_made n (Equate t u) shape us e f b = λ v i. b v (subst (λ x. IsIn v (variables_all x)) (ap (λ x. x.arguments) e) i)
goal_made n (Member t d) shape us e f b = λ v i. b v (subst (λ x. IsIn v (variables_all x)) (ap (λ x. x.arguments) e) i)
goal_made n (Compare r t u) shape us e f b = λ v i. b v (subst (λ x. IsIn v (variables_all x)) (ap (λ x. x.arguments) e) i)

module _ (names named : List Text) (n : ℕ) where
  pub goals_made : (gs : List Goal) (is : List Item) (m : ℕ) → map goal_of gs ≡ goals_by names is (list_terms names named m (map item_phrases is)) → All (Below n) (list_terms names named m (map item_phrases is)) → All (IsGoal n) gs
  goals_made [] is m e b = All-nil (IsGoal n)
  goals_made (g ∷ gs) [] m e b = absurd (cc)
  goals_made (g ∷ gs) (i ∷ is) m e b =
      let us = terms_of names named m (item_phrases i) in
      let rest = list_terms names named (m + blanks_all (item_phrases i)) (map item_phrases is) in
      let one : goal_of g ≡ make_goal (item_shape names i) us = cc in
      let more : map goal_of gs ≡ goals_by names is rest = cc in
      All-cons (IsGoal n) g gs
      (goal_made n g (item_shape names i) us one (item_fits names named m i) (All-head (Below n) us rest b))
      (goals_made gs is (m + blanks_all (item_phrases i)) more (All-tail (Below n) us rest b))

  item_made : (g : query.Item) (x : Item) (m : ℕ) → is_query_item x ≡ true → item_of g ≡ item_by names x (terms_of names named m (item_phrases x)) → Below n (terms_of names named m (item_phrases x)) → IsItem n g
  item_made g (calls p) m k e h = absurd (cc (k))
  item_made g (compares l p q) m k e h = absurd (cc (k))
  item_made (items.Equate a b) (equates p q) m k e h =
      let f : a ≡ term_of names named m p = cc in
      let g : b ≡ term_of names named (m + blanks p) q = cc in
      λ v i. h v (subst (λ x. IsIn v (variables_all (more x (more (term_of names named (m + blanks p) q) none)))) f (subst (λ x. IsIn v (variables_all (more a (more x none)))) g i))
  item_made (items.Equate a b) (belongs p s) m k e h = absurd (cc)
  item_made (items.Equate a b) (asks p o) m k e h = absurd (cc)
  item_made (items.Member t d) (equates p q) m k e h = absurd (cc)
  item_made (items.Member t d) (belongs p s) m k e h =
      let f : t ≡ term_of names named m p = cc in
      λ v i. h v (subst (λ x. IsIn v (variables_all (more x none))) f i)
  item_made (items.Member t d) (asks p o) m k e h = absurd (cc)
  item_made (items.Infer s ts o) (equates p q) m k e h = absurd (cc)
  item_made (items.Infer s ts o) (belongs p d) m k e h = absurd (cc)
  item_made (items.Infer s ts o) (asks p l) m k e h =
      let us = terms_of names named m (said_arguments p) in
      let f : make_goal (shape_of s) (trees_of ts) ≡ make_goal (said_shape names p) us = cc in
      call_made n s ts (said_shape names p) us (ap (λ x. x.shape) f) (ap (λ x. x.arguments) f) (callable_fits names named m p) h

  pub items_made : (gs : List query.Item) (is : List Item) (m : ℕ) → list_all is_query_item is ≡ true → map item_of gs ≡ items_by names is (list_terms names named m (map item_phrases is)) → All (Below n) (list_terms names named m (map item_phrases is)) → All (IsItem n) gs
  items_made [] is m k e b = All-nil (IsItem n)
  items_made (g ∷ gs) [] m k e b = absurd (cc)
  items_made (g ∷ gs) (i ∷ is) m k e b =
      let kinds = and_parts (is_query_item i) (list_all is_query_item is) k in
      let us = terms_of names named m (item_phrases i) in
      let rest = list_terms names named (m + blanks_all (item_phrases i)) (map item_phrases is) in
      let one : item_of g ≡ item_by names i us = cc in
      let more : map item_of gs ≡ items_by names is rest = cc in
      All-cons (IsItem n) g gs
      (item_made g i m kinds.0 one (All-head (Below n) us rest b))
      (items_made gs is (m + blanks_all (item_phrases i)) kinds.1 more (All-tail (Below n) us rest b))
