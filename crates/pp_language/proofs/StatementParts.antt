-- The parts of a statement are such as words spell, so words are at most one statement.
use Rattle.std.proofs.Common.{◌≡◌, true, false, List, [], ◌∷◌, ◌++◌, refl, sym, ◌∙◌}
use Rattle.std.specs.Prelude.{Bool, not, ◌&&◌}
use Rattle.std.specs.List.{list_all}
use Rattle.std.proofs.lemmas.Bool.{and_parts, and_from}
use Rattle.pp_language.specs.declared.token.Kind.{Kind}
use Rattle.pp_language.specs.declared.token.Kind.TheVariants.{Integer, Atom, Quoted, Infers, Variable, Left, Right, OpenSquare, CloseSquare, Comma, Point, Range, Neck, Ask, Equals, InDomain, Less, AtMost, Equal, Differ}
use Rattle.pp_language.specs.Words.{Word, is_atom_kind, is_name_kind, is_built_in, atom_of}
use Rattle.pp_language.specs.Phrases.{Phrase, integer_phrase, variable_phrase, said, count, is_phrase}
use Rattle.pp_language.specs.PartsOf.{is_mark, is_part, are_parts}
use Rattle.pp_language.specs.Statements.{Bounds, one_bound, two_bounds, SetPhrase, bare, bracketed, Item, calls, equates, belongs, compares, asks, Statement, directive, clause, query, bounds_parts, more_bounds_parts, set_parts, item_parts, more_items, items_parts, statement_parts, is_comparison, is_callable, is_head, is_item, is_statement, Says}
use Rattle.pp_language.proofs.PartsRead.{same_parts}
use Rattle.pp_language.proofs.OneItems.{statement-is, clause_is, query_is}

pub all-append : {A : Type 0} (p : A → Bool) (xs ys : List A) → list_all p xs ≡ true → list_all p ys ≡ true → list_all p (xs ++ ys) ≡ true
all-append p [] ys h g = g
all-append p (x ∷ xs) ys h g = let k = and_parts (p x) (list_all p xs) h in and_from (p x) (list_all p (xs ++ ys)) k.0 (all-append p xs ys k.1 g)

bounds_are : (b : Bounds) → are_parts (bounds_parts b) ≡ true
bounds_are (one_bound n) = refl
bounds_are (two_bounds n m) = refl

more_bounds_are : (bs : List Bounds) → are_parts (more_bounds_parts bs) ≡ true
more_bounds_are [] = refl
more_bounds_are (b ∷ bs) = all-append is_part (bounds_parts b) (more_bounds_parts bs) (bounds_are b) (more_bounds_are bs)

pub set_are : (s : SetPhrase) → are_parts (set_parts s) ≡ true
set_are (bare b) = bounds_are b
set_are (bracketed b bs) = all-append is_part (bounds_parts b) (more_bounds_parts bs) (bounds_are b) (more_bounds_are bs)

comparison_is_mark : (k : Kind) → is_comparison k ≡ true → is_mark k ≡ true
comparison_is_mark Less h = refl
comparison_is_mark AtMost h = refl
comparison_is_mark Equal h = refl
comparison_is_mark Differ h = refl
comparison_is_mark Integer h = absurd (cc)
comparison_is_mark Atom h = absurd (cc)
comparison_is_mark Quoted h = absurd (cc)
comparison_is_mark Infers h = absurd (cc)
comparison_is_mark Variable h = absurd (cc)
comparison_is_mark Left h = absurd (cc)
comparison_is_mark Right h = absurd (cc)
comparison_is_mark OpenSquare h = absurd (cc)
comparison_is_mark CloseSquare h = absurd (cc)
comparison_is_mark Comma h = absurd (cc)
comparison_is_mark Point h = absurd (cc)
comparison_is_mark Range h = absurd (cc)
comparison_is_mark Neck h = absurd (cc)
comparison_is_mark Ask h = absurd (cc)
comparison_is_mark Equals h = absurd (cc)
comparison_is_mark InDomain h = absurd (cc)

pub callable_is_phrase : (p : Phrase) → is_callable p ≡ true → is_phrase p ≡ true
callable_is_phrase (integer_phrase bs) h = refl
callable_is_phrase (variable_phrase bs) h = refl
callable_is_phrase (said w ps) h = h

pub head_is_phrase : (p : Phrase) → is_head p ≡ true → is_phrase p ≡ true
head_is_phrase (integer_phrase bs) h = refl
head_is_phrase (variable_phrase bs) h = refl
head_is_phrase (said w ps) h = (and_parts (is_phrase (said w ps)) (not (is_built_in (atom_of w.kind w.text) (count ps))) h).0

three : (a b c : Bool) → a ≡ true → b ≡ true → c ≡ true → (a && b && c && true) ≡ true
three true true true h g k = refl
three true true false h g k = k
three true false c h g k = g
three false b c h g k = h

two_terms : (a c : Bool) → a ≡ true → c ≡ true → (a && (c && true)) ≡ true
two_terms true true h g = refl
two_terms true false h g = g
two_terms false c h g = h

compared_terms : (k a c : Bool) → k ≡ true → a ≡ true → c ≡ true → (a && (k && (c && true))) ≡ true
compared_terms true true true h g l = refl
compared_terms true true false h g l = l
compared_terms true false c h g l = g
compared_terms false true c h g l = h
compared_terms false false c h g l = g

item_are : (i : Item) → is_item i ≡ true → are_parts (item_parts i) ≡ true
item_are (calls p) h = and_from (is_phrase p) true (callable_is_phrase p h) refl
item_are (equates p q) h = let k = and_parts (is_phrase p) (is_phrase q) h in two_terms (is_phrase p) (is_phrase q) k.0 k.1
item_are (belongs p s) h = and_from (is_phrase p) (are_parts (set_parts s)) h (set_are s)
item_are (compares c p q) h =
    let k = and_parts (is_comparison c && is_phrase p) (is_phrase q) h in
    let l = and_parts (is_comparison c) (is_phrase p) k.0 in
    compared_terms (is_mark c) (is_phrase p) (is_phrase q) (comparison_is_mark c l.0) l.1 k.1
item_are (asks p m) h = and_from (is_phrase p) true (callable_is_phrase p h) refl

more_are : (is : List Item) → list_all is_item is ≡ true → are_parts (more_items is) ≡ true
more_are [] h = refl
more_are (i ∷ is) h =
    let k = and_parts (is_item i) (list_all is_item is) h in
    all-append is_part (item_parts i) (more_items is) (item_are i k.0) (more_are is k.1)

items_are : (is : List Item) → list_all is_item is ≡ true → are_parts (items_parts is) ≡ true
items_are [] h = refl
items_are (i ∷ is) h =
    let k = and_parts (is_item i) (list_all is_item is) h in
    all-append is_part (item_parts i) (more_items is) (item_are i k.0) (more_are is k.1)

atom_is_name : (k : Kind) → is_atom_kind k ≡ true → is_name_kind k ≡ true
atom_is_name Atom h = refl
atom_is_name Quoted h = refl
atom_is_name Integer h = absurd (cc)
atom_is_name Infers h = absurd (cc)
atom_is_name Variable h = absurd (cc)
atom_is_name Left h = absurd (cc)
atom_is_name Right h = absurd (cc)
atom_is_name OpenSquare h = absurd (cc)
atom_is_name CloseSquare h = absurd (cc)
atom_is_name Comma h = absurd (cc)
atom_is_name Point h = absurd (cc)
atom_is_name Range h = absurd (cc)
atom_is_name Neck h = absurd (cc)
atom_is_name Ask h = absurd (cc)
atom_is_name Equals h = absurd (cc)
atom_is_name InDomain h = absurd (cc)
atom_is_name Less h = absurd (cc)
atom_is_name AtMost h = absurd (cc)
atom_is_name Equal h = absurd (cc)
atom_is_name Differ h = absurd (cc)

pub statement_are : (s : Statement) → is_statement s ≡ true → are_parts (statement_parts s) ≡ true
statement_are (directive w) h = let k = atom_is_name w.kind h in rw k refl
statement_are (clause p []) h = and_from (is_phrase p) true (head_is_phrase p (clause_is p [] h).0) refl
statement_are (clause p (i ∷ is)) h =
    let k = clause_is p (i ∷ is) h in
    and_from (is_phrase p) (are_parts (items_parts (i ∷ is))) (head_is_phrase p k.0) (items_are (i ∷ is) k.1)
statement_are (query is) h = items_are is (query_is is h).1

pub says_once : (ws : List Word) (s t : Statement) → Says ws s → Says ws t → s ≡ t
says_once ws s t a b =
    statement-is s t a.is_statement b.is_statement
    (same_parts (statement_parts s) (statement_parts t) (statement_are s a.is_statement) (statement_are t b.is_statement) (sym a.words ∙ b.words))
