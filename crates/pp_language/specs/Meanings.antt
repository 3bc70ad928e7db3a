-- What statements write.
use Rattle.std.specs.Prelude.{ℕ, ℤ, pos, ◌+◌, ◌-ℤ◌, cond, nat_eq, int_le, ◌&&◌, List, [], ◌∷◌, map, filter, length, codes}
use Rattle.std.specs.List.{flat_map}
use Rattle.std.specs.FinSet as set
use Rattle.pp_algebra.specs.Terms.{Tree, int, node, variable, Trees, none, more, variables_all}
use Rattle.pp_algebra.specs.Rows.{Domain}
use Rattle.pp_algebra.specs.Members.{all_integers}
use Rattle.pp_algebra.specs.Canon.{place, firsts}
use Rattle.pp_algebra.specs.Least.{first, rest}
use Rattle.pp_algebra.specs.Solve.{equation, membership}
use Rattle.pp_sld.specs.BuiltIns.{Test, less, at_most, equal, differ, plus, times, indomain}
use Rattle.pp_sld.specs.Goals.{Predicate, Shape, user, equals, member, test, Goal, Clause}
use Rattle.pp_sld.specs.Verdicts.{most}
use Rattle.pp_language.specs.declared.token.Kind.{Kind}
use Rattle.pp_language.specs.declared.token.Kind.TheVariants.{Atom, Quoted, Variable, Less, AtMost, Equal}
use Rattle.pp_language.specs.Texts.{Text}
use Rattle.pp_algebra.specs.Texts.{same_text}
use Rattle.pp_language.specs.Kinds.{value_of, unquoted}
use Rattle.pp_language.specs.Programs.{QueryItem, solves, infers, Query, Written}
use Rattle.pp_language.specs.Words.{Word, atom_of}
use Rattle.pp_language.specs.Keys.{Key, key_of, same_key, named_first, texts_of, numbered}
use Rattle.pp_language.specs.Phrases.{Phrase, integer_phrase, variable_phrase, said, Phrases, no_phrases, phrase_and, count}
use Rattle.pp_language.specs.Statements.{Bounds, one_bound, two_bounds, SetPhrase, bare, bracketed, Item, calls, equates, belongs, compares, asks, Statement, directive, clause, query, statement_words}

-- the integer that digits write, with or without `-` before them
abbrev pub integer_of : Text → ℤ
integer_of [] = pos 0
integer_of (b ∷ bs) = cond (nat_eq b 45) (pos 0 -ℤ pos (value_of 0 bs)) (pos (value_of 0 (b ∷ bs)))

-- how many times `_` stands in a phrase
abbrev mutual
  pub blanks : Phrase → ℕ
  blanks (integer_phrase bs) = 0
  blanks (variable_phrase bs) = cond (same_text bs (codes "_")) 1 0
  blanks (said w ps) = blanks_all ps

  pub blanks_all : Phrases → ℕ
  blanks_all no_phrases = 0
  blanks_all (phrase_and p ps) = blanks p + blanks_all ps

-- the term of a phrase; n times `_` stands before it in the sentence
abbrev mutual
  pub keyed : List Text → ℕ → Phrase → Tree Key
  keyed names n (integer_phrase bs) = int (integer_of bs)
  keyed names n (variable_phrase bs) = variable (key_of n bs)
  keyed names n (said w ps) = node (place same_text names (atom_of w.kind w.text)) (keyed_all names n ps)

  pub keyed_all : List Text → ℕ → Phrases → Trees Key
  keyed_all names n no_phrases = none
  keyed_all names n (phrase_and p ps) = more (keyed names n p) (keyed_all names (n + blanks p) ps)

abbrev pub keyed_lists : List Text → ℕ → List Phrases → List (Trees Key)
keyed_lists names n [] = []
keyed_lists names n (ps ∷ pss) = keyed_all names n ps ∷ keyed_lists names (n + blanks_all ps) pss

-- the variables in order of first occurrence
abbrev pub keys_in : List (Trees Key) → List Key
keys_in tss = firsts same_key [] (flat_map variables_all tss)

-- ===== sets

-- the integers from lo to hi
abbrev pub integers_between : ℤ → ℤ → Domain
integers_between lo hi = set.from_list (filter (λ n. int_le lo n && int_le n hi) all_integers)

abbrev pub bounds_set : Bounds → Domain
bounds_set (one_bound n) = integers_between (integer_of n) (integer_of n)
bounds_set (two_bounds n m) = integers_between (integer_of n) (integer_of m)

abbrev pub bounds_sets : List Bounds → Domain
bounds_sets [] = set.empty
bounds_sets (b ∷ bs) = set.union (bounds_set b) (bounds_sets bs)

abbrev pub set_by : SetPhrase → Domain
set_by (bare b) = bounds_set b
set_by (bracketed b bs) = bounds_sets (b ∷ bs)

-- ===== goals

abbrev pub predicate_by : List Text → Word → Phrases → Predicate
predicate_by names w ps = record { name = place same_text names (atom_of w.kind w.text); arity = count ps }

-- a built-in by its name and number of arguments, or a predicate
abbrev pub shape_by : List Text → Word → Phrases → Shape
shape_by names w ps =
    let name = atom_of w.kind w.text in
    cond (same_text name (codes "plus") && nat_eq (count ps) 3) (test plus)
    (cond (same_text name (codes "times") && nat_eq (count ps) 3) (test times)
    (cond (same_text name (codes "indomain") && nat_eq (count ps) 1) (test indomain) (user (predicate_by names w ps))))

abbrev pub said_shape : List Text → Phrase → Shape
said_shape names (integer_phrase bs) = equals
said_shape names (variable_phrase bs) = equals
said_shape names (said w ps) = shape_by names w ps

abbrev pub said_arguments : Phrase → Phrases
said_arguments (integer_phrase bs) = no_phrases
said_arguments (variable_phrase bs) = no_phrases
said_arguments (said w ps) = ps

abbrev pub two_phrases : Phrase → Phrase → Phrases
two_phrases p q = phrase_and p (phrase_and q no_phrases)

abbrev pub relation_of : Kind → Test
relation_of Less = less
relation_of AtMost = at_most
relation_of Equal = equal
relation_of _ = differ

abbrev pub item_phrases : Item → Phrases
item_phrases (calls p) = said_arguments p
item_phrases (equates p q) = two_phrases p q
item_phrases (belongs p s) = phrase_and p no_phrases
item_phrases (compares k p q) = two_phrases p q
item_phrases (asks p m) = said_arguments p

abbrev pub item_shape : List Text → Item → Shape
item_shape names (calls p) = said_shape names p
item_shape names (equates p q) = equals
item_shape names (belongs p s) = member (set_by s)
item_shape names (compares k p q) = test (relation_of k)
item_shape names (asks p m) = said_shape names p

abbrev pub goal_by : List Text → Item → Trees ℕ → Goal ℕ
goal_by names i ts = record { shape = item_shape names i; arguments = ts }

abbrev pub goals_by : List Text → List Item → List (Trees ℕ) → List (Goal ℕ)
goals_by names [] tss = []
goals_by names (i ∷ is) [] = []
goals_by names (i ∷ is) (ts ∷ tss) = goal_by names i ts ∷ goals_by names is tss

-- an annotated goal asks in its mode, and any other goal would ask for the most
abbrev pub item_by : List Text → Item → Trees ℕ → QueryItem
item_by names (equates p q) ts = solves (equation (first ts) (first (rest ts)))
item_by names (belongs p s) ts = solves (membership (first ts) (set_by s))
item_by names (asks p m) ts = infers (goal_by names (asks p m) ts) m
item_by names i ts = infers (goal_by names i ts) most

abbrev pub items_by : List Text → List Item → List (Trees ℕ) → List QueryItem
items_by names [] tss = []
items_by names (i ∷ is) [] = []
items_by names (i ∷ is) (ts ∷ tss) = item_by names i ts ∷ items_by names is tss

-- ===== clauses, queries and texts

abbrev pub head_predicate : List Text → Phrase → Predicate
head_predicate names (integer_phrase bs) = record { name = 0; arity = 0 }
head_predicate names (variable_phrase bs) = record { name = 0; arity = 0 }
head_predicate names (said w ps) = predicate_by names w ps

-- a clause numbers its variables in that order
abbrev pub clause_by : List Text → Phrase → List Item → Predicate × Clause
clause_by names p is =
    let head = keyed_all names 0 (said_arguments p) in
    let bodies = keyed_lists names (blanks_all (said_arguments p)) (map item_phrases is) in
    let ks = keys_in (head ∷ bodies) in
    (head_predicate names p, record { head = numbered ks head; body = goals_by names is (map (numbered ks) bodies) })

-- the query numbers the named ones first, and then each `_`
abbrev pub query_by : List Text → List Item → Query
query_by names is =
    let tss = keyed_lists names 0 (map item_phrases is) in
    let ks = named_first (keys_in tss) in
    record { variables = length ks; named = texts_of ks; items = items_by names is (map (numbered ks) tss) }

abbrev pub clauses_by : List Text → List Statement → List (Predicate × Clause)
clauses_by names [] = []
clauses_by names (directive w ∷ ss) = clauses_by names ss
clauses_by names (clause p is ∷ ss) = clause_by names p is ∷ clauses_by names ss
clauses_by names (query is ∷ ss) = clauses_by names ss

-- the items of the query, which is the only one
abbrev pub asked_by : List Statement → List Item
asked_by [] = []
asked_by (directive w ∷ ss) = asked_by ss
asked_by (clause p is ∷ ss) = asked_by ss
asked_by (query is ∷ ss) = is

-- the texts that a word brings: an atom, or a named variable
abbrev pub texts_by : Kind → Text → List Text
texts_by Atom bs = bs ∷ []
texts_by Quoted bs = unquoted bs ∷ []
texts_by Variable bs = cond (same_text bs (codes "_")) [] (bs ∷ [])
texts_by k bs = []

-- the names of a text: its atoms and named variables, each numbered by its first occurrence
abbrev pub text_names : List Statement → List Text
text_names ss = firsts same_text [] (flat_map (λ w. texts_by w.kind w.text) (flat_map statement_words ss))

abbrev pub written_by : List Statement → Written
written_by ss =
    let names = text_names ss in
    record { names = names; clauses = clauses_by names ss; query = query_by names (asked_by ss) }
