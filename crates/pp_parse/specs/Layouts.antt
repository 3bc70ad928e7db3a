-- Which statement a layout stands for: each entry says at which places the terms of an item stand among the parts.
use Rattle.std.specs.Prelude.{◌≡◌, ℕ, ℤ, suc, ◌+◌, Bool, true, false, IsTrue, List, [], ◌∷◌, length, Option}
use Rattle.std.specs.List.{list_all}
use Rattle.pp_language.specs.Phrases.{Part}
use Rattle.pp_language.specs.Statements.{SetPhrase, Item, calls, equates, belongs, compares, asks, Statement, directive, clause, query, item_parts, items_parts, some_item, statement_parts, is_item, is_statement}
use Rattle.pp_language.specs.Meanings.{set_by, relation_of}
use Rattle.pp_term.specs.declared.pred.Relation.{Relation}
use Rattle.pp_term.specs.declared.pred.Mode.{Mode}
use Rattle.pp_term.specs.Meanings.{members_by, test_of, mode_of}
use Rattle.pp_parse.specs.declared.items.Entry.{Entry}
use Rattle.pp_parse.specs.declared.items.Entry.TheVariants.{Call, Equate, Member, Compare, Infer}
use Rattle.pp_parse.specs.declared.statement.Layout.{Layout}
use Rattle.pp_parse.specs.declared.statement.Layout.TheVariants.{Directive, Clause, Query}

-- the membership in this set, whose term stands at place i
abbrev pub IsMember : ℕ → SetPhrase → Entry → Type 0
IsMember i s e = (d : Option (List (ℤ × ℤ))) × (e ≡ Member i d) × (members_by d ≡ set_by s)

-- the entry of an item that begins at place i
abbrev pub IsEntry : ℕ → Item → Entry → Type 0
IsEntry i (calls p) e = e ≡ Call i
IsEntry i (equates p q) e = e ≡ Equate i (i + 2)
IsEntry i (belongs p s) e = IsMember i s e
IsEntry i (compares k p q) e = (r : Relation) × (e ≡ Compare r i (i + 2)) × (test_of r ≡ relation_of k)
IsEntry i (asks p m) e = (n : Mode) × (e ≡ Infer i n) × (mode_of n ≡ m)

-- the entries of items that stand from place i on, with a comma between each two
abbrev pub AreEntries : ℕ → List Item → List Entry → Type 0
AreEntries i [] [] = Unit {0}
AreEntries i [] (e ∷ es) = ⊥
AreEntries i (x ∷ xs) [] = ⊥
AreEntries i (x ∷ xs) (e ∷ es) = IsEntry i x e × AreEntries (i + suc (length (item_parts x))) xs es

-- the head of a clause is part 0, and the first item of its body part 2; the first item of a query is part 1
abbrev pub IsLayout : Statement → Layout → Type 0
IsLayout (directive w) Directive = Unit {0}
IsLayout (clause p xs) (Clause es) = AreEntries 2 xs es.items
IsLayout (query xs) (Query es) = AreEntries 1 xs es.items
IsLayout s l = ⊥

-- the parts are those of a statement with this layout
abbrev pub IsLaidOut : List Part → Layout → Type 0
IsLaidOut ps l = (s : Statement) × (ps ≡ statement_parts s) × IsTrue (is_statement s) × IsLayout s l

-- ===== items with commas between them

-- the parts are no list of items with commas between them
abbrev pub HasNoItems : List Part → Type 0
HasNoItems ps = (xs : List Item) → IsTrue (some_item xs) → IsTrue (list_all is_item xs) → ps ≡ items_parts xs → ⊥

-- the parts, which stand from place i on, are a list of items with these entries
pub record HasItems (i : ℕ) (ps : List Part) (es : List Entry) : Type 0 where
  pub items : List Item
  pub some : IsTrue (some_item items)
  pub fit : IsTrue (list_all is_item items)
  pub are : ps ≡ items_parts items
  pub entries : AreEntries i items es

-- a body holds such an entry
abbrev pub is_body_entry : Entry → Bool
is_body_entry (Infer a m) = false
is_body_entry e = true

-- a query holds such an entry
abbrev pub is_query_entry : Entry → Bool
is_query_entry (Call a) = false
is_query_entry (Compare r a b) = false
is_query_entry e = true
