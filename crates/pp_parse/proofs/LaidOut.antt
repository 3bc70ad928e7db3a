-- From the items of a sentence to its statement.
use Rattle.std.proofs.Common.{◌≡◌, true, false, not, List, [], ◌∷◌, length, drop, Option, Some, None, Result, Ok, Err, refl, ap, sym, subst, ◌∙◌, arith}
use Rattle.std.specs.Prelude.{IsTrue, MatchOption, IfOk, ◌&&◌}
use Rattle.std.specs.List.{list_all}
use Rattle.std.specs.declared.alloc.Global.{Global}
use Rattle.std.specs.declared.vec.Vec.{Vec}
use Rattle.std.proofs.lemmas.Bool.{and_parts, and_from}
use Rattle.std.proofs.lemmas.List.{drop-drop}
use Rattle.pp_language.specs.declared.token.Kind.TheVariants.{Neck, Ask}
use Rattle.pp_language.specs.Words.{Word, is_built_in, atom_of}
use Rattle.pp_language.specs.Phrases.{Phrase, integer_phrase, variable_phrase, said, count, is_phrase, Part, term_part, mark}
use Rattle.pp_language.specs.PartsOf.{are_parts}
use Rattle.pp_language.specs.Statements.{Item, Statement, directive, clause, query, items_parts, statement_parts, is_head, is_item, is_body_item, is_query_item, some_item, is_statement}
use Rattle.pp_parse.specs.declared.items.Entry.{Entry}
use Rattle.pp_parse.specs.declared.statement.Layout.{Layout}
use Rattle.pp_parse.specs.declared.statement.Layout.TheVariants.{Clause, Query}
use Rattle.pp_language.specs.Fronts.{mark_in}
use Rattle.pp_parse.specs.Items.{has_head}
use Rattle.pp_parse.specs.Layouts.{AreEntries, IsLaidOut, HasNoItems, HasItems, is_body_entry, is_query_entry}
use Rattle.pp_language.proofs.ItemRead.{mark_front}
use Rattle.pp_language.proofs.OneItems.{items-is, clause_is, query_is}
use Rattle.pp_parse.proofs.ItemLists.{body_kinds, query_kinds}

-- these parts are no clause
abbrev NoClause : List Part → Type 0
NoClause qs = (p : Phrase) (xs : List Item) → IsTrue (is_statement (clause p xs)) → qs ≡ statement_parts (clause p xs) → ⊥

-- ===== clauses

begins_clause : (p : Phrase) (xs : List Item) → is_head p ≡ true → has_head (statement_parts (clause p xs)) ≡ true
begins_clause (integer_phrase bs) xs h = absurd (cc (h))
begins_clause (variable_phrase bs) xs h = absurd (cc (h))
begins_clause (said w us) [] h = (and_parts (is_phrase (said w us)) (not (is_built_in (atom_of w.kind w.text) (count us))) h).1
begins_clause (said w us) (x ∷ xs) h = (and_parts (is_phrase (said w us)) (not (is_built_in (atom_of w.kind w.text) (count us))) h).1

pub no_head : (qs : List Part) → has_head qs ≡ false → NoClause qs
no_head qs h p xs s e =
    let b = begins_clause p xs (clause_is p xs s).0 in
    absurd (cc (ap has_head e, b, h))

head_front : (qs : List Part) → are_parts qs ≡ true → has_head qs ≡ true → (p : Phrase) × (qs ≡ term_part p ∷ drop 1 qs) × (is_head p ≡ true)
head_front [] f h = absurd (cc (h))
head_front (mark k ∷ qs) f h = absurd (cc (h))
head_front (term_part (integer_phrase bs) ∷ qs) f h = absurd (cc (h))
head_front (term_part (variable_phrase bs) ∷ qs) f h = absurd (cc (h))
head_front (term_part (said w us) ∷ qs) f h =
    (said w us, refl, and_from (is_phrase (said w us)) (not (is_built_in (atom_of w.kind w.text) (count us))) (and_parts (is_phrase (said w us)) (are_parts qs) f).0 h)

one_part : (qs : List Part) → length qs ≡ 1 → drop 1 qs ≡ []
one_part [] e = refl
one_part (q ∷ []) e = refl
one_part (q ∷ r ∷ qs) e = absurd (omega arith)

pub fact_laid : (qs : List Part) (v : Vec Entry Global) → are_parts qs ≡ true → has_head qs ≡ true → length qs ≡ 1 → v.items ≡ [] → IsLaidOut qs (Clause v)
fact_laid qs v f h l e =
    let p = head_front qs f h in (
      clause p.0 [],
      p.1 ∙ ap (λ ps. term_part p.0 ∷ ps) (one_part qs l),
      (let a = and_from (is_head p.0) true p.2 refl in and_from (is_head p.0 && true) true a refl),
      (let E : List Entry → Type 0 = AreEntries 2 [] in subst E (sym e) tt),
    )

rule_parts : (p : Phrase) (xs : List Item) → some_item xs ≡ true → term_part p ∷ mark Neck ∷ items_parts xs ≡ statement_parts (clause p xs)
rule_parts p [] s = absurd (cc (s))
rule_parts p (x ∷ xs) s = refl

pub rule_laid : (qs : List Part) (v : Vec Entry Global) → are_parts qs ≡ true → has_head qs ≡ true → mark_in (drop 1 qs) ≡ Some Neck → HasItems 2 (drop 2 qs) v.items → list_all is_body_entry v.items ≡ true → IsLaidOut qs (Clause v)
rule_laid qs v f h m b g =
    let p = head_front qs f h in (
      clause p.0 b.items,
      p.1 ∙ ap (λ ps. term_part p.0 ∷ ps) (mark_front (drop 1 qs) Neck m ∙ ap (λ ps. mark Neck ∷ ps) (drop-drop 1 1 qs ∙ b.are)) ∙ rule_parts p.0 b.items b.some,
      and_from (is_head p.0 && list_all is_item b.items) (list_all is_body_item b.items) (and_from (is_head p.0) (list_all is_item b.items) p.2 b.fit) (body_kinds 2 b.items v.items b.entries ∙ g),
      b.entries,
    )

pub no_neck : (qs : List Part) → (length qs ≡ 1 → ⊥) → (mark_in (drop 1 qs) ≡ Some Neck → ⊥) → NoClause qs
no_neck qs l m p [] s e = l (ap length e)
no_neck qs l m p (x ∷ xs) s e = m (ap (λ ps. mark_in (drop 1 ps)) e)

pub no_body : (qs : List Part) → (length qs ≡ 1 → ⊥) → HasNoItems (drop 2 qs) → NoClause qs
no_body qs l b p [] s e = l (ap length e)
no_body qs l b p (x ∷ xs) s e = b (x ∷ xs) refl (clause_is p (x ∷ xs) s).1 (ap (drop 2) e)

-- items of which a body holds not all
pub other_body : (qs : List Part) (es : List Entry) → (length qs ≡ 1 → ⊥) → HasItems 2 (drop 2 qs) es → list_all is_body_entry es ≡ false → NoClause qs
other_body qs es l b g p [] s e = l (ap length e)
other_body qs es l b g p (x ∷ xs) s e =
    let a = clause_is p (x ∷ xs) s in
    let same = items-is b.items (x ∷ xs) b.some refl b.fit a.1 (sym b.are ∙ ap (drop 2) e) in
    absurd (cc (sym a.2 ∙ sym (ap (list_all is_body_item) same) ∙ body_kinds 2 b.items es b.entries ∙ g))

-- ===== queries

pub query_laid : (qs : List Part) (v : Vec Entry Global) → mark_in qs ≡ Some Ask → HasItems 1 (drop 1 qs) v.items → list_all is_query_entry v.items ≡ true → IsLaidOut qs (Query v)
query_laid qs v m b g = (
  query b.items,
  mark_front qs Ask m ∙ ap (λ ps. mark Ask ∷ ps) b.are,
  and_from (some_item b.items && list_all is_item b.items) (list_all is_query_item b.items) (and_from (some_item b.items) (list_all is_item b.items) b.some b.fit) (query_kinds 1 b.items v.items b.entries ∙ g),
  b.entries,
)

-- the statement is a directive
abbrev IsDirective : Statement → Type 0
IsDirective s = (w : Word) × (s ≡ directive w)

pub no_query : (qs : List Part) → mark_in qs ≡ Some Ask → HasNoItems (drop 1 qs) → (s : Statement) → IsTrue (is_statement s) → qs ≡ statement_parts s → IsDirective s
no_query qs m b (directive w) s e = (w, refl)
no_query qs m b (clause p []) s e = absurd (cc (sym m ∙ ap mark_in e))
no_query qs m b (clause p (x ∷ xs)) s e = absurd (cc (sym m ∙ ap mark_in e))
no_query qs m b (query xs) s e =
    let a = query_is xs s in
    absurd (b xs a.0 a.1 (ap (drop 1) e))

-- items of which a query holds not all
pub other_query : (qs : List Part) (es : List Entry) → mark_in qs ≡ Some Ask → HasItems 1 (drop 1 qs) es → list_all is_query_entry es ≡ false → (s : Statement) → IsTrue (is_statement s) → qs ≡ statement_parts s → IsDirective s
other_query qs es m b g (directive w) s e = (w, refl)
other_query qs es m b g (clause p []) s e = absurd (cc (sym m ∙ ap mark_in e))
other_query qs es m b g (clause p (x ∷ xs)) s e = absurd (cc (sym m ∙ ap mark_in e))
other_query qs es m b g (query xs) s e =
    let a = query_is xs s in
    let same = items-is b.items xs b.some a.0 b.fit a.1 (sym b.are ∙ ap (drop 1) e) in
    absurd (cc (sym a.2 ∙ sym (ap (list_all is_query_item) same) ∙ query_kinds 1 b.items es b.entries ∙ g))

only_directive : (qs : List Part) → (mark_in qs ≡ Some Ask → ⊥) → NoClause qs → (s : Statement) → IsTrue (is_statement s) → qs ≡ statement_parts s → IsDirective s
only_directive qs m n (directive w) s e = (w, refl)
only_directive qs m n (clause p xs) s e = absurd (n p xs s e)
only_directive qs m n (query xs) s e = absurd (m (ap mark_in e))

-- where no query begins, what is found of a clause is found of a clause or query
pub clause_alone : {E : Type 0} (qs : List Part) (r : Result (Option Layout) E) → (mark_in qs ≡ Some Ask → ⊥)
    → IfOk r (λ o. MatchOption o ((p : Phrase) (xs : List Item) → IsTrue (is_statement (clause p xs)) → qs ≡ statement_parts (clause p xs) → ⊥) (IsLaidOut qs))
    → IfOk r (λ o. MatchOption o ((s : Statement) → IsTrue (is_statement s) → qs ≡ statement_parts s → (w : Word) × (s ≡ directive w)) (IsLaidOut qs))
clause_alone qs (Ok None) m h = only_directive qs m h
clause_alone qs (Ok (Some l)) m h = h
clause_alone qs (Err e) m h = h
