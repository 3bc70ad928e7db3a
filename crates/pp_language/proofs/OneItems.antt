-- The parts of items between commas determine the items, and so the parts of a sentence its statement.
use Rattle.std.proofs.Common.{◌≡◌, true, List, [], ◌∷◌, refl, ap, ◌∙◌}
use Rattle.std.specs.Prelude.{IsTrue, ◌&&◌}
use Rattle.std.specs.List.{list_all}
use Rattle.std.proofs.lemmas.Bool.{and_parts}
use Rattle.pp_language.specs.declared.token.Kind.TheVariants.{Neck, Ask}
use Rattle.pp_language.specs.Phrases.{Phrase, said, no_phrases}
use Rattle.pp_language.specs.Statements.{Item, Statement, directive, clause, query, more_items, items_parts, statement_parts, is_head, is_item, is_body_item, is_query_item, some_item, is_statement}
use Rattle.pp_language.proofs.ItemRead.{IsItemEnd, item-is}

pub more_end : (is : List Item) → IsItemEnd (more_items is)
more_end [] = tt
more_end (i ∷ is) = refl

more-is : (is js : List Item) → IsTrue (list_all is_item is) → IsTrue (list_all is_item js) → more_items is ≡ more_items js → is ≡ js
more-is [] [] v w e = refl
more-is [] (j ∷ js) v w e = absurd (cc)
more-is (i ∷ is) [] v w e = absurd (cc)
more-is (i ∷ is) (j ∷ js) v w e =
    let a = and_parts (is_item i) (list_all is_item is) v in
    let b = and_parts (is_item j) (list_all is_item js) w in
    let h = item-is i j (more_items is) (more_items js) a.0 b.0 (more_end is) (more_end js) (cc (e)) in
    ap (λ x. x ∷ is) h.0 ∙ ap (λ xs. j ∷ xs) (more-is is js a.1 b.1 h.1)

pub items-is : (is js : List Item) → IsTrue (some_item is) → IsTrue (some_item js) → IsTrue (list_all is_item is) → IsTrue (list_all is_item js) → items_parts is ≡ items_parts js → is ≡ js
items-is [] js s t v w e = absurd (cc (s))
items-is (i ∷ is) [] s t v w e = absurd (cc (t))
items-is (i ∷ is) (j ∷ js) s t v w e =
    let a = and_parts (is_item i) (list_all is_item is) v in
    let b = and_parts (is_item j) (list_all is_item js) w in
    let h = item-is i j (more_items is) (more_items js) a.0 b.0 (more_end is) (more_end js) e in
    ap (λ x. x ∷ is) h.0 ∙ ap (λ xs. j ∷ xs) (more-is is js a.1 b.1 h.1)

-- the tests of a clause and of a query, one by one
pub clause_is : (p : Phrase) (is : List Item) → is_statement (clause p is) ≡ true → (is_head p ≡ true) × (list_all is_item is ≡ true) × (list_all is_body_item is ≡ true)
clause_is p is h =
    let k = and_parts (is_head p && list_all is_item is) (list_all is_body_item is) h in
    let l = and_parts (is_head p) (list_all is_item is) k.0 in
    (l.0, l.1, k.1)

pub query_is : (is : List Item) → is_statement (query is) ≡ true → (some_item is ≡ true) × (list_all is_item is ≡ true) × (list_all is_query_item is ≡ true)
query_is is h =
    let k = and_parts (some_item is && list_all is_item is) (list_all is_query_item is) h in
    let l = and_parts (some_item is) (list_all is_item is) k.0 in
    (l.0, l.1, k.1)

pub statement-is : (s t : Statement) → IsTrue (is_statement s) → IsTrue (is_statement t) → statement_parts s ≡ statement_parts t → s ≡ t
statement-is (directive w) (directive x) v u e =
    let f : said w no_phrases ≡ said x no_phrases = cc (e) in
    let g : w ≡ x = cc (f) in
    ap directive g
statement-is (directive w) (clause q []) v u e = absurd (cc)
statement-is (directive w) (clause q (j ∷ js)) v u e = absurd (cc)
statement-is (directive w) (query js) v u e = let k : Neck ≡ Ask = cc (e) in absurd (cc (k))
statement-is (clause p []) (directive x) v u e = absurd (cc)
statement-is (clause p (i ∷ is)) (directive x) v u e = absurd (cc)
statement-is (clause p []) (clause q []) v u e = let g : p ≡ q = cc (e) in ap (λ y. clause y []) g
statement-is (clause p []) (clause q (j ∷ js)) v u e = absurd (cc)
statement-is (clause p (i ∷ is)) (clause q []) v u e = absurd (cc)
statement-is (clause p (i ∷ is)) (clause q (j ∷ js)) v u e =
    let g : p ≡ q = cc (e) in
    let f : items_parts (i ∷ is) ≡ items_parts (j ∷ js) = cc (e) in
    let h = items-is (i ∷ is) (j ∷ js) refl refl (clause_is p (i ∷ is) v).1 (clause_is q (j ∷ js) u).1 f in
    ap (λ y. clause y (i ∷ is)) g ∙ ap (clause q) h
statement-is (clause p []) (query js) v u e = absurd (cc)
statement-is (clause p (i ∷ is)) (query js) v u e = absurd (cc)
statement-is (query is) (directive x) v u e = let k : Ask ≡ Neck = cc (e) in absurd (cc (k))
statement-is (query is) (clause q []) v u e = absurd (cc)
statement-is (query is) (clause q (j ∷ js)) v u e = absurd (cc)
statement-is (query is) (query js) v u e =
    let f : items_parts is ≡ items_parts js = cc (e) in
    let a = query_is is v in
    let b = query_is js u in
    ap query (items-is is js a.0 b.0 a.1 b.1 f)
