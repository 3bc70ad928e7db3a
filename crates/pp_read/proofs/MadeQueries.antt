-- The query that the code makes is the one that the statement writes, it is well formed, and the limits are those that it passes.
use Rattle.std.proofs.Common.{◌≡◌, ℕ, suc, ◌+◌, true, false, List, [], ◌∷◌, length, map, refl, ap, sym, ◌∙◌, subst, arith, None}
use Rattle.std.specs.Prelude.{All, Bool, cond, count_by}
use Rattle.std.specs.List.{list_all, list_any}
use Rattle.std.proofs.Math.ListN.{length-map}
use Rattle.std.proofs.lemmas.List.Sums.{sum_by-cons}
use Rattle.std.proofs.lemmas.Bool.{and_parts}
use Rattle.pp_algebra.specs.Terms.{Trees}
use Rattle.pp_algebra.specs.Canon.{firsts}
use Rattle.pp_language.specs.declared.token.Kind.TheVariants.{Ask}
use Rattle.pp_language.specs.declared.which.Which.TheVariants.{Arity, Variables, Goals}
use Rattle.pp_language.specs.Texts.{Text}
use Rattle.pp_algebra.specs.Texts.{same_text}
use Rattle.pp_language.specs.Printing.{name_at}
use Rattle.pp_language.specs.Programs as programs
use Rattle.pp_language.specs.Keys.{texts_of, numbered}
use Rattle.pp_language.specs.Phrases.{mark, parts_words}
use Rattle.pp_language.specs.Statements.{Item, calls, equates, belongs, compares, asks, query, statement_parts, item_parts, items_parts, is_item, is_query_item}
use Rattle.pp_language.specs.Meanings.{blanks_all, item_phrases, item_by, items_by, query_by, keyed_lists}
use Rattle.pp_language.specs.Limits.{is_above, variable_count, item_too_wide, goal_count, when, passed}
use Rattle.pp_term.specs.declared.query.Item as asked
use Rattle.pp_term.specs.declared.query.Item.TheVariants as items
use Rattle.pp_term.specs.declared.query.Query.{Query}
use Rattle.pp_query.specs.Meanings.{item_of}
use Rattle.pp_build.specs.Meanings.{query_of}
use Rattle.pp_term.specs.WellFormed.{IsQuery}
use Rattle.pp_parse.specs.declared.parts.Part.{Part}
use Rattle.pp_parse.specs.declared.items.Entry.{Entry}
use Rattle.pp_build.specs.Values.{item_from, IsItemEntry}
use Rattle.pp_read.specs.Sizes.{is_annotated}
use Rattle.pp_read.specs.Passed.{is_wide, is_infer, query_passed}
use Rattle.pp_parse.specs.Parsed.{IsKnown}
use Rattle.pp_parse.specs.Layouts.{IsEntry, AreEntries}
use Rattle.pp_parse.proofs.KnownTexts.{Known, firsts_known}
use Rattle.pp_read.proofs.Keys.{keys_by}
use Rattle.pp_read.proofs.ListKeys.{list_keys, list_blanks, list_terms, AreKeys, keys_of_all}
use Rattle.pp_read.proofs.PartsAt.{parts_wide, behind, good_all}
use Rattle.pp_read.proofs.PartTexts.{words_texts, words_blanks, items_texts, items_blanks, items_wide}
use Rattle.pp_read.proofs.MadeItems.{values, all_made}
use Rattle.pp_read.proofs.MadeQuery.{query_made}
use Rattle.pp_parse.proofs.Spelled.{spelled_all}
use Rattle.pp_read.proofs.MadeClauses.{items_are}
use Rattle.pp_read.proofs.WellMade.{Below, lists_below, items_made}

values_are : (names : List Text) (is : List Item) (tss : List (Trees ℕ)) → values (item_by names) is tss ≡ items_by names is tss
values_are names [] tss = refl
values_are names (i ∷ is) [] = refl
values_are names (i ∷ is) (ts ∷ tss) = ap (λ gs. item_by names i ts ∷ gs) (values_are names is tss)

-- ===== annotated goals

abbrev is_infers : programs.QueryItem → Bool
is_infers (programs.solves i) = false
is_infers (programs.infers g m) = true

infers_cons : (e : Entry) (es : List Entry) → count_by is_infer (e ∷ es) ≡ cond (is_infer e) 1 0 + count_by is_infer es
infers_cons e es = sum_by-cons (λ x. cond (is_infer x) 1 0) e es

pub infers_counted : (i : ℕ) (is : List Item) (es : List Entry) → AreEntries i is es → count_by is_infer es ≡ goal_count is
infers_counted i [] [] s = refl
infers_counted i [] (e ∷ es) s = absurd s
infers_counted i (x ∷ is) [] s = absurd s
infers_counted i (x ∷ is) (e ∷ es) s = omega (arith, infers_cons e es, infers_counted (i + suc (length (item_parts x))) is es s.1, one x s.0)
  where
    one : (y : Item) → IsEntry i y e → cond (is_infer e) 1 0 + goal_count is ≡ goal_count (y ∷ is)
    one (calls p) h = rw h (omega arith)
    one (equates p q) h = rw h (omega arith)
    one (belongs p d) h = rw h.1 (omega arith)
    one (compares k p q) h = rw h.1 (omega arith)
    one (asks p m) h = rw h.1 (omega arith)

-- of items with these values
annotated : (names : List Text) (gs : List asked.Item) (is : List Item) (tss : List (Trees ℕ)) → list_all is_query_item is ≡ true → map item_of gs ≡ items_by names is tss → length is ≡ length tss → count_by is_annotated gs ≡ goal_count is
annotated names [] [] tss k e l = refl
annotated names [] (x ∷ is) [] k e l = absurd (omega arith)
annotated names [] (x ∷ is) (ts ∷ tss) k e l = absurd (cc)
annotated names (g ∷ gs) [] tss k e l = absurd (cc)
annotated names (g ∷ gs) (x ∷ is) [] k e l = absurd (omega arith)
annotated names (g ∷ gs) (x ∷ is) (ts ∷ tss) k e l =
    let kinds = and_parts (is_query_item x) (list_all is_query_item is) k in
    let one : item_of g ≡ item_by names x ts = cc in
    let rest : map item_of gs ≡ items_by names is tss = cc in
    sum_by-cons (λ y. cond (is_annotated y) 1 0) g gs ∙ ap (λ b. cond b 1 0 + count_by is_annotated gs) (kind g ∙ ap is_infers one) ∙ ap (λ n. cond (is_infers (item_by names x ts)) 1 0 + n) (annotated names gs is tss kinds.1 rest (omega arith)) ∙ last x kinds.0
  where
    kind : (i : asked.Item) → is_annotated i ≡ is_infers (item_of i)
    kind (items.Equate a b) = refl
    kind (items.Member t d) = refl
    kind (items.Infer s us m) = refl

    last : (y : Item) → is_query_item y ≡ true → cond (is_infers (item_by names y ts)) 1 0 + goal_count is ≡ goal_count (y ∷ is)
    last (calls p) h = absurd (cc (h))
    last (equates p q) h = omega arith
    last (belongs p s) h = omega arith
    last (compares k p q) h = absurd (cc (h))
    last (asks p m) h = omega arith

items_length : (names named : List Text) (n : ℕ) (is : List Item) → length is ≡ length (list_terms names named n (map item_phrases is))
items_length names named n [] = refl
items_length names named n (i ∷ is) = ap suc (items_length names named (n + blanks_all (item_phrases i)) is)

-- ===== a query

abbrev make_query : ℕ → List Text → List programs.QueryItem → programs.Query
make_query n xs is = record { variables = n; named = xs; items = is }

-- the variables of the items are numbered as the code numbers them
query_is : (names named : List Text) (count : ℕ) (is : List Item) → AreKeys names named count (map item_phrases is) → make_query (length named + count) named (items_by names is (list_terms names named (length named) (map item_phrases is))) ≡ query_by names is
query_is names named count is k =
    let pss = map item_phrases is in
    let tss = keyed_lists names 0 pss in
    let ks = keys_by named count in
    ap (λ ts. make_query (length named + count) named (items_by names is ts)) (sym k.terms)
    ∙ ap (λ n. make_query n named (items_by names is (map (numbered ks) tss))) (sym k.size)
    ∙ ap (λ xs. make_query (length ks) xs (items_by names is (map (numbered ks) tss))) (sym k.texts)
    ∙ ap (λ hs. make_query (length hs) (texts_of hs) (items_by names is (map (numbered hs) tss))) (sym k.keys)

module _ (names named : List Text) (count : ℕ) (ps : List Part) (is : List Item) (g : list_all is_item is ≡ true) (k : IsKnown names named count (statement_parts (query is)) ps) where
  query_named : named ≡ firsts same_text [] (texts_of (list_keys names 0 (map item_phrases is)))
  query_named = k.named_is ∙ ap (firsts same_text []) (words_texts (statement_parts (query is)) k.formed ∙ items_texts names is 0 g)

  query_counted : count ≡ list_blanks (map item_phrases is)
  query_counted = k.count_is ∙ words_blanks (statement_parts (query is)) k.formed ∙ (let e = items_blanks names is g in omega arith)

  query_keys : AreKeys names named count (map item_phrases is)
  query_keys = subst (λ n. AreKeys names named n (map item_phrases is)) (sym query_counted) (keys_of_all names named (map item_phrases is) query_named)

  query_width : list_any is_wide ps ≡ list_any item_too_wide is
  query_width = parts_wide names named (length named) 0 (statement_parts (query is)) ps k.are ∙ items_wide names is g

  pub query_limit_is : (n : ℕ) (es : List Entry) → AreEntries 1 is es → query_passed ps (length named + count) es ≡ passed n (query is)
  query_limit_is n es s =
      ap (λ b. when b Arity (when (is_above 10000 (length named + count)) Variables (when (is_above 1000 (count_by is_infer es)) Goals None))) query_width
      ∙ ap (λ v. when (list_any item_too_wide is) Arity (when (is_above 10000 v) Variables (when (is_above 1000 (count_by is_infer es)) Goals None))) (sym query_keys.counted)
      ∙ ap (λ v. when (list_any item_too_wide is) Arity (when (is_above 10000 (variable_count (map item_phrases is))) Variables (when (is_above 1000 v) Goals None))) (infers_counted 1 is es s)

  pub record QueryMade (es : List Entry) : Type 0 where
    pub fits : All (IsItemEntry names ps) es
    pub items : map (item_from names ps) es ≡ items_by names is (list_terms names named (length named) (map item_phrases is))

  -- where no atom is too wide
  pub query_parts_made : (es : List Entry) → list_all is_query_item is ≡ true → list_any is_wide ps ≡ false → AreEntries 1 is es → QueryMade es
  query_parts_made es d w s =
      let qs = statement_parts (query is) in
      let items = items_parts is in
      let good = good_all names qs k.known (spelled_all (parts_words qs) k.spelled) (sym (parts_wide names named (length named) 0 qs ps k.are) ∙ w) in
      let b = behind names named (length named) (length named) 0 (mark Ask ∷ []) items ps (omega arith) k.are in
      let r = all_made names named ps is_query_item (IsItemEntry names ps) (item_from names ps) (item_by names) (query_made names named ps) is es 1 (length named) _ g d s b good.1 in
      record { fits = r.fits; items = r.are ∙ values_are names is (list_terms names named (length named) (map item_phrases is)) }

  query_below : All (Below (length named + count)) (list_terms names named (length named) (map item_phrases is))
  query_below =
      let pss = map item_phrases is in
      let known : All (Known named) (texts_of (list_keys names 0 pss)) = subst (λ xs. All (Known xs) (texts_of (list_keys names 0 pss))) (sym query_named) (firsts_known (texts_of (list_keys names 0 pss))) in
      let size : count ≡ list_blanks pss = query_counted in
      lists_below names named (length named + count) (omega arith) 0 (length named) pss (items_are is g) known (omega arith)

  pub record IsQueryWritten (q : Query) : Type 0 where
    pub value : query_of names q ≡ query_by names is
    pub formed : IsQuery q
    pub goals : count_by is_annotated q.items ≡ goal_count is

  pub query_written : (es : List Entry) (q : Query) → list_all is_query_item is ≡ true → QueryMade es → q.vars ≡ length named + count → map (name_at names) q.named ≡ named → map item_of q.items ≡ map (item_from names ps) es → IsQueryWritten q
  query_written es q d m vars texts made =
      let value = ap (λ n. make_query n (map (name_at names) q.named) (map item_of q.items)) vars
      ∙ ap (λ xs. make_query (length named + count) xs (map item_of q.items)) texts
      ∙ ap (λ is. make_query (length named + count) named is) (made ∙ m.items)
      ∙ query_is names named count is query_keys
      in
      record {
        value = value;
        goals = annotated names q.items is (list_terms names named (length named) (map item_phrases is)) d (made ∙ m.items) (items_length names named (length named) is);
        formed = record {
          named = omega (arith, length-map q.named (name_at names), ap length texts);
          items = items_made names named q.vars q.items is (length named) d (made ∙ m.items) (subst (λ v. All (Below v) (list_terms names named (length named) (map item_phrases is))) (sym vars) query_below);
        };
      }
