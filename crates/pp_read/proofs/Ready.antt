-- What a statement writes, from what is known of its sentence.
use Rattle.std.proofs.Common.{◌≡◌, ℕ, suc, ◌+◌, Bool, true, false, List, length, map, Option, Some, None, refl, sym, ◌∙◌, subst}
use Rattle.std.specs.Prelude.{All, IsTrue, not, ◌≤◌, nat_le, count_by}
use Rattle.std.specs.declared.vec.Vec.{Vec}
use Rattle.std.specs.declared.alloc.Global.{Global}
use Rattle.std.specs.List.{list_all, list_any}
use Rattle.std.proofs.lemmas.Bool.{leb-true}
use Rattle.pp_algebra.specs.Least.{arguments}
use Rattle.pp_language.specs.declared.which.Which.{Which}
use Rattle.pp_language.specs.declared.which.Which.TheVariants.{Clauses, Arity, Variables, Goals}
use Rattle.pp_language.specs.Texts.{Text}
use Rattle.pp_language.specs.Printing.{name_at}
use Rattle.pp_language.specs.Phrases.{Phrase}
use Rattle.pp_language.specs.Statements.{Item, Statement, directive, clause, query, statement_parts, is_head, is_item, is_body_item, is_query_item, is_statement}
use Rattle.pp_language.proofs.OneItems.{clause_is, query_is}
use Rattle.pp_language.specs.Limits.{is_above, when, passed}
use Rattle.pp_term.specs.declared.clause.Clause as clauses
use Rattle.pp_term.specs.declared.query.Query as queries
use Rattle.pp_row.specs.Columns.{trees_of}
use Rattle.pp_term.specs.Meanings.{predicate_of, goal_of}
use Rattle.pp_query.specs.Meanings.{item_of}
use Rattle.pp_parse.specs.declared.parts.Part.{Part}
use Rattle.pp_parse.specs.declared.items.Entry.{Entry}
use Rattle.pp_parse.specs.declared.statement.Layout.{Layout}
use Rattle.pp_parse.specs.declared.statement.Layout.TheVariants as layouts
use Rattle.pp_read.specs.declared.sentence.Said.TheVariants.{Directive, Clause, Query, OverClause, OverQuery}
use Rattle.pp_build.specs.Pieces.{tree_at, predicate_of_tree}
use Rattle.pp_build.specs.Renumbered.{renumbered}
use Rattle.pp_build.specs.Values.{goal_from, item_from, HasCallableAt, IsGoalEntry, IsItemEntry}
use Rattle.pp_read.specs.Sizes.{is_annotated}
use Rattle.pp_read.specs.Passed.{is_wide, is_infer, clause_passed, query_passed}
use Rattle.pp_parse.specs.Layouts.{AreEntries, IsLayout}
use Rattle.pp_parse.specs.Parsed.{IsKnown, IsReady}
use Rattle.pp_read.specs.Sentences.{IsMade}
use Rattle.pp_read.proofs.MadeStatements.{clause_limit_is}
use Rattle.pp_read.proofs.MadeClauses.{clause_parts, clause_written}
use Rattle.pp_read.proofs.MadeQueries.{infers_counted, query_limit_is, query_parts_made, query_written}

-- where no limit is passed, no atom is too wide
narrow : (b : Bool) (later : Option Which) → when b Arity later ≡ None → b ≡ false
narrow true later h = absurd (cc)
narrow false later h = refl

narrow_second : (a b : Bool) (later : Option Which) → when a Clauses (when b Arity later) ≡ None → b ≡ false
narrow_second true b later h = absurd (cc)
narrow_second false b later h = narrow b later h

clause_narrow : (n : ℕ) (ps : List Part) (v : ℕ) → clause_passed n ps v ≡ None → list_any is_wide ps ≡ false
clause_narrow n ps v h = narrow_second (is_above 65535 (suc n)) (list_any is_wide ps) _ h

clause_few : (n : ℕ) (ps : List Part) (v : ℕ) → clause_passed n ps v ≡ None → v ≤ 255
clause_few n ps v h = go (is_above 65535 (suc n)) (list_any is_wide ps) (nat_le v 255) h (leb-true v 255)
  where
    go : (a b c : Bool) → when a Clauses (when b Arity (when (not c) Variables None)) ≡ None → (c ≡ true → v ≤ 255) → v ≤ 255
    go true b c e f = absurd (cc)
    go false true c e f = absurd (cc)
    go false false false e f = absurd (cc)
    go false false true e f = f refl

pub record AreFew (v : ℕ) (es : List Entry) : Type 0 where
  pub variables : v ≤ 10000
  pub goals : count_by is_infer es ≤ 1000

query_few : (ps : List Part) (v : ℕ) (es : List Entry) → query_passed ps v es ≡ None → AreFew v es
query_few ps v es h = go (list_any is_wide ps) (nat_le v 10000) (nat_le (count_by is_infer es) 1000) h (leb-true v 10000) (leb-true (count_by is_infer es) 1000)
  where
    go : (a b c : Bool) → when a Arity (when (not b) Variables (when (not c) Goals None)) ≡ None → (b ≡ true → v ≤ 10000) → (c ≡ true → count_by is_infer es ≤ 1000) → AreFew v es
    go true b c e f g = absurd (cc)
    go false false c e f g = absurd (cc)
    go false true false e f g = absurd (cc)
    go false true true e f g = record { variables = f refl; goals = g refl }

query_narrow : (ps : List Part) (v : ℕ) (es : List Entry) → query_passed ps v es ≡ None → list_any is_wide ps ≡ false
query_narrow ps v es h = narrow (list_any is_wide ps) _ h

module _ (names named : List Text) (count : ℕ) (ps : List Part) where
  -- ===== clauses

  record ClauseReady (es : List Entry) (s : Statement) : Type 0 where
    head : Phrase
    items : List Item
    same : s ≡ clause head items
    is_headed : is_head head ≡ true
    are_items : list_all is_item items ≡ true
    of_body : list_all is_body_item items ≡ true
    known : IsKnown names named count (statement_parts (clause head items)) ps
    entries : AreEntries 2 items es

  clause_ready : (y : Layout) (l : Vec Entry Global) → y ≡ layouts.Clause l → (r : IsReady names named count ps y) → ClauseReady l.items r.statement
  clause_ready y l e r = go r.statement r.is_statement r.known (subst (IsLayout r.statement) e r.layout)
    where
      go : (s : Statement) → IsTrue (is_statement s) → IsKnown names named count (statement_parts s) ps → IsLayout s (layouts.Clause l) → ClauseReady l.items s
      go (directive w) h k e = absurd e
      go (clause p is) h k e = let i = clause_is p is h in record { head = p; items = is; same = refl; is_headed = i.0; are_items = i.1; of_body = i.2; known = k; entries = e }
      go (query is) h k e = absurd e

  pub clause_fits : (y : Layout) (l : Vec Entry Global) (n : ℕ) → y ≡ layouts.Clause l → IsReady names named count ps y → None ≡ clause_passed n ps (length named + count) → HasCallableAt names ps 0 × All (IsGoalEntry names ps) l.items
  clause_fits y l n z r h =
      let c = clause_ready y l z r in
      let m = clause_parts names named count ps c.head c.items c.is_headed c.are_items c.known l.items c.of_body (clause_narrow n ps (length named + count) (sym h)) c.entries in
      (m.head, m.body)

  pub clause_is_made : (y : Layout) (l : Vec Entry Global) (n : ℕ) → y ≡ layouts.Clause l → (r : IsReady names named count ps y) (c : clauses.Clause) → None ≡ clause_passed n ps (length named + count)
      → predicate_of c.pred ≡ predicate_of_tree (tree_at ps 0) → trees_of c.head ≡ arguments (tree_at ps 0) → map goal_of c.body ≡ map (goal_from names ps) l.items → c.vars ≡ length named + count → IsMade names n r.statement (Clause (renumbered c))
  clause_is_made y l n z r c h pred head body vars =
      let k = clause_ready y l z r in
      let m = clause_parts names named count ps k.head k.items k.is_headed k.are_items k.known l.items k.of_body (clause_narrow n ps (length named + count) (sym h)) k.entries in
      let w = clause_written names named count ps k.head k.items k.is_headed k.are_items k.known l.items c m pred head body vars in
      let p : passed n (clause k.head k.items) ≡ None = sym (clause_limit_is names named count ps k.head k.items k.is_headed k.are_items k.known n) ∙ sym h in
      let few : c.vars ≤ 255 = subst (λ v. v ≤ 255) (sym vars) (clause_few n ps (length named + count) (sym h)) in
      subst (λ s. IsMade names n s (Clause (renumbered c))) (sym k.same) (p, w.value, record { formed = w.formed; counted = w.counted; few_variables = few })

  pub clause_is_over : (y : Layout) (l : Vec Entry Global) (n : ℕ) → y ≡ layouts.Clause l → (r : IsReady names named count ps y) (w : Which) → Some w ≡ clause_passed n ps (length named + count) → IsMade names n r.statement (OverClause w)
  clause_is_over y l n z r w h =
      let k = clause_ready y l z r in
      subst (λ s. IsMade names n s (OverClause w)) (sym k.same) (sym (clause_limit_is names named count ps k.head k.items k.is_headed k.are_items k.known n) ∙ sym h)

  -- ===== queries

  record QueryReady (es : List Entry) (s : Statement) : Type 0 where
    items : List Item
    same : s ≡ query items
    are_items : list_all is_item items ≡ true
    of_query : list_all is_query_item items ≡ true
    known : IsKnown names named count (statement_parts (query items)) ps
    entries : AreEntries 1 items es

  query_ready : (y : Layout) (l : Vec Entry Global) → y ≡ layouts.Query l → (r : IsReady names named count ps y) → QueryReady l.items r.statement
  query_ready y l e r = go r.statement r.is_statement r.known (subst (IsLayout r.statement) e r.layout)
    where
      go : (s : Statement) → IsTrue (is_statement s) → IsKnown names named count (statement_parts s) ps → IsLayout s (layouts.Query l) → QueryReady l.items s
      go (directive w) h k e = absurd e
      go (clause p is) h k e = absurd e
      go (query is) h k e = let i = query_is is h in record { items = is; same = refl; are_items = i.1; of_query = i.2; known = k; entries = e }

  pub query_fits : (y : Layout) (l : Vec Entry Global) → y ≡ layouts.Query l → IsReady names named count ps y → None ≡ query_passed ps (length named + count) l.items → All (IsItemEntry names ps) l.items
  query_fits y l z r h =
      let k = query_ready y l z r in
      (query_parts_made names named count ps k.items k.are_items k.known l.items k.of_query (query_narrow ps (length named + count) l.items (sym h)) k.entries).fits

  pub query_is_made : (y : Layout) (l : Vec Entry Global) (n : ℕ) → y ≡ layouts.Query l → (r : IsReady names named count ps y) (q : queries.Query) → None ≡ query_passed ps (length named + count) l.items
      → q.vars ≡ length named + count → map (name_at names) q.named ≡ named → map item_of q.items ≡ map (item_from names ps) l.items → IsMade names n r.statement (Query q)
  query_is_made y l n z r q h vars texts items =
      let k = query_ready y l z r in
      let m = query_parts_made names named count ps k.items k.are_items k.known l.items k.of_query (query_narrow ps (length named + count) l.items (sym h)) k.entries in
      let w = query_written names named count ps k.items k.are_items k.known l.items q k.of_query m vars texts items in
      let p : passed n (query k.items) ≡ None = sym (query_limit_is names named count ps k.items k.are_items k.known n l.items k.entries) ∙ sym h in
      let f = query_few ps (length named + count) l.items (sym h) in
      let goals : count_by is_annotated q.items ≤ 1000 = subst (λ v. v ≤ 1000) (infers_counted 1 k.items l.items k.entries ∙ sym w.goals) f.goals in
      let variables : q.vars ≤ 10000 = subst (λ v. v ≤ 10000) (sym vars) f.variables in
      subst (λ s. IsMade names n s (Query q)) (sym k.same) (p, w.value, record { formed = w.formed; few_variables = variables; few_goals = goals })

  pub query_is_over : (y : Layout) (l : Vec Entry Global) (n : ℕ) → y ≡ layouts.Query l → (r : IsReady names named count ps y) (w : Which) → Some w ≡ query_passed ps (length named + count) l.items → IsMade names n r.statement (OverQuery w)
  query_is_over y l n z r w h =
      let k = query_ready y l z r in
      subst (λ s. IsMade names n s (OverQuery w)) (sym k.same) (sym (query_limit_is names named count ps k.items k.are_items k.known n l.items k.entries) ∙ sym h)

  -- ===== directives

  pub directive_is_made : (y : Layout) (n : ℕ) → y ≡ layouts.Directive → (r : IsReady names named count ps y) → IsMade names n r.statement Directive
  directive_is_made y n z r = go r.statement (subst (IsLayout r.statement) z r.layout)
    where
      go : (s : Statement) → IsLayout s layouts.Directive → IsMade names n s Directive
      go (directive w) e = tt
      go (clause p is) e = absurd e
      go (query is) e = absurd e
