use Rattle.std.proofs.Common.{ap, sym, ◌∙◌, subst, arith, All}
use Rattle.pp_algebra.specs.Terms.{count}
use Rattle.pp_row.specs.Columns.{trees_of}
use Rattle.pp_term.specs.WellFormed.{IsItem}
use Rattle.pp_propagation.specs.Stores.{Begins}
use Rattle.pp_unify.specs.States.{present, IsOver}
use Rattle.pp_unify.specs.Forests.{AreDecided}
use Rattle.pp_store.specs.Queries.{query_by}
use Rattle.pp_store.proofs.Solving.{items_in, free_at_first, items_whole, decided_begins, decided_nowhere, begun-count, variables_over, whole_row}
use Rattle.pp_store.proofs.store.Store.begin.Goals as goal

pub solve_items-requires : goal.solve_items-requires
solve_items-requires c =
    let p = present c.add_many.new.self in
    let q = c.args.query.now in
    let fresh = free_at_first p c.new-bindings.result q.vars c.new-bindings.ensures c.in_ok-add_many.ensures.added in
    record { items = subst (λ es. All (IsItem (count p.columns)) es) (sym c.as_slice.ensures) (items_whole q c.requires.query p fresh) }

pub returns-then-not-branch-clause-begins : goal.returns-then-not-branch-clause-begins
returns-then-not-branch-clause-begins c =
    let p = present c.add_many.new.self in
    let q = c.args.query.now in
    let fresh = free_at_first p c.new-bindings.result q.vars c.new-bindings.ensures c.in_ok-add_many.ensures.added in
    let decided = subst (λ b. AreDecided p (items_in q.items) b (present c.solve_items.new.bindings)) c.if-not-branch.true (subst (λ es. AreDecided p (items_in es) c.in_ok-solve_items.field-0 (present c.solve_items.new.bindings)) c.as_slice.ensures c.in_ok-solve_items.ensures.decided) in
    decided_nowhere q c.requires.query p fresh decided

pub resolve_row-requires : goal.resolve_row-requires
resolve_row-requires c =
    let p = present c.add_many.new.self in
    let r = present c.solve_items.new.bindings in
    let q = c.args.query.now in
    let fresh = free_at_first p c.new-bindings.result q.vars c.new-bindings.ensures c.in_ok-add_many.ensures.added in
    let decided = subst (λ b. AreDecided p (items_in q.items) b r) c.if-not-branch.false (subst (λ es. AreDecided p (items_in es) c.in_ok-solve_items.field-0 r) c.as_slice.ensures c.in_ok-solve_items.ensures.decided) in
    let begun = decided_begins q c.requires.query p r fresh decided in
    record { over = subst (λ ts. All (IsOver r) ts) (sym c.as_slice-2.ensures.value) (variables_over r 0 q.vars c.in_ok-columns.columns.items c.in_ok-columns.ensures (omega (arith, begun-count q r begun))) }

pub returns-clause-begins : goal.returns-clause-begins
returns-clause-begins c =
    let p = present c.add_many.new.self in
    let r = present c.solve_items.new.bindings in
    let q = c.args.query.now in
    let fresh = free_at_first p c.new-bindings.result q.vars c.new-bindings.ensures c.in_ok-add_many.ensures.added in
    let decided = subst (λ b. AreDecided p (items_in q.items) b r) c.if-not-branch.false (subst (λ es. AreDecided p (items_in es) c.in_ok-solve_items.field-0 r) c.as_slice.ensures c.in_ok-solve_items.ensures.decided) in
    let begun = decided_begins q c.requires.query p r fresh decided in
    let same = c.in_ok-row.ensures ∙ whole_row r q.vars c.as_slice-2.result.now begun.row (begun-count q r begun) (ap (λ ts. trees_of ts) c.as_slice-2.ensures.value ∙ c.in_ok-columns.ensures) in
    subst (λ x. Begins (query_by q) x) (sym (c.in_ok-new.ensures.row ∙ same)) begun

pub returns-clause-of_query : goal.returns-clause-of_query
returns-clause-of_query c =
    let p = present c.add_many.new.self in
    let r = present c.solve_items.new.bindings in
    let q = c.args.query.now in
    let fresh = free_at_first p c.new-bindings.result q.vars c.new-bindings.ensures c.in_ok-add_many.ensures.added in
    let decided = subst (λ b. AreDecided p (items_in q.items) b r) c.if-not-branch.false (subst (λ es. AreDecided p (items_in es) c.in_ok-solve_items.field-0 r) c.as_slice.ensures c.in_ok-solve_items.ensures.decided) in
    let begun = decided_begins q c.requires.query p r fresh decided in
    let same = c.in_ok-row.ensures ∙ whole_row r q.vars c.as_slice-2.result.now begun.row (begun-count q r begun) (ap (λ ts. trees_of ts) c.as_slice-2.ensures.value ∙ c.in_ok-columns.ensures) in
    ap (λ x. count x.columns) (c.in_ok-new.ensures.row ∙ same) ∙ begun-count q r begun
