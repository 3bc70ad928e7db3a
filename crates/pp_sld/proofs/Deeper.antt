-- The tree of a configuration with more depth: the answers stay, and what is new lies under a loose end.
use Rattle.std.proofs.Common.{◌≡◌, ℕ, ℤ, zero, suc, ◌≤◌, List, [], ◌∷◌, ◌++◌, map, refl, sym, subst, inl, inr, arith}
use Rattle.pp_algebra.specs.Rows.{Row}
use Rattle.pp_algebra.specs.Covers.{IsIn}
use Rattle.pp_algebra.proofs.Order.{IsIn-left, IsIn-right}
use Rattle.pp_algebra.proofs.Antisym.{IsIn-either}
use Rattle.pp_sld.specs.Goals.{Predicate, Goal, Clause, Program, Config}
use Rattle.pp_sld.specs.Selection.{Act, calls, solves, never, splits, Selection, all_wait, selected, select, at_place}
use Rattle.pp_sld.specs.Ways.{Way, Leads, IsDead, Next, finished, left_loose, fails, one, choices, call_next, act_next, select_next, goals_next, next, clause_way, built_in_way, values_of}
use Rattle.pp_sld.specs.Trees.{Search, answer, loose, refused, passed, choice, Searches, no_more, child, failed, IsSearch, AreSearches}
use Rattle.pp_sld.specs.Trace.{leaves, leaves_all}
use Rattle.pp_sld.specs.Leaves.{leaf_row, answer_rows, loose_rows}
use Rattle.pp_sld.specs.Growth.{at_depth, CoveredByOne, Grown}
use Rattle.pp_sld.specs.Laws.{LeavesGrow}
use Rattle.pp_sld.proofs.Trees.{tree, tree-IsSearch}
use Rattle.pp_sld.proofs.Once.{once}
use Rattle.pp_sld.proofs.LeafRows.{EachRow, each-answer, each-loose, leaves-child, answer_rows-append, loose_rows-append}
use Rattle.pp_sld.proofs.CallCovers.{IsBelow, row_below, all_below}

abbrev pub way_at : Way → ℕ → Way
way_at w n = record { goals = w.goals; columns = w.columns; domains = w.domains; items = w.items; depth = n }

-- the same way with more depth
abbrev Alike : Way → Way → Type 0
Alike w v = (n : ℕ) × (w.depth ≤ n) × (v ≡ way_at w n)

abbrev AllAlike : List Way → List Way → Type 0
AllAlike [] vs = vs ≡ []
AllAlike (w ∷ ws) vs = (v : Way) × (us : List Way) × (vs ≡ v ∷ us) × Alike w v × AllAlike ws us

abbrev NextAlike : Next → Next → Type 0
NextAlike finished m = m ≡ finished
NextAlike left_loose m = Unit {0}
NextAlike fails m = m ≡ fails
NextAlike (one w) m = (v : Way) × (m ≡ one v) × Alike w v
NextAlike (choices ws) m = (vs : List Way) × (m ≡ choices vs) × AllAlike ws vs

module _ (clauses : Program) (c : Config) (n : ℕ) (more : c.depth ≤ n) (before : List (Goal ℕ)) (g : Goal ℕ) (after : List (Goal ℕ)) where
  clauses_alike : (d e : ℕ) → d ≤ e → (cls : List Clause) → AllAlike (map (clause_way c before g after d) cls) (map (clause_way (at_depth c n) before g after e) cls)
  clauses_alike d e l [] = refl
  clauses_alike d e l (cl ∷ cls) = (clause_way (at_depth c n) before g after e cl, map (clause_way (at_depth c n) before g after e) cls, refl, (e, l, refl), clauses_alike d e l cls)

  values_alike : (ns : List ℤ) → AllAlike (map (λ k. built_in_way c before after (at_place 0 k g.arguments)) ns) (map (λ k. built_in_way (at_depth c n) before after (at_place 0 k g.arguments)) ns)
  values_alike [] = refl
  values_alike (k ∷ ns) = (built_in_way (at_depth c n) before after (at_place 0 k g.arguments), map (λ j. built_in_way (at_depth c n) before after (at_place 0 j g.arguments)) ns, refl, (n, more, refl), values_alike ns)

  call_alike : (p : Predicate) (d e : ℕ) → d ≤ e → NextAlike (call_next clauses c before g after p d) (call_next clauses (at_depth c n) before g after p e)
  call_alike p zero e l = tt
  call_alike p (suc d) zero l = absurd (omega (arith, l))
  call_alike p (suc d) (suc e) l = (map (clause_way (at_depth c n) before g after e) (clauses p), refl, clauses_alike d e (omega (arith, l)) (clauses p))

  act_alike : (a : Act) → NextAlike (act_next clauses c before g after a) (act_next clauses (at_depth c n) before g after a)
  act_alike (calls p) = call_alike p c.depth n more
  act_alike (solves items) = (built_in_way (at_depth c n) before after items, refl, (n, more, refl))
  act_alike never = refl
  act_alike splits = (map (λ k. built_in_way (at_depth c n) before after (at_place 0 k g.arguments)) (values_of c.domains g.arguments), refl, values_alike (values_of c.domains g.arguments))

module _ (clauses : Program) (c : Config) (n : ℕ) (more : c.depth ≤ n) where
  select_alike : (s : Selection) → NextAlike (select_next clauses c s) (select_next clauses (at_depth c n) s)
  select_alike all_wait = tt
  select_alike (selected before g after a) = act_alike clauses c n more before g after a

  goals_alike : (gs : List (Goal ℕ)) → NextAlike (goals_next clauses c gs) (goals_next clauses (at_depth c n) gs)
  goals_alike [] = refl
  goals_alike (g ∷ gs) = select_alike (select c.domains (g ∷ gs))

  next_alike : NextAlike (next clauses c) (next clauses (at_depth c n))
  unfolding next
  next_alike = goals_alike c.goals

grown-none : Grown [] [] [] []
grown-none = ((λ r i. i), (λ r i. absurd i), (λ r i. absurd i))

under-left : (r : Row) (C D : List Row) → CoveredByOne r C → CoveredByOne r (C ++ D)
under-left r C D u = (u.0, IsIn-left u.0 C D u.1, u.2)

under-right : (r : Row) (C D : List Row) → CoveredByOne r D → CoveredByOne r (C ++ D)
under-right r C D u = (u.0, IsIn-right u.0 C D u.1, u.2)

grown-both : (A C B D E G F H : List Row) → Grown A C B D → Grown E G F H → Grown (A ++ E) (C ++ G) (B ++ F) (D ++ H)
grown-both A C B D E G F H h k = (
  (λ r i. elim (IsIn-either r A E i) [ inl j ↦ IsIn-left r B F (h.0 r j) | inr j ↦ IsIn-right r B F (k.0 r j) ]),
  (λ r i. elim (IsIn-either r B F i) [
    | inl j ↦ elim (h.1 r j) [ inl x ↦ inl (IsIn-left r A E x) | inr u ↦ inr (under-left r C G u) ]
    | inr j ↦ elim (k.1 r j) [ inl x ↦ inl (IsIn-right r A E x) | inr u ↦ inr (under-right r C G u) ]
  ]),
  (λ r i. elim (IsIn-either r D H i) [ inl j ↦ under-left r C G (h.2 r j) | inr j ↦ under-right r C G (k.2 r j) ]),
)

abbrev pub TreeGrown : Search → Search → Type 0
TreeGrown t u = Grown (answer_rows (leaves t)) (loose_rows (leaves t)) (answer_rows (leaves u)) (loose_rows (leaves u))

abbrev AllGrown : Searches → Searches → Type 0
AllGrown ts us = Grown (answer_rows (leaves_all ts)) (loose_rows (leaves_all ts)) (answer_rows (leaves_all us)) (loose_rows (leaves_all us))

child-grown : (t u : Search) (ts us : Searches) → TreeGrown t u → AllGrown ts us → AllGrown (child t ts) (child u us)
child-grown t u ts us h k =
    rw (leaves-child t ts, leaves-child u us, answer_rows-append (leaves t) (leaves_all ts), loose_rows-append (leaves t) (leaves_all ts), answer_rows-append (leaves u) (leaves_all us), loose_rows-append (leaves u) (leaves_all us))
    (grown-both (answer_rows (leaves t)) (loose_rows (leaves t)) (answer_rows (leaves u)) (loose_rows (leaves u)) (answer_rows (leaves_all ts)) (loose_rows (leaves_all ts)) (answer_rows (leaves_all us)) (loose_rows (leaves_all us)) h k)

leads_deeper : (w : Way) (n : ℕ) (d : Config) → Leads w d → Leads (way_at w n) (at_depth d n)
leads_deeper w n d l = record { solved = l.solved; goals = l.goals; columns = l.columns; depth = refl }

leaf-at : (c : Config) (n : ℕ) → leaf_row (at_depth c n) ≡ leaf_row c
unfolding leaf_row
leaf-at c n = refl

under-leaf : (c : Config) (n : ℕ) (rs : List Row) → EachRow (IsBelow (at_depth c n)) rs → (r : Row) → IsIn r rs → CoveredByOne r (leaf_row c ∷ [])
under-leaf c n rs k r i = (leaf_row c, inl refl, row_below c r (k r i))

answer-grown : (c : Config) (n : ℕ) → TreeGrown (answer c) (answer (at_depth c n))
answer-grown c n = (
  (λ r i. subst (λ x. IsIn r (x ∷ [])) (sym (leaf-at c n)) i),
  (λ r i. inl (subst (λ x. IsIn r (x ∷ [])) (leaf-at c n) i)),
  (λ r i. absurd i),
)

module _ (clauses : Program) where
  loose-grown : (c : Config) (n : ℕ) → TreeGrown (loose c) (tree clauses (at_depth c n))
  loose-grown c n =
      let t = tree clauses (at_depth c n) in
      let u = all_below clauses t (at_depth c n) (tree-IsSearch clauses (at_depth c n)) in
      let b = IsBelow (at_depth c n) in
      ((λ r i. absurd i), (λ r i. inr (under-leaf c n (answer_rows (leaves t)) (each-answer b (leaves t) u) r i)), (λ r i. under-leaf c n (loose_rows (leaves t)) (each-loose b (leaves t) u) r i))

  abbrev Growth : Search → Config → ℕ → Type 0
  Growth t c n = (u : Search) × IsSearch clauses (at_depth c n) u × TreeGrown t u

  refused-grows : (c : Config) (n : ℕ) → c.depth ≤ n → IsSearch clauses c refused → IsSearch clauses (at_depth c n) refused
  refused-grows c n l (inl e) = inl (subst (λ x. NextAlike x (next clauses (at_depth c n))) e (next_alike clauses c n l))
  refused-grows c n l (inr a) =
      let b = subst (λ x. NextAlike x (next clauses (at_depth c n))) a.1 (next_alike clauses c n l) in
      inr (b.0, b.1, subst IsDead (sym b.2.2) a.2)

  mutual
    pub grows : (t : Search) (c : Config) (n : ℕ) → c.depth ≤ n → IsSearch clauses c t → Growth t c n
    grows (answer d) c n l h =
        (answer (at_depth c n), (subst (λ x. NextAlike x (next clauses (at_depth c n))) h.0 (next_alike clauses c n l), refl), subst (λ x. TreeGrown (answer x) (answer (at_depth c n))) h.1 (answer-grown c n))
    grows (loose d) c n l h = (tree clauses (at_depth c n), tree-IsSearch clauses (at_depth c n), subst (λ x. TreeGrown (loose x) (tree clauses (at_depth c n))) h.1 (loose-grown c n))
    grows refused c n l h = (refused, refused-grows c n l h, grown-none)
    grows (passed t) c n l h =
        let b = subst (λ x. NextAlike x (next clauses (at_depth c n))) h.1 (next_alike clauses c n l) in
        let r = grows t h.2 b.2.0 (subst (λ x. x ≤ b.2.0) (sym h.3.depth) b.2.1) h.4 in
        (passed r.0, (b.0, b.1, at_depth h.2 b.2.0, subst (λ x. Leads x (at_depth h.2 b.2.0)) (sym b.2.2) (leads_deeper h.0 b.2.0 h.2 h.3), r.1), r.2)
    grows (choice ts) c n l h =
        let b = subst (λ x. NextAlike x (next clauses (at_depth c n))) h.1 (next_alike clauses c n l) in
        let r = all_grow ts h.0 b.0 b.2 h.2 in
        (choice r.0, (b.0, b.1, r.1), r.2)

    pub all_grow : (ts : Searches) (ws vs : List Way) → AllAlike ws vs → AreSearches clauses ws ts → (us : Searches) × AreSearches clauses vs us × AllGrown ts us
    all_grow no_more ws vs a h = (no_more, subst (λ x. AllAlike x vs) h a, grown-none)
    all_grow (child t ts) ws vs a h =
        let b = subst (λ x. AllAlike x vs) h.2 a in
        let r = grows t h.3 b.3.0 (subst (λ x. x ≤ b.3.0) (sym h.4.depth) b.3.1) h.5 in
        let s = all_grow ts h.1 b.1 b.4 h.6 in
        (child r.0 s.0, (b.0, b.1, b.2, at_depth h.3 b.3.0, subst (λ x. Leads x (at_depth h.3 b.3.0)) (sym b.3.2) (leads_deeper h.0 b.3.0 h.3 h.4), r.1, s.1), child-grown t r.0 ts s.0 r.2 s.2)
    all_grow (failed ts) ws vs a h =
        let b = subst (λ x. AllAlike x vs) h.2 a in
        let s = all_grow ts h.1 b.1 b.4 h.4 in
        (failed s.0, (b.0, b.1, b.2, subst IsDead (sym b.3.2) h.3, s.1), s.2)

pub leaves_grow : LeavesGrow
leaves_grow clauses c n l t u h k =
    let g = grows clauses t c n l h in
    subst (TreeGrown t) (once clauses (at_depth c n) g.0 u g.1 k) g.2
