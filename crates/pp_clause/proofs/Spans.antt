-- Terms among the cells, while cells are added.
use Rattle.std.proofs.Common.{◌≡◌, ℕ, zero, suc, ◌+◌, ◌-◌, ◌≤◌, List, [], ◌∷◌, ◌++◌, length, take, drop, All, refl, ap, sym, ◌∙◌, subst, arith, append-nil, append_assoc, length-append, length-drop, Some, slice_get, get_or}
use Rattle.std.proofs.lemmas.List.{drop_at, take_all, drop-append-le, take-append-le}
use Rattle.pp_algebra.specs.Terms.{Tree, Trees, none}
use Rattle.pp_algebra.proofs.Joined.{join-none}
use Rattle.pp_row.specs.declared.cell.Cell.{Cell}
use Rattle.pp_row.specs.Cells.{IsLegalCell, cells_of, cells_of_all}
use Rattle.pp_row.specs.Codes.{stack-cells_of_all}
use Rattle.pp_row.specs.Columns.{trees_of}
use Rattle.pp_row.specs.Reading.{stack, all_of, forest, IsForest}
use Rattle.pp_term.specs.declared.pred.Pred.{Pred}
use Rattle.pp_sld.specs.Goals as goals
use Rattle.pp_term.specs.declared.clause.Goal.{Goal}
use Rattle.pp_term.specs.declared.clause.Clause.{Clause}
use Rattle.pp_term.specs.Meanings.{goal_of}
use Rattle.pp_clause.specs.declared.code.Code.{Code}
use Rattle.pp_clause.specs.declared.code.Code.TheVariants.{User, Equate, Member, Test}
use Rattle.pp_clause.specs.declared.code.CodedGoal.{CodedGoal}
use Rattle.pp_clause.specs.declared.code.Coded.{Coded}
use Rattle.pp_clause.specs.declared.code.Span.{Span}
use Rattle.pp_clause.specs.Table.{IsGrown, IsSpan, IsCodeOf, IsCodedGoal, AreCodedGoals, IsCoded, AreCoded}
use Rattle.pp_clause.proofs.Numbers.{number_stays}

pub cells-push : (ts : List (Tree ℕ)) (t : Tree ℕ) → cells_of_all (trees_of (ts ++ t ∷ [])) ≡ cells_of_all (trees_of ts) ++ cells_of t
cells-push [] t = append-nil (cells_of t)
cells-push (u ∷ ts) t = ap (λ cs. cells_of u ++ cs) (cells-push ts t) ∙ sym (append_assoc (cells_of u) (cells_of_all (trees_of ts)) (cells_of t))

pub stack-all : (ts : Trees ℕ) (cs : List Cell) → cs ≡ cells_of_all ts → stack cs ≡ Some ts
stack-all ts cs e = ap stack (e ∙ sym (append-nil (cells_of_all ts))) ∙ stack-cells_of_all ts [] none refl ∙ ap Some (join-none ts)

forest_by : (cs : List Cell) (ts : Trees ℕ) → All IsLegalCell cs → stack cs ≡ Some ts → IsForest cs × (forest cs ≡ ts)
forest_by cs ts l e = (record { legal = l; reads = e ∙ ap Some (sym (ap all_of e)) }, ap all_of e)

span_by : (cells cs : List Cell) (s : Span) (ts : Trees ℕ) → s.start ≤ s.end → s.end ≤ length cells → take (s.end - s.start) (drop s.start cells) ≡ cs → IsForest cs → forest cs ≡ ts → IsSpan cells s ts
span_by cells cs s ts o w e h r = record { ordered = o; within = w; whole = subst IsForest (sym e) h; reads = ap (λ ds. forest ds) e ∙ r }

-- terms that were appended
pub spanned : (old new : List Cell) (s : Span) (ts : Trees ℕ) → new ≡ old ++ cells_of_all ts → All IsLegalCell (cells_of_all ts) → s.start ≡ length old → s.end ≡ length new → IsSpan new s ts
spanned old new s ts e l a b =
    let n : length new ≡ length old + length (cells_of_all ts) = ap length e ∙ length-append old (cells_of_all ts) in
    let d : drop s.start new ≡ cells_of_all ts = ap (drop s.start) e ∙ drop_at old (cells_of_all ts) s.start (sym a) in
    let p : take (s.end - s.start) (drop s.start new) ≡ cells_of_all ts = ap (take (s.end - s.start)) d ∙ take_all (s.end - s.start) (cells_of_all ts) (omega (arith, n, a, b)) in
    let f = forest_by (cells_of_all ts) ts l (stack-all ts (cells_of_all ts) refl) in
    span_by new (cells_of_all ts) s ts (omega (arith, n, a, b)) (omega (arith, b)) p f.0 f.1

-- a span stays while cells are added
pub span_stays : (cs ds : List Cell) (s : Span) (ts : Trees ℕ) → IsGrown cs ds → IsSpan cs s ts → IsSpan ds s ts
span_stays cs ds s ts g h =
    let n : length ds ≡ length cs + length g.0 = ap length g.1 ∙ length-append cs g.0 in
    let p : take (s.end - s.start) (drop s.start ds) ≡ take (s.end - s.start) (drop s.start cs) =
    ap (λ xs. take (s.end - s.start) (drop s.start xs)) g.1
    ∙ ap (take (s.end - s.start)) (drop-append-le s.start cs g.0 (omega (arith, h.ordered, h.within)))
    ∙ take-append-le (s.end - s.start) (drop s.start cs) g.0 (omega (arith, h.within, length-drop s.start cs)) in
    span_by ds (take (s.end - s.start) (drop s.start cs)) s ts h.ordered (omega (arith, h.within, n)) p h.whole h.reads

code_stays : (ps qs : List Pred) (c : Code) (s : goals.Shape) → IsGrown ps qs → IsCodeOf ps c s → IsCodeOf qs c s
code_stays ps qs (User n) s g h = (h.0, number_stays ps qs n h.0 g h.1, h.2)
code_stays ps qs Equate s g h = h
code_stays ps qs Member s g h = h
code_stays ps qs (Test t) s g h = h

module _ (cs ds : List Cell) (ps qs : List Pred) (g : IsGrown cs ds) (k : IsGrown ps qs) where
  pub goal_stays : (d : CodedGoal) (b : Goal) → IsCodedGoal cs ps d b → IsCodedGoal ds qs d b
  goal_stays d b h = record { code = code_stays ps qs d.code (goal_of b).shape k h.code; span = span_stays cs ds d.span (goal_of b).arguments g h.span }

  pub goals_stay : (xs : List CodedGoal) (bs : List Goal) → AreCodedGoals cs ps xs bs → AreCodedGoals ds qs xs bs
  goals_stay [] [] h = tt
  goals_stay [] (b ∷ bs) h = absurd h
  goals_stay (x ∷ xs) [] h = absurd h
  goals_stay (x ∷ xs) (b ∷ bs) h = (goal_stays x b h.0, goals_stay xs bs h.1)

  pub clause_stays : (d : Coded) (c : Clause) → IsCoded cs ps d c → IsCoded ds qs d c
  clause_stays d c h = record { head = span_stays cs ds d.head (trees_of c.head) g h.head; variables = h.variables; count = h.count; body = goals_stay d.body.items c.body h.body }

  pub clauses_stay : (xs : List Coded) (bs : List Clause) → AreCoded cs ps xs bs → AreCoded ds qs xs bs
  clauses_stay xs [] h = tt
  clauses_stay [] (b ∷ bs) h = absurd h
  clauses_stay (x ∷ xs) (b ∷ bs) h = (clause_stays x b h.0, clauses_stay xs bs h.1)

module _ (cs : List Cell) (ps : List Pred) where
  pub goals_push : (xs : List CodedGoal) (bs : List Goal) (x : CodedGoal) (b : Goal) → AreCodedGoals cs ps xs bs → IsCodedGoal cs ps x b → AreCodedGoals cs ps (xs ++ x ∷ []) (bs ++ b ∷ [])
  goals_push [] [] x b h k = (k, tt)
  goals_push [] (c ∷ bs) x b h k = absurd h
  goals_push (y ∷ xs) [] x b h k = absurd h
  goals_push (y ∷ xs) (c ∷ bs) x b h k = (h.0, goals_push xs bs x b h.1 k)

  pub clauses_push : (xs : List Coded) (bs : List Clause) (x : Coded) (b : Clause) → length xs ≡ length bs → AreCoded cs ps xs bs → IsCoded cs ps x b → AreCoded cs ps (xs ++ x ∷ []) (bs ++ b ∷ [])
  clauses_push [] [] x b e h k = (k, tt)
  clauses_push [] (c ∷ bs) x b e h k = absurd h
  clauses_push (y ∷ xs) [] x b e h k = absurd (omega (arith, e))
  clauses_push (y ∷ xs) (c ∷ bs) x b e h k = (h.0, clauses_push xs bs x b (omega (arith, e)) h.1 k)

  -- those behind the clauses are let go
  pub coded_front : (xs : List Coded) (bs : List Clause) → AreCoded cs ps xs bs → AreCoded cs ps (take (length bs) xs) bs × (length (take (length bs) xs) ≡ length bs)
  coded_front xs [] h = (tt, refl)
  coded_front [] (b ∷ bs) h = absurd h
  coded_front (x ∷ xs) (b ∷ bs) h = let r = coded_front xs bs h.1 in ((h.0, r.0), ap suc r.1)

  pub coded_extra : (xs ys : List Coded) (bs : List Clause) → AreCoded cs ps xs bs → AreCoded cs ps (xs ++ ys) bs
  coded_extra xs ys [] h = tt
  coded_extra [] ys (b ∷ bs) h = absurd h
  coded_extra (x ∷ xs) ys (b ∷ bs) h = (h.0, coded_extra xs ys bs h.1)

  pub coded_enough : (xs : List Coded) (bs : List Clause) → AreCoded cs ps xs bs → length bs ≤ length xs
  coded_enough xs [] h = omega arith
  coded_enough [] (b ∷ bs) h = absurd h
  coded_enough (x ∷ xs) (b ∷ bs) h = let r = coded_enough xs bs h.1 in omega arith

  -- what is read at a number
  pub coded_read : (xs : List Coded) (bs : List Clause) (n : ℕ) (c : Clause) (x : Coded) → AreCoded cs ps xs bs → slice_get bs n ≡ Some c → x ≡ get_or xs n x → IsCoded cs ps x c
  coded_read xs [] n c x h e f = absurd (cc)
  coded_read [] (b ∷ bs) n c x h e f = absurd h
  coded_read (y ∷ xs) (b ∷ bs) zero c x h e f = let s : b ≡ c = cc in subst (λ y. IsCoded cs ps y c) (sym f) (subst (IsCoded cs ps y) s h.0)
  coded_read (y ∷ xs) (b ∷ bs) (suc n) c x h e f = coded_read xs bs n c x h.1 e f

  pub goal_read : (xs : List CodedGoal) (bs : List Goal) (n : ℕ) (b : Goal) (x : CodedGoal) → AreCodedGoals cs ps xs bs → slice_get bs n ≡ Some b → x ≡ get_or xs n x → IsCodedGoal cs ps x b
  goal_read [] [] n b x h e f = absurd (cc)
  goal_read [] (c ∷ bs) n b x h e f = absurd h
  goal_read (y ∷ xs) [] n b x h e f = absurd h
  goal_read (y ∷ xs) (c ∷ bs) zero b x h e f = let s : c ≡ b = cc in subst (λ y. IsCodedGoal cs ps y b) (sym f) (subst (IsCodedGoal cs ps y) s h.0)
  goal_read (y ∷ xs) (c ∷ bs) (suc n) b x h e f = goal_read xs bs n b x h.1 e f

  pub length-goals : (xs : List CodedGoal) (bs : List Goal) → AreCodedGoals cs ps xs bs → length xs ≡ length bs
  length-goals [] [] h = refl
  length-goals [] (b ∷ bs) h = absurd h
  length-goals (x ∷ xs) [] h = absurd h
  length-goals (x ∷ xs) (b ∷ bs) h = ap suc (length-goals xs bs h.1)
