-- Each configuration has a search tree.
use Rattle.std.proofs.Common.{◌≡◌, ℕ, ℤ, zero, suc, ◌+◌, List, [], ◌∷◌, ◌++◌, map, length, Option, Some, None, refl, ap, sym, ◌∙◌, subst, ◌⊎◌, inl, inr, arith, length-append}
use Rattle.std.proofs.Math.ListN.{length-map}
use Rattle.pp_algebra.specs.Terms.{Tree, Trees, put_all}
use Rattle.pp_algebra.specs.Rows.{Domain, Domains, Row, domain_at}
use Rattle.pp_algebra.specs.Solve.{IsSolved}
use Rattle.pp_algebra.specs.Stages.{with_fresh}
use Rattle.pp_sld.specs.Goals.{Predicate, Goal, Clause, Program, Config, put_goal, with_goals, shapes, row_of}
use Rattle.pp_sld.specs.Selection.{Act, calls, solves, never, splits, act, Selection, all_wait, selected, past, select_by, select, at_place}
use Rattle.pp_sld.specs.Ways.{Way, pattern_of_way, Leads, Goes, around, values_of, built_in_way, clause_way, Next, finished, left_loose, fails, one, choices, call_next, act_next, select_next, goals_next, next}
use Rattle.pp_sld.specs.Trees.{Search, answer, loose, refused, passed, choice, Searches, no_more, child, failed, IsSearch, AreSearches}
use Rattle.pp_algebra.specs.Covers.{MayGo}
use Rattle.pp_algebra.specs.Solve.{Solvable}
use Rattle.pp_algebra.proofs.Solved.{same_either-IsSame, solved_listed}
use Rattle.pp_algebra.proofs.Put.{count-put_all}
use Rattle.pp_algebra.specs.Canon.{same_either}
use Rattle.pp_algebra.specs.Examples.{row}

pub put-with_goals : {V W : Type 0} (s : V → Tree W) (gs : List (Goal V)) (ts : Trees V) → put_all s (with_goals gs ts) ≡ with_goals (map (put_goal s) gs) (put_all s ts)
put-with_goals s [] ts = refl
put-with_goals s (g ∷ gs) ts = rw (put-with_goals s gs ts) refl

pub shapes-put : {V W : Type 0} (s : V → Tree W) (gs : List (Goal V)) → shapes (map (put_goal s) gs) ≡ shapes gs
shapes-put s [] = refl
shapes-put s (g ∷ gs) = ap (λ x. g.shape ∷ x) (shapes-put s gs)

-- the configuration that a solution is
abbrev pub reached : (w : Way) (r : Row) → IsSolved (pattern_of_way w) w.items r → Config
reached w r h = record {
  goals = map (put_goal h.meets.by) w.goals;
  columns = put_all h.meets.by w.columns;
  domains = r.domains;
  depth = w.depth;
}

pub reached-leads : (w : Way) (r : Row) (h : IsSolved (pattern_of_way w) w.items r) → Leads w (reached w r h)
reached-leads w r h =
    let e : r ≡ row_of (reached w r h) = ap (λ x. row x r.domains) (sym h.meets.columns ∙ put-with_goals h.meets.by w.goals w.columns) in
    record {
      solved = subst (IsSolved (pattern_of_way w) w.items) e h;
      goals = shapes-put h.meets.by w.goals;
      columns = count-put_all h.meets.by w.columns;
      depth = refl;
    }

-- a way is solved, with the most general row, or fails
all_go : (q : Domains ℕ) (ds : List (Option Domain)) (b : ℕ ⊎ ℕ → Tree ℕ) → ((v : ℕ) → MayGo q (domain_at ds v) (b (inl v))) → (v : ℕ ⊎ ℕ) → MayGo q (with_fresh ℕ (domain_at ds) v) (b v)
all_go q ds b h (inl v) = h v
all_go q ds b h (inr v) = tt

pub way_solved : (w : Way) → Solvable (pattern_of_way w) w.items
way_solved w = solved_listed same_either same_either-IsSame (pattern_of_way w) w.items (λ v. inl v) w.domains (λ v. refl) (λ q b h. all_go q w.domains b h)

pub goes : (w : Way) → Goes w
goes w = elim (way_solved w) [ inl a ↦ inl (reached w a.0 a.1, reached-leads w a.0 a.1) | inr n ↦ inr n ]

pub shapes-length : {V : Type 0} (gs : List (Goal V)) → length (shapes gs) ≡ length gs
shapes-length [] = refl
shapes-length (g ∷ gs) = ap suc (shapes-length gs)

leads-length : (w : Way) (d : Config) → Leads w d → length d.goals ≡ length w.goals
leads-length w d h = sym (shapes-length d.goals) ∙ ap length h.goals ∙ shapes-length w.goals

-- the selected goal is one of the goals
abbrev pub IsPart : List (Goal ℕ) → Selection → Type 0
IsPart gs all_wait = Unit {0}
IsPart gs (selected before g after a) = (gs ≡ before ++ g ∷ after) × (length gs ≡ suc (length before + length after))

past-IsPart : (h : Goal ℕ) (gs : List (Goal ℕ)) (s : Selection) → IsPart gs s → IsPart (h ∷ gs) (past h s)
past-IsPart h gs all_wait p = tt
past-IsPart h gs (selected before g after a) p = (ap (λ x. h ∷ x) p.0, omega (arith, p.1))

select_by-IsPart : (g : Goal ℕ) (gs : List (Goal ℕ)) (s : Selection) (a : Option Act) → IsPart gs s → IsPart (g ∷ gs) (select_by g gs s a)
select_by-IsPart g gs s None p = past-IsPart g gs s p
select_by-IsPart g gs s (Some a) p = (refl, omega arith)

pub select-IsPart : (ds : List (Option Domain)) (gs : List (Goal ℕ)) → IsPart gs (select ds gs)
select-IsPart ds [] = tt
select-IsPart ds (g ∷ gs) = select_by-IsPart g gs (select ds gs) (act ds g) (select-IsPart ds gs)

-- a way falls: in depth, or in goals at the same depth
abbrev pub Falls : ℕ → ℕ → Way → Type 0
Falls depth n w = (suc w.depth ≡ depth) ⊎ ((w.depth ≡ depth) × (suc (length w.goals) ≡ n))

abbrev pub AllFall : ℕ → ℕ → List Way → Type 0
AllFall depth n [] = Unit {0}
AllFall depth n (w ∷ ws) = Falls depth n w × AllFall depth n ws

abbrev pub NextFalls : ℕ → ℕ → Next → Type 0
NextFalls depth n finished = Unit {0}
NextFalls depth n left_loose = Unit {0}
NextFalls depth n fails = Unit {0}
NextFalls depth n (one w) = Falls depth n w
NextFalls depth n (choices ws) = AllFall depth n ws

around-length : (before after : List (Goal ℕ)) → length (around before [] after) ≡ length before + length after
around-length before after = simp (length-append, length-map) (omega arith)

clauses-fall : (c : Config) (before : List (Goal ℕ)) (g : Goal ℕ) (after : List (Goal ℕ)) (d n : ℕ) (cls : List Clause) → AllFall (suc d) n (map (clause_way c before g after d) cls)
clauses-fall c before g after d n [] = tt
clauses-fall c before g after d n (cl ∷ cls) = (inl refl, clauses-fall c before g after d n cls)

values-fall : (c : Config) (before : List (Goal ℕ)) (g : Goal ℕ) (after : List (Goal ℕ)) (n : ℕ) (ns : List ℤ) → n ≡ suc (length before + length after) → AllFall c.depth n (map (λ m. built_in_way c before after (at_place 0 m g.arguments)) ns)
values-fall c before g after n [] e = tt
values-fall c before g after n (m ∷ ns) e = (inr (refl, omega (arith, e, around-length before after)), values-fall c before g after n ns e)

call-falls : (clauses : Program) (c : Config) (before : List (Goal ℕ)) (g : Goal ℕ) (after : List (Goal ℕ)) (p : Predicate) (d n : ℕ) → NextFalls d n (call_next clauses c before g after p d)
call-falls clauses c before g after p zero n = tt
call-falls clauses c before g after p (suc d) n = clauses-fall c before g after d n (clauses p)

act-falls : (clauses : Program) (c : Config) (before : List (Goal ℕ)) (g : Goal ℕ) (after : List (Goal ℕ)) (a : Act) (n : ℕ) → n ≡ suc (length before + length after) → NextFalls c.depth n (act_next clauses c before g after a)
act-falls clauses c before g after (calls p) n e = call-falls clauses c before g after p c.depth n
act-falls clauses c before g after (solves items) n e = inr (refl, omega (arith, e, around-length before after))
act-falls clauses c before g after never n e = tt
act-falls clauses c before g after splits n e = values-fall c before g after n (values_of c.domains g.arguments) e

select-falls : (clauses : Program) (c : Config) (s : Selection) (gs : List (Goal ℕ)) → IsPart gs s → NextFalls c.depth (length gs) (select_next clauses c s)
select-falls clauses c all_wait gs p = tt
select-falls clauses c (selected before g after a) gs p = act-falls clauses c before g after a (length gs) p.1

goals-fall : (clauses : Program) (c : Config) (gs : List (Goal ℕ)) → NextFalls c.depth (length gs) (goals_next clauses c gs)
goals-fall clauses c [] = tt
goals-fall clauses c (g ∷ gs) = select-falls clauses c (select c.domains (g ∷ gs)) (g ∷ gs) (select-IsPart c.domains (g ∷ gs))

pub next-falls : (clauses : Program) (c : Config) → NextFalls c.depth (length c.goals) (next clauses c)
unfolding next
next-falls clauses c = goals-fall clauses c c.goals

abbrev Has : Program → Config → Type 0
Has clauses c = (t : Search) × IsSearch clauses c t

module _ (clauses : Program) where
  one-has : (depth n : ℕ) → ((d : Config) → suc d.depth ≡ depth → Has clauses d) → ((d : Config) → d.depth ≡ depth → suc (length d.goals) ≡ n → Has clauses d) → (w : Way) → Falls depth n w → (d : Config) → Leads w d → Has clauses d
  one-has depth n deeper fewer w f d h = elim f [ inl e ↦ deeper d (ap suc h.depth ∙ e) | inr p ↦ fewer d (h.depth ∙ p.0) (omega (arith, leads-length w d h, p.1)) ]

  all-have : (ws : List Way) (depth n : ℕ) → ((d : Config) → suc d.depth ≡ depth → Has clauses d) → ((d : Config) → d.depth ≡ depth → suc (length d.goals) ≡ n → Has clauses d) → AllFall depth n ws → (ts : Searches) × AreSearches clauses ws ts
  all-have [] depth n deeper fewer f = (no_more, refl)
  all-have (w ∷ ws) depth n deeper fewer f =
      let more = all-have ws depth n deeper fewer f.1 in
      elim (goes w) [
        | inl a ↦ (let t = one-has depth n deeper fewer w f.0 a.0 a.1 in (child t.0 more.0, (w, ws, refl, a.0, a.1, t.1, more.1)))
        | inr k ↦ (failed more.0, (w, ws, refl, k, more.1))
      ]

  next-has : (c : Config) (x : Next) (depth n : ℕ) → ((d : Config) → suc d.depth ≡ depth → Has clauses d) → ((d : Config) → d.depth ≡ depth → suc (length d.goals) ≡ n → Has clauses d) → next clauses c ≡ x → NextFalls depth n x → Has clauses c
  next-has c finished depth n deeper fewer e f = (answer c, (e, refl))
  next-has c left_loose depth n deeper fewer e f = (loose c, (e, refl))
  next-has c fails depth n deeper fewer e f = (refused, inl e)
  next-has c (one w) depth n deeper fewer e f =
      elim (goes w) [
        | inl a ↦ (let t = one-has depth n deeper fewer w f a.0 a.1 in (passed t.0, (w, e, a.0, a.1, t.1)))
        | inr k ↦ (refused, inr (w, e, k))
      ]
  next-has c (choices ws) depth n deeper fewer e f = let ts = all-have ws depth n deeper fewer f in (choice ts.0, (ws, e, ts.1))

  by_goals : (n depth : ℕ) → ((d : Config) → suc d.depth ≡ depth → Has clauses d) → (c : Config) → c.depth ≡ depth → length c.goals ≡ n → Has clauses c
  by_goals zero depth deeper c e l = next-has c (next clauses c) depth zero deeper (λ d p q. absurd (omega (arith, q))) refl (subst (λ x. NextFalls x zero (next clauses c)) e (subst (λ x. NextFalls c.depth x (next clauses c)) l (next-falls clauses c)))
  by_goals (suc n) depth deeper c e l = next-has c (next clauses c) depth (suc n) deeper (λ d p q. by_goals n depth deeper d p (omega (arith, q))) refl (subst (λ x. NextFalls x (suc n) (next clauses c)) e (subst (λ x. NextFalls c.depth x (next clauses c)) l (next-falls clauses c)))

  by_depth : (depth : ℕ) (c : Config) → c.depth ≡ depth → Has clauses c
  by_depth zero c e = by_goals (length c.goals) zero (λ d p. absurd (omega (arith, p))) c e refl
  by_depth (suc k) c e = by_goals (length c.goals) (suc k) (λ d p. by_depth k d (omega (arith, p))) c e refl

  pub has_search : (c : Config) → Has clauses c
  has_search c = by_depth c.depth c refl
