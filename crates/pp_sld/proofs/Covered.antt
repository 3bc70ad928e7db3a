-- The columns of a configuration cover those of what it leads to.
use Rattle.std.proofs.Common.{◌≡◌, ℕ, ℤ, zero, suc, List, [], ◌∷◌, map, length, refl, ap, sym, ◌∙◌, subst, inl, arith}
use Rattle.pp_algebra.specs.Terms.{Tree, Trees, put_all}
use Rattle.pp_algebra.specs.Covers.{MayGo, Covers}
use Rattle.pp_algebra.specs.Rows.{Pattern, domain_at}
use Rattle.pp_sld.specs.Goals.{Predicate, Goal, Clause, Program, Config, shapes, with_goals}
use Rattle.pp_sld.specs.Selection.{Act, calls, solves, never, splits, Selection, all_wait, selected, select, at_place}
use Rattle.pp_sld.specs.Ways.{Way, Leads, old, Next, finished, left_loose, fails, one, choices, call_next, act_next, select_next, goals_next, next, clause_way, built_in_way, values_of}
use Rattle.pp_algebra.proofs.Put.{put_all-put_all}

abbrev pub columns_of : Config → Pattern ℕ
columns_of c = record { columns = c.columns; domains = domain_at c.domains }

-- the columns behind as many goals
behind : {V W : Type 0} (s : V → Tree W) (gs : List (Goal V)) (hs : List (Goal W)) (ts : Trees V) (us : Trees W) → put_all s (with_goals gs ts) ≡ with_goals hs us → length gs ≡ length hs → put_all s ts ≡ us
behind s [] [] ts us e l = e
behind s [] (h ∷ hs) ts us e l = absurd (omega (arith, l))
behind s (g ∷ gs) [] ts us e l = absurd (omega (arith, l))
behind s (g ∷ gs) (h ∷ hs) ts us e l = behind s gs hs ts us (cc) (omega (arith, l))

shapes-length : {V : Type 0} (gs : List (Goal V)) → length (shapes gs) ≡ length gs
shapes-length [] = refl
shapes-length (g ∷ gs) = ap suc (shapes-length gs)

-- the way has this configuration's columns and domains
abbrev pub IsOf : Config → Way → Type 0
IsOf c w = (w.columns ≡ put_all old c.columns) × (w.domains ≡ c.domains)

pub leads-covers : (c : Config) (w : Way) (d : Config) → IsOf c w → Leads w d → Covers (columns_of c) (columns_of d)
leads-covers c w d o l =
    let m = l.solved.meets in
    record {
      by = λ v. m.by (inl v);
      columns = sym (put_all-put_all m.by old c.columns) ∙ ap (put_all m.by) (sym o.0) ∙ behind m.by w.goals d.goals w.columns d.columns m.columns (sym (shapes-length w.goals) ∙ ap length (sym l.goals) ∙ shapes-length d.goals);
      domains = λ v i. subst (λ x. MayGo (domain_at d.domains) (domain_at x v) (m.by (inl v))) o.1 (m.domains (inl v));
    }

abbrev pub AllOf : Config → List Way → Type 0
AllOf c [] = Unit {0}
AllOf c (w ∷ ws) = IsOf c w × AllOf c ws

abbrev pub NextOf : Config → Next → Type 0
NextOf c finished = Unit {0}
NextOf c left_loose = Unit {0}
NextOf c fails = Unit {0}
NextOf c (one w) = IsOf c w
NextOf c (choices ws) = AllOf c ws

clauses-of : (c : Config) (before : List (Goal ℕ)) (g : Goal ℕ) (after : List (Goal ℕ)) (d : ℕ) (cls : List Clause) → AllOf c (map (clause_way c before g after d) cls)
clauses-of c before g after d [] = tt
clauses-of c before g after d (cl ∷ cls) = ((refl, refl), clauses-of c before g after d cls)

values-are : (c : Config) (before : List (Goal ℕ)) (g : Goal ℕ) (after : List (Goal ℕ)) (ns : List ℤ) → AllOf c (map (λ n. built_in_way c before after (at_place 0 n g.arguments)) ns)
values-are c before g after [] = tt
values-are c before g after (n ∷ ns) = ((refl, refl), values-are c before g after ns)

call-of : (clauses : Program) (c : Config) (before : List (Goal ℕ)) (g : Goal ℕ) (after : List (Goal ℕ)) (p : Predicate) (d : ℕ) → NextOf c (call_next clauses c before g after p d)
call-of clauses c before g after p zero = tt
call-of clauses c before g after p (suc d) = clauses-of c before g after d (clauses p)

act-is : (clauses : Program) (c : Config) (before : List (Goal ℕ)) (g : Goal ℕ) (after : List (Goal ℕ)) (a : Act) → NextOf c (act_next clauses c before g after a)
act-is clauses c before g after (calls p) = call-of clauses c before g after p c.depth
act-is clauses c before g after (solves items) = (refl, refl)
act-is clauses c before g after never = tt
act-is clauses c before g after splits = values-are c before g after (values_of c.domains g.arguments)

select-is : (clauses : Program) (c : Config) (s : Selection) → NextOf c (select_next clauses c s)
select-is clauses c all_wait = tt
select-is clauses c (selected before g after a) = act-is clauses c before g after a

goals-are : (clauses : Program) (c : Config) (gs : List (Goal ℕ)) → NextOf c (goals_next clauses c gs)
goals-are clauses c [] = tt
goals-are clauses c (g ∷ gs) = select-is clauses c (select c.domains (g ∷ gs))

-- each way on is of this configuration
pub next-of : (clauses : Program) (c : Config) → NextOf c (next clauses c)
unfolding next
next-of clauses c = goals-are clauses c c.goals
