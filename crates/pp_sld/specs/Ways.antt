-- What follows a configuration: the ways on from its selected goal, and where each leads.
use Rattle.std.specs.Prelude.{◌≡◌, ℕ, ℤ, zero, suc, ◌⊎◌, List, [], ◌∷◌, ◌++◌, map, Option, Some, None}
use Rattle.std.proofs.Common.{inl, inr}
use Rattle.pp_algebra.specs.Members.{members}
use Rattle.pp_algebra.specs.Terms.{Tree, int, node, variable, Trees, none, more, put_all, count}
use Rattle.pp_algebra.specs.Rows.{Domain, Domains, Pattern, domain_at}
use Rattle.pp_algebra.specs.Solve.{Item, put_item, equations, IsSolved, HasNone}
use Rattle.pp_algebra.specs.Stages.{with_fresh}
use Rattle.pp_sld.specs.Goals.{Predicate, Goal, Clause, Program, Config, put_goal, with_goals, shapes, row_of}
use Rattle.pp_sld.specs.Selection.{Act, calls, solves, never, splits, at_place, Selection, all_wait, selected, select}

-- one way on: what has to be solved, over the configuration's variables (the first kind) and those of a fresh clause (the second kind). A clause's head is as long as its predicate's arguments, and equations stop where the shorter list does
pub record Way : Type 0 where
  pub goals : List (Goal (ℕ ⊎ ℕ))
  pub columns : Trees (ℕ ⊎ ℕ)
  pub domains : List (Option Domain)
  pub items : List (Item (ℕ ⊎ ℕ))
  pub depth : ℕ

abbrev pub two_domains : List (Option Domain) → Domains (ℕ ⊎ ℕ)
two_domains ds = with_fresh ℕ (domain_at ds)

abbrev pub pattern_of_way : Way → Pattern (ℕ ⊎ ℕ)
pattern_of_way w = record { columns = with_goals w.goals w.columns; domains = with_fresh ℕ (domain_at w.domains) }

-- the way leads to this configuration
pub record Leads (w : Way) (d : Config) : Type 0 where
  pub solved : IsSolved (pattern_of_way w) w.items (row_of d)
  pub goals : shapes d.goals ≡ shapes w.goals
  pub columns : count d.columns ≡ count w.columns
  pub depth : d.depth ≡ w.depth

-- the way fails
abbrev pub IsDead : Way → Type 0
IsDead w = HasNone (pattern_of_way w) w.items

-- it leads on or fails
abbrev pub Goes : Way → Type 0
Goes w = ((d : Config) × Leads w d) ⊎ IsDead w

abbrev pub old : ℕ → Tree (ℕ ⊎ ℕ)
old v = variable (inl v)

abbrev pub new : ℕ → Tree (ℕ ⊎ ℕ)
new v = variable (inr v)

-- the goals before and after, with these in between
abbrev pub around : List (Goal ℕ) → List (Goal (ℕ ⊎ ℕ)) → List (Goal ℕ) → List (Goal (ℕ ⊎ ℕ))
around before gs after = map (put_goal old) before ++ gs ++ map (put_goal old) after

abbrev pub clause_way : Config → List (Goal ℕ) → Goal ℕ → List (Goal ℕ) → ℕ → Clause → Way
clause_way c before g after depth cl = record {
  goals = around before (map (put_goal new) cl.body) after;
  columns = put_all old c.columns;
  domains = c.domains;
  items = equations (put_all new cl.head) (put_all old g.arguments);
  depth = depth;
}

abbrev pub built_in_way : Config → List (Goal ℕ) → List (Goal ℕ) → List (Item ℕ) → Way
built_in_way c before after items = record {
  goals = around before [] after;
  columns = put_all old c.columns;
  domains = c.domains;
  items = map (put_item old) items;
  depth = c.depth;
}

-- the values of the first argument, ascending
abbrev pub values_in : Option Domain → List ℤ
values_in None = []
values_in (Some d) = members d

abbrev pub values_of : List (Option Domain) → Trees ℕ → List ℤ
values_of ds none = []
values_of ds (more (int n) ts) = []
values_of ds (more (node f us) ts) = []
values_of ds (more (variable v) ts) = values_in (domain_at ds v)

-- what comes after a configuration: it is an answer, it is left as a loose end, it fails, it goes one way (a built-in), or it has these alternatives
pub data Next : Type 0 where
  finished : Next
  left_loose : Next
  fails : Next
  one : Way → Next
  choices : List Way → Next

abbrev pub call_next : Program → Config → List (Goal ℕ) → Goal ℕ → List (Goal ℕ) → Predicate → ℕ → Next
call_next clauses c before g after p zero = left_loose
call_next clauses c before g after p (suc depth) = choices (map (clause_way c before g after depth) (clauses p))

abbrev pub act_next : Program → Config → List (Goal ℕ) → Goal ℕ → List (Goal ℕ) → Act → Next
act_next clauses c before g after (calls p) = call_next clauses c before g after p c.depth
act_next clauses c before g after (solves items) = one (built_in_way c before after items)
act_next clauses c before g after never = fails
act_next clauses c before g after splits = choices (map (λ n. built_in_way c before after (at_place 0 n g.arguments)) (values_of c.domains g.arguments))

abbrev pub select_next : Program → Config → Selection → Next
select_next clauses c all_wait = left_loose
select_next clauses c (selected before g after a) = act_next clauses c before g after a

abbrev pub goals_next : Program → Config → List (Goal ℕ) → Next
goals_next clauses c [] = finished
goals_next clauses c (g ∷ gs) = select_next clauses c (select c.domains (g ∷ gs))

unfoldable pub next : Program → Config → Next
next clauses c = goals_next clauses c c.goals
