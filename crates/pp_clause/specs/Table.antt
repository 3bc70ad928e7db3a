-- What the table keeps beside its clauses.
use Rattle.std.specs.Borrow.{Bor}
use Rattle.std.specs.Prelude.{◌≡◌, ℕ, ℤ, Option, option_copied, suc, ◌-◌, ◌<◌, ◌≤◌, ◌^◌, true, false, cond, List, [], ◌∷◌, ◌++◌, length, map, take, drop, All, Some, slice_get}
use Rattle.pp_algebra.specs.Canon.{has, place}
use Rattle.pp_algebra.specs.Rows.{Domain}
use Rattle.pp_algebra.specs.Terms.{Trees}
use Rattle.pp_row.specs.declared.cell.Cell.{Cell}
use Rattle.pp_row.specs.declared.cell.Cell.TheVariants.{Int, Atom, Compound, Var}
use Rattle.pp_row.specs.Columns.{trees_of}
use Rattle.pp_row.specs.Reading.{IsForest, forest}
use Rattle.pp_sld.specs.Goals as goals
use Rattle.pp_term.specs.declared.pred.Pred.{Pred}
use Rattle.pp_term.specs.declared.clause.Goal.{Goal}
use Rattle.pp_term.specs.declared.clause.Clause.{Clause}
use Rattle.pp_term.specs.Meanings.{predicate_of, program, goal_of, members_by}
use Rattle.pp_term.specs.WellFormed.{IsClause}
use Rattle.pp_tests.specs.Decisions.{test_of}
use Rattle.pp_clause.specs.declared.first.First.{First}
use Rattle.pp_clause.specs.declared.first.First.TheVariants as firsts
use Rattle.pp_clause.specs.declared.code.Code.{Code}
use Rattle.pp_clause.specs.declared.code.Code.TheVariants.{User, Equate, Member, Test}
use Rattle.pp_clause.specs.declared.code.Span.{Span}
use Rattle.pp_clause.specs.declared.code.CodedGoal.{CodedGoal}
use Rattle.pp_clause.specs.declared.code.Coded.{Coded}
use Rattle.pp_clause.specs.Firsts.{first_of, may_be}
use Rattle.pp_clause.specs.Predicates.{same_pred, predicates}

-- a predicate by its key
abbrev pub pred_of : ℕ × ℕ → Pred
pred_of k = record { name = k.0; arity = k.1 }

-- other predicates may stand behind those that are known
abbrev pub IsGrown : {A : Type 0} → List A → List A → Type 0
IsGrown {A} xs ys = (more : List A) × (ys ≡ xs ++ more)

-- the cells between are these terms
pub record IsSpan (cells : List Cell) (s : Span) (ts : Trees ℕ) : Type 0 where
  pub ordered : s.start ≤ s.end
  pub within : s.end ≤ length cells
  pub whole : IsForest (take (s.end - s.start) (drop s.start cells))
  pub reads : forest (take (s.end - s.start) (drop s.start cells)) ≡ ts

-- n is the place of p, which is there
pub record IsNumber (ps : List Pred) (n : ℕ) (p : Pred) : Type 0 where
  pub is_there : has same_pred ps p ≡ true
  pub number : place same_pred ps p ≡ n

abbrev pub IsCodeOf : List Pred → Code → goals.Shape → Type 0
IsCodeOf ps (User n) s = (p : Pred) × IsNumber ps n p × (s ≡ goals.user (predicate_of p))
IsCodeOf ps Equate s = s ≡ goals.equals
IsCodeOf ps Member s = (d : Domain) × (s ≡ goals.member d)
IsCodeOf ps (Test t) s = s ≡ goals.test (test_of t)

pub record IsCodedGoal (cells : List Cell) (ps : List Pred) (d : CodedGoal) (g : Goal) : Type 0 where
  pub code : IsCodeOf ps d.code (goal_of g).shape
  pub span : IsSpan cells d.span (goal_of g).arguments

abbrev pub AreCodedGoals : List Cell → List Pred → List CodedGoal → List Goal → Type 0
AreCodedGoals cells ps [] [] = Unit {0}
AreCodedGoals cells ps [] (g ∷ gs) = ⊥
AreCodedGoals cells ps (d ∷ ds) [] = ⊥
AreCodedGoals cells ps (d ∷ ds) (g ∷ gs) = IsCodedGoal cells ps d g × AreCodedGoals cells ps ds gs

pub record IsCoded (cells : List Cell) (ps : List Pred) (d : Coded) (c : Clause) : Type 0 where
  pub head : IsSpan cells d.head (trees_of c.head)
  pub variables : d.variables ≡ c.vars
  pub count : d.count ≡ length c.body
  pub body : AreCodedGoals cells ps d.body.items c.body

-- the first ones are those of the clauses
abbrev pub AreCoded : List Cell → List Pred → List Coded → List Clause → Type 0
AreCoded cells ps ds [] = Unit {0}
AreCoded cells ps [] (c ∷ cs) = ⊥
AreCoded cells ps (d ∷ ds) (c ∷ cs) = IsCoded cells ps d c × AreCoded cells ps ds cs

-- the numbers, from n on, of the predicate's clauses
abbrev pub numbers_from : Pred → ℕ → List Clause → List ℕ
numbers_from p n [] = []
numbers_from p n (c ∷ cs) = cond (same_pred c.pred p) (n ∷ numbers_from p (suc n) cs) (numbers_from p (suc n) cs)

-- the tops of first arguments
abbrev pub tops : List goals.Clause → List First
tops ms = map (λ m. first_of m.head) ms

-- the numbers of the predicate's clauses, and the tops of their first arguments
abbrev pub group_of : List Clause → Pred → List ℕ × List First
group_of cs p = (numbers_from p 0 cs, tops (program cs (predicate_of p)))

-- each group is that of the predicate with its number, and those behind are empty
pub record AreGroups (cs : List Clause) (groups : List (List ℕ × List First)) : Type 0 where
  pub enough : length (predicates cs) ≤ length groups
  pub known : (n : ℕ) (p : Pred) (g : List ℕ × List First) → IsNumber (predicates cs) n p → slice_get groups n ≡ Some g → g ≡ group_of cs p
  pub others : (n : ℕ) (g : List ℕ × List First) → length (predicates cs) ≤ n → slice_get groups n ≡ Some g → g ≡ ([], [])

-- the parts of the table beside each other: `ps` are the predicates' keys, of which the first ones are known
pub record IsTable (cs : List Clause) (ps : List Pred) (n : ℕ) (gs : List (List ℕ × List First)) (cells : List Cell) (ds : List Coded) : Type 0 where
  pub formed : All IsClause cs
  pub few : length cs < 2 ^ 32
  pub keys : IsGrown (predicates cs) ps
  pub known : n ≡ length (predicates cs)
  pub groups : AreGroups cs gs
  pub code : AreCoded cells (predicates cs) ds cs

-- none of the tops between may match
abbrev pub AreOut : First → List First → ℕ → ℕ → Type 0
AreOut first fs from to = (k : ℕ) (f : First) → from ≤ k → k < to → slice_get fs k ≡ Some f → may_be first f ≡ false

-- the next top that may match
pub record IsNextTop (first : First) (fs : List First) (from place : ℕ) : Type 0 where
  pub later : from ≤ place
  pub within : place < length fs
  pub matches : (f : First) → slice_get fs place ≡ Some f → may_be first f ≡ true
  pub passed : AreOut first fs from place

-- the top of the term that begins with the first cell
abbrev pub top_by : List Cell → First
top_by [] = firsts.Free
top_by (Int n ∷ cs) = firsts.Int n
top_by (Atom a ∷ cs) = firsts.Atom a
top_by (Compound f k ∷ cs) = firsts.Functor f k
top_by (Var v ∷ cs) = firsts.Free

-- the set of a membership
abbrev pub IsSetOf : Goal → Option (Bor (List (ℤ × ℤ))) → Type 0
IsSetOf g d = (e : Domain) → (goal_of g).shape ≡ goals.member e → (goal_of g).shape ≡ goals.member (members_by (option_copied d))

-- groups without clauses were added
abbrev pub AddsEmpty : List (List ℕ × List First) → List (List ℕ × List First) → Type 0
AddsEmpty gs hs = (more : List (List ℕ × List First)) × (hs ≡ gs ++ more) × All (λ g. g ≡ ([], [])) more
