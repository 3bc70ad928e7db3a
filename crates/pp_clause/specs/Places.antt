-- The clause at a place of its predicate.
use Rattle.std.specs.Prelude.{◌≡◌, ℕ, ◌<◌, ◌+◌, List, length, take, map, Some, slice_get}
use Rattle.pp_algebra.specs.Numbered.{counted_from}
use Rattle.pp_term.specs.declared.pred.Pred.{Pred}
use Rattle.pp_term.specs.declared.clause.Clause.{Clause}
use Rattle.pp_term.specs.declared.clause.Goal.{Goal}
use Rattle.pp_term.specs.declared.clause.Goal.TheVariants.{Call, Equate, Member, Compare}
use Rattle.pp_term.specs.Meanings.{predicate_of, program, clause_of}
use Rattle.pp_term.specs.WellFormed.{IsClause}

-- the clause of this number among all is the one at this place of the predicate
pub record IsClauseAt (cs : List Clause) (p : Pred) (place number : ℕ) (c : Clause) : Type 0 where
  pub within : number < length cs
  pub at : slice_get cs number ≡ Some c
  pub predicate : c.pred ≡ p
  pub before : length (program (take number cs) (predicate_of p)) ≡ place
  pub nth : slice_get (program cs (predicate_of p)) place ≡ Some (clause_of c).1
  pub formed : IsClause c

-- numbers of variables counted from a first one
abbrev pub counted_goal : ℕ → Goal → Goal
counted_goal n (Call s ts) = Call s (map (counted_from n) ts)
counted_goal n (Equate a b) = Equate (counted_from n a) (counted_from n b)
counted_goal n (Member t d) = Member (counted_from n t) d
counted_goal n (Compare r a b) = Compare r (counted_from n a) (counted_from n b)

abbrev pub counted_clause : ℕ → Clause → Clause
counted_clause n c = record { pred = c.pred; head = map (counted_from n) c.head; body = map (counted_goal n) c.body; vars = n + c.vars }
