-- The law of the index: clauses that it leaves out lead nowhere.
use Rattle.std.specs.Prelude.{◌≡◌, ℕ, List}
use Rattle.pp_algebra.specs.Terms.{Trees}
use Rattle.pp_sld.specs.Goals as goals
use Rattle.pp_sld.specs.Goals.{Config, Goal}
use Rattle.pp_sld.specs.Ways.{clause_way, IsDead}
use Rattle.pp_clause.specs.declared.first.First.{First}
use Rattle.pp_clause.specs.declared.first.First.TheVariants.{Int, Atom, Functor, Free}
use Rattle.pp_clause.specs.Firsts.{first_of, CannotMatch}

-- this may be said of the first argument; nothing is said by `Free`
abbrev pub IsSaid : First → Trees ℕ → Type 0
IsSaid (Int n) ts = first_of ts ≡ Int n
IsSaid (Atom a) ts = first_of ts ≡ Atom a
IsSaid (Functor f k) ts = first_of ts ≡ Functor f k
IsSaid Free ts = Unit {0}

abbrev pub LeftOutAreDead : Type 0
LeftOutAreDead = (first : First) (c : Config) (before : List (Goal ℕ)) (g : Goal ℕ) (after : List (Goal ℕ)) (depth : ℕ) (cl : goals.Clause)
    → IsSaid first g.arguments → CannotMatch first cl → IsDead (clause_way c before g after depth cl)
