-- Lists of terms that no substitution makes equal, since at some place their tops differ.
use Rattle.std.specs.Prelude.{◌≡◌, ℕ, zero, suc, false, Option, Some, None}
use Rattle.pp_algebra.specs.Terms.{Trees, none, more}
use Rattle.pp_row.specs.declared.cell.Cell.{Cell}
use Rattle.pp_row.specs.declared.cell.Cell.TheVariants as cells
use Rattle.pp_clause.specs.declared.first.First.{First}
use Rattle.pp_clause.specs.declared.first.First.TheVariants.{Int, Atom, Functor, Free}
use Rattle.pp_clause.specs.Firsts.{top, may_be}

-- the top of a term that begins with this cell, or of a free variable
abbrev pub top_by : Option Cell → First
top_by None = Free
top_by (Some (cells.Int n)) = Int n
top_by (Some (cells.Atom a)) = Atom a
top_by (Some (cells.Compound f k)) = Functor f k
top_by (Some (cells.Var v)) = Free

-- the terms at this place have tops that no term can have both
abbrev pub AreApartAt : ℕ → Trees ℕ → Trees ℕ → Type 0
AreApartAt k none us = ⊥
AreApartAt k (more t ts) none = ⊥
AreApartAt zero (more t ts) (more u us) = may_be (top t) (top u) ≡ false
AreApartAt (suc k) (more t ts) (more u us) = AreApartAt k ts us

abbrev pub AreApart : Trees ℕ → Trees ℕ → Type 0
AreApart ts us = (k : ℕ) × AreApartAt k ts us
