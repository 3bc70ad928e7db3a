-- Columns under any numbers, as they are kept, and what a row that is applied makes of them.
use Rattle.std.specs.Prelude.{◌≡◌, ℕ, ℤ, ◌<◌, ◌≤◌, ◌⊎◌, nat_eq, List, [], length, map, get_or, pos, Option}
use Rattle.pp_algebra.specs.Covers.{IsIn}
use Rattle.pp_algebra.specs.Canon.{canon, firsts, Distinct}
use Rattle.pp_algebra.specs.Numbered.{column}
use Rattle.pp_algebra.specs.Rows.{Row, AreWide, domain_at}
use Rattle.pp_algebra.specs.Terms.{Tree, Trees, int, variable, put, put_all, variables, variables_all}
use Rattle.pp_row.specs.Columns.{trees_of, sets_of, pattern_by}
use Rattle.pp_store.specs.declared.pattern.Change.{Change}
use Rattle.pp_store.specs.declared.pattern.Pattern.{Pattern}
use Rattle.pp_store.specs.Numbers.{AreNumbers}
use Rattle.pp_store.specs.Occurring.{Stands, AreGathered}
use Rattle.pp_store.specs.Replacing.{replacement}
use Rattle.pp_store.specs.Written.{written}

abbrev pub column_at : List (Tree ℕ) → ℕ → Tree ℕ
column_at columns k = get_or columns k (int (pos 0))

-- its canonical row
abbrev pub row_in : Pattern → Row
row_in p = canon nat_eq (pattern_by p.columns.items p.domains.items)

-- each variable has a domain, and its columns are known
pub record IsSound (p : Pattern) : Type 0 where
  pub below : (v : ℕ) → IsIn v (variables_all (trees_of p.columns.items)) → v < length p.domains.items
  pub wide : AreWide (sets_of p.domains.items)
  pub count : length p.domains.items ≤ length p.places
  pub placed : (k v : ℕ) → k < length p.columns.items → IsIn v (variables (column_at p.columns.items k))
      → Stands p.places v k
  pub within : (v k : ℕ) → Stands p.places v k → k < length p.columns.items

-- the variables in the face of a goal of these arguments
abbrev pub names_at : List (Tree ℕ) → List (Tree ℕ) → List ℕ
names_at columns arguments = firsts nat_eq [] (variables_all (put_all (column (trees_of columns)) (trees_of arguments)))

-- the row's columns, whose variables get these numbers
abbrev pub under_numbers : List ℕ → Row → Trees ℕ
under_numbers numbers given = put_all (λ w. variable (get_or numbers w 0)) given.columns

-- what applying this row to a goal of these arguments changes
pub record IsChange (p : Pattern) (arguments : List (Tree ℕ)) (given : Row) (c : Change) : Type 0 where
  pub touched : AreGathered p.places (names_at p.columns.items arguments) c.touched.keys
  pub columns : c.columns.items ≡ map
      (λ k. put (replacement (names_at p.columns.items arguments) (under_numbers c.numbers.items given))
      (column_at p.columns.items k)) c.touched.keys
  pub numbers : AreNumbers (length p.domains.items) (length given.domains) (names_at p.columns.items arguments)
      c.numbers.items
  pub domains : sets_of c.domains.items ≡ given.domains

-- what can be made: places that there are, each once, and variables that are known or get a number
pub record IsMeant (p : Pattern) (c : Change) : Type 0 where
  pub touched : (k : ℕ) → IsIn k c.touched.keys → k < length p.columns.items
  pub columns : length c.columns.items ≡ length c.touched.keys
  pub domains : length c.domains.items ≡ length c.numbers.items
  pub distinct : Distinct nat_eq c.touched.keys
  pub apart : Distinct nat_eq c.numbers.items
  pub known : (v : ℕ) → IsIn v (variables_all (trees_of c.columns.items))
      → (v < length p.domains.items) ⊎ IsIn v c.numbers.items

-- domains of which the later ones are `any`
pub record AreLonger (old new : List (Option (List (ℤ × ℤ)))) : Type 0 where
  pub count : length old ≤ length new
  pub same : (v : ℕ) → domain_at (sets_of new) v ≡ domain_at (sets_of old) v

-- nothing was changed but what is known of later variables and of places
pub record IsAsBefore (old new : Pattern) : Type 0 where
  pub columns : new.columns.items ≡ old.columns.items
  pub domains : AreLonger old.domains.items new.domains.items
  pub known : length new.domains.items ≤ length new.places
  pub stays : (v k : ℕ) → Stands old.places v k → Stands new.places v k
  pub only : (v k : ℕ) → Stands new.places v k → k < length old.columns.items

-- the change was made
pub record IsMade (old : Pattern) (c : Change) (new : Pattern) : Type 0 where
  pub count : length new.columns.items ≡ length old.columns.items
  pub columns : (k : ℕ) → k < length old.columns.items
      → column_at new.columns.items k
      ≡ written c.touched.keys (column_at c.columns.items) (column_at old.columns.items) k
  pub domains : (v : ℕ) → domain_at (sets_of new.domains.items) v
      ≡ written c.numbers.items (domain_at (sets_of c.domains.items)) (domain_at (sets_of old.domains.items)) v
  pub longer : length old.domains.items ≤ length new.domains.items
  pub room : (v : ℕ) → IsIn v c.numbers.items → v < length new.domains.items
  pub known : length new.domains.items ≤ length new.places
  pub stays : (v k : ℕ) → Stands old.places v k → Stands new.places v k
  pub added : (i v : ℕ) → i < length c.touched.keys → IsIn v (variables (column_at c.columns.items i))
      → Stands new.places v (get_or c.touched.keys i 0)
  pub only : (v k : ℕ) → Stands new.places v k → k < length old.columns.items
