-- Terms that are put into a domain, by their first cells.
use Rattle.std.proofs.Common.{◌≡◌, ℕ, ℤ, zero, suc, ◌<◌, Bool, true, false, [], ◌∷◌, length, get_or, arith, refl, ap, sym, subst, inl}
use Rattle.std.specs.FinSet as set
use Rattle.std.proofs.lemmas.List.Elements.{All-head}
use Rattle.pp_algebra.specs.Terms.{Tree, int, node, variable, variables, count}
use Rattle.pp_algebra.specs.Rows.{Domain, Row, domain_at, pattern_of, IsRow}
use Rattle.pp_algebra.specs.Covers.{IsIn}
use Rattle.pp_algebra.specs.Solve.{membership, IsSolved, HasNone}
use Rattle.pp_algebra.specs.Members.{IsInteger}
use Rattle.pp_algebra.proofs.Put.{put_all-variable}
use Rattle.pp_algebra.proofs.Order.{may_stay}
use Rattle.pp_row.specs.declared.cell.Cell.{Cell}
use Rattle.pp_row.specs.declared.cell.Cell.TheVariants.{Int, Atom, Compound, Var}
use Rattle.pp_row.specs.Cells.{head_of, cells_of, cells_of_all, IsLegalCell, IsTerm}
use Rattle.pp_unify.specs.States.{in_place, IsOver, IsSolvedBy}
use Rattle.pp_store.specs.Deciding.{top_of}

head_not-Var : (f n v : ℕ) → head_of f n ≡ Var v → ⊥
head_not-Var f zero v e = let g : Atom f ≡ Var v = e in absurd (cc (g))
head_not-Var f (suc k) v e = let g : Compound f (suc k) ≡ Var v = e in absurd (cc (g))

head_not-Int : (f n : ℕ) (m : ℤ) → head_of f n ≡ Int m → ⊥
head_not-Int f zero m e = let g : Atom f ≡ Int m = e in absurd (cc (g))
head_not-Int f (suc k) m e = let g : Compound f (suc k) ≡ Int m = e in absurd (cc (g))

pub is_variable : (t : Tree ℕ) (v : ℕ) → top_of t ≡ Var v → t ≡ variable v
is_variable (int n) v e = let g : Int n ≡ Var v = e in absurd (cc (g))
is_variable (node f ts) v e = absurd (head_not-Var f (count ts) v e)
is_variable (variable w) v e = let g : Var w ≡ Var v = e in let h : w ≡ v = cc (g) in ap variable h

pub is_integer : (t : Tree ℕ) (m : ℤ) → top_of t ≡ Int m → t ≡ int m
is_integer (int n) m e = let g : Int n ≡ Int m = e in let h : n ≡ m = cc (g) in ap int h
is_integer (node f ts) m e = absurd (head_not-Int f (count ts) m e)
is_integer (variable w) m e = let g : Var w ≡ Int m = e in absurd (cc (g))

-- an atom or a compound is in no domain
abbrev pub IsName : Cell → Type 0
IsName (Int n) = ⊥
IsName (Atom a) = Unit {0}
IsName (Compound f k) = Unit {0}
IsName (Var v) = ⊥

module _ (r : Row) (d : Domain) where
  pub name_has_none : (t : Tree ℕ) → IsName (top_of t) → HasNone (pattern_of r) (membership (in_place r t) d ∷ [])
  name_has_none (int n) h = absurd h
  name_has_none (node f ts) h = λ q i m. m.holds.0
  name_has_none (variable v) h = absurd h

  pub integer_has_none : (t : Tree ℕ) (n : ℤ) → top_of t ≡ Int n → set.contains d n ≡ false → HasNone (pattern_of r) (membership (in_place r t) d ∷ [])
  integer_has_none t n e f = subst (λ u. HasNone (pattern_of r) (membership (in_place r u) d ∷ [])) (sym (is_integer t n e)) (λ q i m. let g : set.contains d n ≡ true = m.holds.0 in absurd (cc (f, g)))

  pub integer_is_in : IsRow r → (t : Tree ℕ) (n : ℤ) → top_of t ≡ Int n → set.contains d n ≡ true → IsSolved (pattern_of r) (membership (in_place r t) d ∷ []) r
  integer_is_in i t n e f = subst (λ u. IsSolved (pattern_of r) (membership (in_place r u) d ∷ []) r) (sym (is_integer t n e)) (record {
    row = i;
    meets = record { by = variable; columns = put_all-variable r.columns; domains = λ v. may_stay (domain_at r.domains) v (domain_at r.domains v) refl; holds = (f, tt) };
    most = λ q j m. record { by = m.by; columns = m.columns; domains = λ v k. m.domains v };
  })

pub has_cells : (t : Tree ℕ) → 0 < length (cells_of t)
has_cells (int n) = omega arith
has_cells (node f ts) = omega arith
has_cells (variable v) = omega arith

pub variable_over : (r : Row) (t : Tree ℕ) (v : ℕ) → top_of t ≡ Var v → IsOver r t → v < count r.columns
variable_over r t v e o = o v (subst (λ u. IsIn v (variables u)) (sym (is_variable t v e)) (inl refl))

pub integer_is_decided : (r : Row) (d : Domain) → IsRow r → (t : Tree ℕ) (n : ℤ) → top_of t ≡ Int n → (b : Bool) → b ≡ set.contains d n → IsSolvedBy r (membership (in_place r t) d) b r
integer_is_decided r d i t n e true f = integer_is_in r d i t n e (sym f)
integer_is_decided r d i t n e false f = integer_has_none r d t n e (sym f)

pub first_legal : (t : Tree ℕ) → IsTerm t → IsLegalCell (top_of t)
first_legal (int n) h = All-head IsLegalCell (Int n) [] h
first_legal (node f ts) h = All-head IsLegalCell (head_of f (count ts)) (cells_of_all ts) h
first_legal (variable v) h = All-head IsLegalCell (Var v) [] h

pub first_cell_is : (t : Tree ℕ) (d : Cell) → get_or (cells_of t) 0 d ≡ top_of t
first_cell_is (int n) d = refl
first_cell_is (node f ts) d = refl
first_cell_is (variable v) d = refl

-- an integer of the language is a word
pub legal_integer : (c : Cell) (n : ℤ) → IsLegalCell c → c ≡ Int n → IsInteger n
legal_integer c n h e = subst IsLegalCell e h
