-- One cell further.
use Rattle.std.proofs.Common.{◌≡◌, ℕ, ℤ, zero, suc, ◌+◌, ◌-◌, ◌<◌, ◌≤◌, List, [], ◌∷◌, length, drop, Option, Some, None, option_map, option_and_then, refl, ap, ◌∙◌, sym, arith, add-one, drop-cons, get_or, subst, length-append, length-drop}
use Rattle.std.proofs.lemmas.List.Elements.{All-drop, All-get_or}
use Rattle.pp_row.specs.declared.cell.Cell.{Cell}
use Rattle.pp_row.specs.declared.cell.Cell.TheVariants.{Int, Atom, Compound, Var}
use Rattle.pp_algebra.specs.Terms.{Tree, int, node, variable, Trees, none, more, count, join}
use Rattle.pp_algebra.specs.Least.{first, rest, arguments}
use Rattle.pp_algebra.proofs.Joined.{join-join, count-join}
use Rattle.pp_row.specs.Cells.{arity_of, head_of, IsLegalCell, cells_of, cells_of_all}
use Rattle.pp_row.specs.Reading.{split, step, stack, all_of, forest, IsForest, from}
use Rattle.pp_row.proofs.OneTerm.{split-is, compound_head, stack-is}
use Rattle.std.proofs.Math.Seq.{drop-nil}

abbrev pub cell_of : Tree ℕ → Cell
cell_of (int n) = Int n
cell_of (node f ts) = head_of f (count ts)
cell_of (variable v) = Var v

pub same_head : (f g k n : ℕ) → head_of f k ≡ head_of g n → (f ≡ g) × (k ≡ n)
same_head f g zero zero e = (cc, refl)
same_head f g zero (suc n) e = absurd (cc)
same_head f g (suc k) zero e = absurd (cc)
same_head f g (suc k) (suc n) e = (cc, cc)

pub int_head : (n : ℤ) (g k : ℕ) → Int n ≡ head_of g k → ⊥
int_head n g zero e = cc
int_head n g (suc k) e = cc

pub var_head : (v g k : ℕ) → Var v ≡ head_of g k → ⊥
var_head v g zero e = cc
var_head v g (suc k) e = cc

pub var_term : (t : Tree ℕ) (v : ℕ) → cell_of t ≡ Var v → t ≡ variable v
var_term (int n) v e = absurd (cc)
var_term (node g xs) v e = absurd (var_head v g (count xs) (sym e))
var_term (variable w) v e = ap variable (cc)

-- a suffix reads too
suffix : (cs : List Cell) (i : ℕ) (ts : Trees ℕ) → stack cs ≡ Some ts → (us : Trees ℕ) × (stack (drop i cs) ≡ Some us)
suffix cs zero ts h = (ts, h)
suffix [] (suc i) ts h = (ts, h)
suffix (c ∷ cs) (suc i) ts h = go (stack cs) h (λ us e. suffix cs i us e)
  where
    go : (o : Option (Trees ℕ)) → option_and_then (step c) o ≡ Some ts → ((us : Trees ℕ) → o ≡ Some us → (ws : Trees ℕ) × (stack (drop i cs) ≡ Some ws)) → (ws : Trees ℕ) × (stack (drop i cs) ≡ Some ws)
    go None e f = absurd (cc)
    go (Some us) e f = f us refl

reads : (o : Option (Trees ℕ)) (us : Trees ℕ) → o ≡ Some us → o ≡ Some (all_of o)
reads o us e = rw e refl

pub forest_from : (cs : List Cell) (i : ℕ) → IsForest cs → IsForest (drop i cs)
forest_from cs i h = let s = suffix cs i (forest cs) h.reads in record { legal = All-drop IsLegalCell i cs h.legal; reads = reads (stack (drop i cs)) s.0 s.1 }

-- the first tree is gone, and its arguments stand in its place
pub record IsNext (c : Cell) (ts us : Trees ℕ) : Type 0 where
  pub some : ts ≡ more (first ts) (rest ts)
  pub inner : us ≡ join (arguments (first ts)) (rest ts)
  pub cell : cell_of (first ts) ≡ c
  pub arity : count (arguments (first ts)) ≡ arity_of c

step-next : (c : Cell) (us ts : Trees ℕ) → IsLegalCell c → step c us ≡ Some ts → IsNext c ts us
step-next (Int n) us ts l h = let e : more (int n) us ≡ ts = cc in rw (← e) (record { some = refl; inner = refl; cell = refl; arity = refl })
step-next (Atom a) us ts l h = let e : more (node a none) us ≡ ts = cc in rw (← e) (record { some = refl; inner = refl; cell = refl; arity = refl })
step-next (Var v) us ts l h = let e : more (variable v) us ≡ ts = cc in rw (← e) (record { some = refl; inner = refl; cell = refl; arity = refl })
step-next (Compound f k) us ts l h = go (split k us) refl h
  where
    go : (o : Option (Trees ℕ × Trees ℕ)) → split k us ≡ o → option_map (λ p. more (node f p.0) p.1) o ≡ Some ts → IsNext (Compound f k) ts us
    go None e h = absurd (cc)
    go (Some p) e h =
        let r = split-is k us p e in
        let s : more (node f p.0) p.1 ≡ ts = cc in
        rw (← s) (record { some = refl; inner = r.0; cell = rw r.1 (compound_head f k l.0); arity = r.1 })

then-next : (c : Cell) (o : Option (Trees ℕ)) (ts : Trees ℕ) → IsLegalCell c → option_and_then (step c) o ≡ Some ts → IsNext c ts (all_of o)
then-next c None ts l h = absurd (cc)
then-next c (Some us) ts l h = step-next c us ts l h

pub next : (cs : List Cell) (i : ℕ) (d : Cell) → IsForest cs → i < length cs → IsNext (get_or cs i d) (from cs i) (from cs (i + 1))
next cs i d h l =
    let r : stack (drop i cs) ≡ Some (from cs i) = (forest_from cs i h).reads in
    rw add-one (then-next (get_or cs i d) (stack (drop (suc i) cs)) (from cs i) (All-get_or IsLegalCell cs i d l h.legal) (sym (ap stack (drop-cons cs i d l)) ∙ r))

-- a term that is there begins at a cell
pub some_inside : (cs : List Cell) (i : ℕ) → 0 < count (from cs i) → i < length cs
some_inside [] i h = absurd (omega (arith, h, ap (λ x. count (forest x)) (drop-nil i)))
some_inside (c ∷ cs) zero h = omega arith
some_inside (c ∷ cs) (suc i) h = omega (arith, some_inside cs i h)

mutual
  pub one_cell : (t : Tree ℕ) → 1 ≤ length (cells_of t)
  one_cell (int n) = omega arith
  one_cell (node f ts) = omega arith
  one_cell (variable v) = omega arith

  count_cells : (ts : Trees ℕ) → count ts ≤ length (cells_of_all ts)
  count_cells none = omega arith
  count_cells (more t ts) = omega (arith, one_cell t, count_cells ts, length-append (cells_of t) (cells_of_all ts))

pub count_forest : (cs : List Cell) → IsForest cs → count (forest cs) ≤ length cs
count_forest cs h = subst (λ ds. count (forest cs) ≤ length ds) (stack-is cs (forest cs) h.legal h.reads) (count_cells (forest cs))

pub count_from : (cs : List Cell) (i : ℕ) → IsForest cs → i ≤ length cs → count (from cs i) + i ≤ length cs
count_from cs i h l = omega (arith, count_forest (drop i cs) (forest_from cs i h), length-drop i cs)

open_more : (c : Cell) (ps r ts us : Trees ℕ) → IsNext c ts us → ts ≡ join ps r → 0 < count ps → (qs : Trees ℕ) × (us ≡ join qs r) × (count qs ≡ count ps - 1 + arity_of c)
open_more c none r ts us n e h = absurd (omega arith)
open_more c (more p ps) r ts us n e h =
    let f : first ts ≡ p = ap first e in
    let g : rest ts ≡ join ps r = ap rest e in
    (join (arguments p) ps, (rw (f, g) at n.inner) ∙ join-join (arguments p) ps r, count-join (arguments p) ps ∙ (let a : count (arguments p) ≡ arity_of c = rw f at n.arity in omega arith))

pub opens : (cs : List Cell) (i : ℕ) (d : Cell) (ps r : Trees ℕ) → IsForest cs → i < length cs → from cs i ≡ join ps r → 0 < count ps → (qs : Trees ℕ) × (from cs (i + 1) ≡ join qs r) × (count qs ≡ count ps - 1 + arity_of (get_or cs i d))
opens cs i d ps r h l e k = open_more (get_or cs i d) ps r (from cs i) (from cs (i + 1)) (next cs i d h l) e k
