-- Cells that are one term.
use Rattle.std.proofs.Common.{◌≡◌, ℕ, zero, suc, ◌≤◌, List, [], ◌∷◌, ◌++◌, Option, Some, None, option_map, option_and_then, refl, ap, ◌∙◌, sym, arith, append_assoc, append-nil, All}
use Rattle.std.proofs.lemmas.List.Elements.{All-head, All-tail}
use Rattle.pp_row.specs.declared.cell.Cell.{Cell}
use Rattle.pp_row.specs.declared.cell.Cell.TheVariants.{Int, Atom, Compound, Var}
use Rattle.pp_algebra.specs.Terms.{Tree, int, node, variable, Trees, none, more, count, join}
use Rattle.pp_row.specs.Cells.{cells_of, cells_of_all, head_of, IsLegalCell, IsTerm}
use Rattle.pp_row.specs.Reading.{split, step, stack, all_of, tree_of, only, IsOneTerm, IsForest}
use Rattle.pp_row.specs.Codes.{stack-cells_of}

pub cells_of_all-join : (ts us : Trees ℕ) → cells_of_all (join ts us) ≡ cells_of_all ts ++ cells_of_all us
cells_of_all-join none us = refl
cells_of_all-join (more t ts) us = rw (cells_of_all-join ts us, append_assoc) refl

-- a longer split, from a shorter one
split-more : (k : ℕ) (t : Tree ℕ) (ts : Trees ℕ) (p : Trees ℕ × Trees ℕ) (o : Option (Trees ℕ × Trees ℕ)) → ((q : Trees ℕ × Trees ℕ) → o ≡ Some q → (ts ≡ join q.0 q.1) × (count q.0 ≡ k)) → option_map (λ q. (more t q.0, q.1)) o ≡ Some p → (more t ts ≡ join p.0 p.1) × (count p.0 ≡ suc k)
split-more k t ts p None f h = absurd (cc)
split-more k t ts p (Some q) f h =
    let r = f q refl in
    let s : (more t q.0, q.1) ≡ p = cc in
    (ap (more t) r.0 ∙ ap (λ x. join x.0 x.1) s, ap (λ x. count x.0) (sym s) ∙ ap suc r.1)

pub split-is : (k : ℕ) (ts : Trees ℕ) (p : Trees ℕ × Trees ℕ) → split k ts ≡ Some p → (ts ≡ join p.0 p.1) × (count p.0 ≡ k)
split-is zero ts p h = let e : (none, ts) ≡ p = cc in (ap (λ q. join q.0 q.1) e, ap (λ q. count q.0) (sym e))
split-is (suc k) none p h = absurd (cc)
split-is (suc k) (more t ts) p h = split-more k t ts p (split k ts) (split-is k ts) h

pub compound_head : (f k : ℕ) → 1 ≤ k → head_of f k ≡ Compound f k
compound_head f zero h = absurd (omega arith)
compound_head f (suc k) h = refl

step-is : (c : Cell) (ts us : Trees ℕ) → IsLegalCell c → step c ts ≡ Some us → cells_of_all us ≡ c ∷ cells_of_all ts
step-is (Int n) ts us l h = let e : more (int n) ts ≡ us = cc in ap cells_of_all (sym e)
step-is (Atom a) ts us l h = let e : more (node a none) ts ≡ us = cc in ap cells_of_all (sym e)
step-is (Var v) ts us l h = let e : more (variable v) ts ≡ us = cc in ap cells_of_all (sym e)
step-is (Compound f k) ts us l h = go (split k ts) refl h
  where
    go : (o : Option (Trees ℕ × Trees ℕ)) → split k ts ≡ o → option_map (λ p. more (node f p.0) p.1) o ≡ Some us → cells_of_all us ≡ Compound f k ∷ cells_of_all ts
    go None e h = absurd (cc)
    go (Some p) e h =
        let r = split-is k ts p e in
        let s : more (node f p.0) p.1 ≡ us = cc in
        ap cells_of_all (sym s)
        ∙ ap (λ n. head_of f n ∷ (cells_of_all p.0 ++ cells_of_all p.1)) r.1
        ∙ ap (λ x. x ∷ (cells_of_all p.0 ++ cells_of_all p.1)) (compound_head f k l.0)
        ∙ ap (λ x. Compound f k ∷ x) (sym (cells_of_all-join p.0 p.1) ∙ ap cells_of_all (sym r.0))

stack-more : (c : Cell) (cs : List Cell) (us : Trees ℕ) (o : Option (Trees ℕ)) → IsLegalCell c → ((ts : Trees ℕ) → o ≡ Some ts → cells_of_all ts ≡ cs) → option_and_then (step c) o ≡ Some us → cells_of_all us ≡ c ∷ cs
stack-more c cs us None l f h = absurd (cc)
stack-more c cs us (Some ts) l f h = step-is c ts us l h ∙ ap (λ x. c ∷ x) (f ts refl)

pub stack-is : (cs : List Cell) (us : Trees ℕ) → All IsLegalCell cs → stack cs ≡ Some us → cells_of_all us ≡ cs
stack-is [] us l h = let e : none ≡ us = cc in ap cells_of_all (sym e)
stack-is (c ∷ cs) us l h = stack-more c cs us (stack cs) (All-head IsLegalCell c cs l) (λ ts. stack-is cs ts (All-tail IsLegalCell c cs l)) h

inside : (a b : ℕ) → Some a ≡ Some b → a ≡ b
inside a b h = cc

pub one_term : (cs : List Cell) → All IsLegalCell cs → option_map count (stack cs) ≡ Some 1 → cells_of (tree_of cs) ≡ cs
one_term cs l h = go (stack cs) refl h
  where
    go : (o : Option (Trees ℕ)) → stack cs ≡ o → option_map count o ≡ Some 1 → cells_of (only o) ≡ cs
    go None e h = absurd (cc)
    go (Some none) e h = absurd (omega (arith, inside 0 1 h))
    go (Some (more t none)) e h = sym (append-nil (cells_of t)) ∙ stack-is cs (more t none) l e
    go (Some (more t (more u us))) e h = absurd (omega (arith, inside (suc (suc (count us))) 1 h))

pub counts_one : (t : Tree ℕ) (cs : List Cell) → cells_of t ≡ cs → option_map count (stack cs) ≡ Some 1
counts_one t cs e = rw (← e, ← append-nil (cells_of t)) (ap (option_map count) (stack-cells_of t [] none refl))

pub is_one : (cs : List Cell) → All IsLegalCell cs → option_map count (stack cs) ≡ Some 1 → IsOneTerm cs
is_one cs l h = record { legal = l; whole = one_term cs l h }

pub counts_one_term : (cs : List Cell) → IsOneTerm cs → option_map count (stack cs) ≡ Some 1
counts_one_term cs h = counts_one (tree_of cs) cs h.whole

pub is_legal : (cs : List Cell) → IsOneTerm cs → IsTerm (tree_of cs)
is_legal cs h = rw h.whole h.legal

pub one_of : (t : Tree ℕ) (cs : List Cell) → IsTerm t → cells_of t ≡ cs → IsOneTerm cs
one_of t cs l e = is_one cs (rw e at l) (counts_one t cs e)

-- the cells of one term
pub reads_one : (cs : List Cell) → IsOneTerm cs → stack cs ≡ Some (more (tree_of cs) none)
reads_one cs h = ap stack (sym h.whole ∙ sym (append-nil (cells_of (tree_of cs)))) ∙ stack-cells_of (tree_of cs) [] none refl

pub one_is_forest : (cs : List Cell) → IsOneTerm cs → IsForest cs
one_is_forest cs h = record { legal = h.legal; reads = reads_one cs h ∙ ap (λ o. Some (all_of o)) (sym (reads_one cs h)) }

-- terms with the same tree have the same cells
pub same_terms : (cs ds : List Cell) → IsOneTerm cs → IsOneTerm ds → tree_of cs ≡ tree_of ds → cs ≡ ds
same_terms cs ds h k e = sym h.whole ∙ ap (λ t. cells_of t) e ∙ k.whole
