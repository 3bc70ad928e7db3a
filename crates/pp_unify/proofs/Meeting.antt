-- An equation of two values.
use Rattle.std.proofs.Common.{◌≡◌, ℕ, List, Bool, true, false, refl, ap, sym, ◌∙◌, subst, inl, inr}
use Rattle.std.specs.Prelude.{IsTrue, ◌↔◌}
use Rattle.pp_row.specs.declared.cell.Cell.{Cell}
use Rattle.pp_row.specs.Cells.{head_of}
use Rattle.pp_row.specs.Reading.{IsForest}
use Rattle.pp_row.proofs.Next.{cell_of}
use Rattle.pp_algebra.specs.Terms.{Tree, int, node, variable, put, size}
use Rattle.pp_algebra.specs.Rows.{Domains}
use Rattle.pp_algebra.specs.Solve.{equation}
use Rattle.pp_algebra.proofs.Put.{count-put_all}
use Rattle.pp_heap.specs.declared.state.Value.{Value}
use Rattle.pp_heap.specs.declared.state.Value.TheVariants.{Variable, Int, Atom, Compound}
use Rattle.pp_heap.specs.declared.state.State.{State}
use Rattle.pp_unify.specs.declared.unify.Met.{Met}
use Rattle.pp_unify.specs.declared.unify.Met.TheVariants.{Apart, Done, Open}
use Rattle.pp_heap.specs.Values.{cell_at, term_at, value_term}
use Rattle.pp_heap.specs.Stores.{store_of, solution}
use Rattle.pp_heap.specs.Agreement.{Agrees, Excludes}
use Rattle.pp_heap.specs.Soundness.{IsCompound, IsFixed, IsGood}
use Rattle.pp_heap.specs.Outcomes.{IsAnswer, IsVerdict}
use Rattle.pp_unify.specs.Equating.{HasMet, met_by}
use Rattle.pp_heap.proofs.Solutions.{own_domains, solution_agrees}
use Rattle.pp_heap.proofs.Forests.{term_cell}
use Rattle.pp_heap.proofs.Assigning.{nothing_solves, answer_turned}

pub met_of_answer : (a b : State) (t u : Tree ℕ) (r : Bool) → IsAnswer a b t u r → HasMet a b t u (met_by r)
met_of_answer a b t u true h = h
met_of_answer a b t u false h = h

fixed_cell : (s : ℕ → Tree ℕ) (t : Tree ℕ) → IsCompound (cell_of t) → cell_of (put s t) ≡ cell_of t
fixed_cell s (int n) h = absurd h
fixed_cell s (node f ts) h = ap (head_of f) (count-put_all s ts)
fixed_cell s (variable v) h = absurd h

-- the cell of a value that is no variable, whatever its variables are
fixed_top : (s : ℕ → Tree ℕ) (heap : List Cell) (c : Value) → IsForest heap → IsFixed heap c → cell_of (put s (value_term heap c)) ≡ cell_of (value_term heap c)
fixed_top s heap (Variable w) f h = absurd h
fixed_top s heap (Int n) f h = refl
fixed_top s heap (Atom a) f h = refl
fixed_top s heap (Compound p) f h = fixed_cell s (term_at heap p) (subst IsCompound (sym (term_cell heap p f h.0)) h.1)

pub same_tops : (s : ℕ → Tree ℕ) (heap : List Cell) (c k : Value) → IsForest heap → IsFixed heap c → IsFixed heap k → put s (value_term heap c) ≡ put s (value_term heap k) → cell_of (value_term heap c) ≡ cell_of (value_term heap k)
same_tops s heap c k f h i e = sym (fixed_top s heap c f h) ∙ ap cell_of e ∙ fixed_top s heap k f i

-- two compounds of one name or not
pub names_differ : (t : State) (p q : ℕ) → IsGood t → IsFixed t.heap.items (Compound p) → IsFixed t.heap.items (Compound q) → (cell_at t.heap.items p ≡ cell_at t.heap.items q → ⊥) → Excludes t (equation (term_at t.heap.items p) (term_at t.heap.items q))
names_differ t p q g h i n ds s w a e =
    let f = g.linked.forest in
    n (sym (term_cell t.heap.items p f h.0) ∙ same_tops s t.heap.items (Compound p) (Compound q) f h i e ∙ term_cell t.heap.items q f i.0)

not_compound : (heap : List Cell) (p : ℕ) (c : Cell) → IsForest heap → IsFixed heap (Compound p) → (IsCompound c → ⊥) → cell_of (term_at heap p) ≡ c → ⊥
not_compound heap p c f h n e = n (subst IsCompound (sym (term_cell heap p f h.0) ∙ e) h.1)

-- two values that are not both compounds are one where their cells are
same_values : (heap : List Cell) (c k : Value) → IsForest heap → IsFixed heap c → IsFixed heap k → ((p q : ℕ) → c ≡ Compound p → k ≡ Compound q → ⊥) → cell_of (value_term heap c) ≡ cell_of (value_term heap k) → c ≡ k
same_values heap (Variable w) k f h i n e = absurd h
same_values heap (Int a) (Variable w) f h i n e = absurd i
same_values heap (Int a) (Int b) f h i n e = let g : a ≡ b = cc in ap Int g
same_values heap (Int a) (Atom b) f h i n e = absurd (cc)
same_values heap (Int a) (Compound q) f h i n e = absurd (not_compound heap q _ f i (λ x. x) (sym e))
same_values heap (Atom a) (Variable w) f h i n e = absurd i
same_values heap (Atom a) (Int b) f h i n e = absurd (cc)
same_values heap (Atom a) (Atom b) f h i n e = let g : a ≡ b = cc in ap Atom g
same_values heap (Atom a) (Compound q) f h i n e = absurd (not_compound heap q _ f i (λ x. x) (sym e))
same_values heap (Compound p) (Variable w) f h i n e = absurd i
same_values heap (Compound p) (Int b) f h i n e = absurd (not_compound heap p _ f h (λ x. x) e)
same_values heap (Compound p) (Atom b) f h i n e = absurd (not_compound heap p _ f h (λ x. x) e)
same_values heap (Compound p) (Compound q) f h i n e = absurd (n p q refl refl)

pub values_meet : (t : State) (c k : Value) (r : Bool) → IsGood t → IsFixed t.heap.items c → IsFixed t.heap.items k → ((p q : ℕ) → c ≡ Compound p → k ≡ Compound q → ⊥) → (IsTrue r ↔ (c ≡ k)) → HasMet t t (value_term t.heap.items c) (value_term t.heap.items k) (met_by r)
values_meet t c k true g h i n e = nothing_solves t (value_term t.heap.items c) (value_term t.heap.items k) (ap (value_term t.heap.items) (e.0 refl))
values_meet t c k false g h i n e = λ ds s w a q.
    let f : false ≡ true = e.1 (same_values t.heap.items c k g.linked.forest h i n (same_tops s t.heap.items c k g.linked.forest h i q)) in absurd (cc)

pub values_verdict : (t : State) (c k : Value) (r : Bool) → IsGood t → IsFixed t.heap.items c → IsFixed t.heap.items k → ((p q : ℕ) → c ≡ Compound p → k ≡ Compound q → ⊥) → (IsTrue r ↔ (c ≡ k)) → IsVerdict t t (equation (value_term t.heap.items c) (value_term t.heap.items k)) r
values_verdict t c k true g h i n e = (values_meet t c k true g h i n e).follows
values_verdict t c k false g h i n e = values_meet t c k false g h i n e

-- terms that are these values at the moment
pub met_same : (a b : State) (t u t' u' : Tree ℕ) (m : Met) → IsGood a
    → ((ds : Domains ℕ) (s : ℕ → Tree ℕ) → Agrees (store_of a) ds s → put s t ≡ put s t')
    → ((ds : Domains ℕ) (s : ℕ → Tree ℕ) → Agrees (store_of a) ds s → put s u ≡ put s u')
    → HasMet a b t' u' m → HasMet a b t u m
met_same a b t u t' u' Apart g x y h = λ ds s w r e. h ds s w r (sym (x ds s r) ∙ e ∙ y ds s r)
met_same a b t u t' u' Done g x y h =
    let own = own_domains (store_of a) in
    let i = solution_agrees a g in
    let e = ap size (x own (solution a) i) in
    let k = ap size (y own (solution a) i) in
    record {
      follows = λ ds s w. (
        (λ r. let p = (h.follows ds s w).0 r in (p.0, x ds s p.0 ∙ p.1 ∙ sym (y ds s p.0))),
        λ r. (h.follows ds s w).1 (r.0, sym (x ds s r.0) ∙ r.1 ∙ y ds s r.0),
      );
      falls = elim h.falls [
        | inl j ↦ inl j
        | inr j ↦ inr (record { frees = j.frees; sizes = λ ts. rw (e, k) (j.sizes ts) })
      ];
    }
met_same a b t u t' u' (Open p q) g x y h = (
  h.0,
  record {
    left_within = h.1.left_within;
    right_within = h.1.right_within;
    same = h.1.same;
    compound = h.1.compound;
    left_is = λ ds s r. x ds s r ∙ h.1.left_is ds s r;
    right_is = λ ds s r. y ds s r ∙ h.1.right_is ds s r;
  },
)

pub met_turned : (a b : State) (t u : Tree ℕ) (r : Bool) → IsAnswer a b t u r → HasMet a b u t (met_by r)
met_turned a b t u r h = met_of_answer a b u t r (answer_turned a b t u r h)
