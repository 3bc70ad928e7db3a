-- A free variable is bound to an integer, an atom or a compound.
use Rattle.std.proofs.Common.{◌≡◌, ℕ, ℤ, ◌<◌, List, length, Bool, true, false, Option, Some, None, refl, ap, sym, ◌∙◌, subst, inl, inr, arith}
use Rattle.std.specs.Prelude.{IsTrue, not, ◌↔◌}
use Rattle.pp_row.specs.declared.cell.Cell.{Cell}
use Rattle.pp_row.specs.Reading.{IsForest}
use Rattle.pp_row.proofs.Next.{cell_of}
use Rattle.pp_algebra.specs.Terms.{Tree, int, node, variable, put, put_all, variables}
use Rattle.pp_algebra.specs.Rows.{Domain, Domains}
use Rattle.pp_algebra.specs.Covers.{IsIn, MayGo}
use Rattle.pp_algebra.specs.Solve.{equation, membership}
use Rattle.pp_algebra.proofs.Eliminated.{no_circle}
use Rattle.pp_heap.specs.declared.state.Value.{Value}
use Rattle.pp_heap.specs.declared.state.Value.TheVariants.{Variable, Int, Atom, Compound}
use Rattle.pp_heap.specs.declared.state.State.{State}
use Rattle.pp_heap.specs.Values.{cell_at, term_at, value_term, domain_by}
use Rattle.pp_heap.specs.Stores.{store_of, solution}
use Rattle.pp_heap.specs.Agreement.{Agrees, Excludes}
use Rattle.pp_heap.specs.Soundness.{IsCompound, IsFixed, IsTarget, IsGood}
use Rattle.pp_heap.specs.Outcomes.{IsFree, IsNow, IsHeld, IsAllowed, IsAnswer, IsVerdict, Solves, IsSteady}
use Rattle.pp_heap.proofs.Slots.{agrees_free}
use Rattle.pp_heap.proofs.Made.{put_through}
use Rattle.pp_heap.proofs.Solutions.{solution_most}
use Rattle.pp_heap.proofs.Forests.{term_cell}
use Rattle.pp_heap.proofs.Binding.{IsBinding, binding_agrees, binding_says, agrees_binding, binding_shrinks}

-- a compound is no integer of a domain
compound_stays : (ds : Domains ℕ) (s : ℕ → Tree ℕ) (d : Domain) (t : Tree ℕ) → IsCompound (cell_of t) → MayGo ds (Some d) (put s t) → ⊥
compound_stays ds s d (int n) h g = h
compound_stays ds s d (node f ts) h g = g
compound_stays ds s d (variable v) h g = h

pub compound_out : (ds : Domains ℕ) (s : ℕ → Tree ℕ) (d : Domain) (heap : List Cell) (p : ℕ) → IsForest heap → p < length heap → IsCompound (cell_at heap p) → MayGo ds (Some d) (put s (term_at heap p)) → ⊥
compound_out ds s d heap p f l h g = compound_stays ds s d (term_at heap p) (subst IsCompound (sym (term_cell heap p f l)) h) g

circle : (r s : ℕ → Tree ℕ) (x : ℕ) (t : Tree ℕ) → IsCompound (cell_of t) → IsIn x (variables (put r t)) → s x ≡ put s (put r t) → ⊥
circle r s x (int n) h i e = h
circle r s x (node f ts) h i e = no_circle s x f (put_all r ts) i e
circle r s x (variable v) h i e = h

-- the domain that the variable has keeps it from a value
domain_excludes : (t : State) (x : ℕ) (d : Option ℕ) (c : Value) (e : Domain) → IsFree (store_of t) x d → domain_by t.domains.items d ≡ Some e → ((ds : Domains ℕ) (s : ℕ → Tree ℕ) → MayGo ds (Some e) (put s (value_term t.heap.items c)) → ⊥) → Excludes t (equation (variable x) (value_term t.heap.items c))
domain_excludes t x d c e f q h ds s w a k =
    h ds s (subst (MayGo ds (Some e)) k (subst (λ o. MayGo ds o (s x)) q (agrees_free (store_of t) ds s x d a f.free)))

pub int_allowed : (t : State) (x : ℕ) (d : Option ℕ) (n : ℤ) (o : Option Domain) (b : Bool) → IsFree (store_of t) x d → domain_by t.domains.items d ≡ o → IsHeld o n b → IsAllowed t x d (Int n) b
int_allowed t x d n None true f q h = ((λ ds s e. subst (λ o. MayGo ds o (s x)) (sym q) tt), λ i. i)
int_allowed t x d n None false f q h = absurd (cc)
int_allowed t x d n (Some e) true f q h = ((λ ds s k. subst (λ o. MayGo ds o (s x)) (sym q) (subst (MayGo ds (Some e)) (sym k) (sym h))), λ i. i)
int_allowed t x d n (Some e) false f q h = domain_excludes t x d (Int n) e f q (λ ds s g. absurd (cc (h, g)))

pub any_allows : (t : State) (x : ℕ) (d : Option ℕ) (c : Value) → d ≡ None → (IsIn x (variables (put (solution t) (value_term t.heap.items c))) → ⊥) → IsAllowed t x d c true
any_allows t x d c e a = ((λ ds s k. rw e tt), a)

-- a finite domain has no atom and no compound
pub finite_excludes : (t : State) (x k : ℕ) (d : Option ℕ) (c : Value) → IsGood t → IsFree (store_of t) x d → d ≡ Some k → IsFixed t.heap.items c → ((n : ℤ) → c ≡ Int n → ⊥) → IsAllowed t x d c false
finite_excludes t x k d (Variable w) g f e h i = absurd h
finite_excludes t x k d (Int n) g f e h i = absurd (i n refl)
finite_excludes t x k d (Atom a) g f e h i = domain_excludes t x d (Atom a) _ f (ap (domain_by t.domains.items) e) (λ ds s g. g)
finite_excludes t x k d (Compound p) g f e h i = domain_excludes t x d (Compound p) _ f (ap (domain_by t.domains.items) e) (λ ds s m. compound_out ds s _ t.heap.items p g.linked.forest h.0 h.1 m)

-- nothing makes a variable a compound with it in it
pub circle_excludes : (t : State) (x p : ℕ) (d : Option ℕ) → IsGood t → p < length t.heap.items → IsCompound (cell_at t.heap.items p) → IsIn x (variables (put (solution t) (term_at t.heap.items p))) → IsAllowed t x d (Compound p) false
circle_excludes t x p d g l h i ds s w a e =
    circle (solution t) s x (term_at t.heap.items p) (subst IsCompound (sym (term_cell t.heap.items p g.linked.forest l)) h) i
    (e ∙ sym (put_through s (solution t) (term_at t.heap.items p) (solution_most t ds s g a)))

-- the binding solves the equation
pub assigned : (a b : State) (x : ℕ) (d : Option ℕ) (c : Value) → IsBinding a b x d c → IsAllowed a x d c true → Solves a b (variable x) (value_term a.heap.items c)
assigned a b x d c k h = record {
  follows = λ ds s w. (
    (λ r. let e = binding_says a b x d c ds s k r in (binding_agrees a b x d c ds s k r (h.0 ds s e), e)),
    λ r. agrees_binding a b x d c ds s k r.0 r.1,
  );
  falls = inr (binding_shrinks a b x d c (variable x) (value_term a.heap.items c) k (omega arith));
}

-- an equation has no order
pub answer_turned : (a b : State) (t u : Tree ℕ) (r : Bool) → IsAnswer a b t u r → IsAnswer a b u t r
answer_turned a b t u true h = record {
  follows = λ ds s w. ((λ r. let p = (h.follows ds s w).0 r in (p.0, sym p.1)), λ r. (h.follows ds s w).1 (r.0, sym r.1));
  falls = elim h.falls [
    | inl e ↦ inl e
    | inr k ↦ inr (record { frees = k.frees; sizes = λ ts. let g = k.sizes ts in omega arith })
  ];
}
answer_turned a b t u false h = λ ds s w r e. h ds s w r (sym e)

pub steady_itself : (t : State) → IsSteady t t
steady_itself t = record { frees = refl; same = λ v. refl }

pub nothing_solves : (a : State) (t u : Tree ℕ) → t ≡ u → Solves a a t u
nothing_solves a t u e = record { follows = λ ds s w. ((λ r. (r, ap (put s) e)), λ r. r.0); falls = inl (steady_itself a) }

-- a membership of a term that is another one at the moment
pub verdict_same : (a b : State) (t u : Tree ℕ) (d : Domain) (r : Bool) → ((ds : Domains ℕ) (s : ℕ → Tree ℕ) → Agrees (store_of a) ds s → put s t ≡ put s u) → IsVerdict a b (membership u d) r → IsVerdict a b (membership t d) r
verdict_same a b t u d true e h = λ ds s w. (
  (λ r. let p = (h ds s w).0 r in (p.0, subst (MayGo ds (Some d)) (sym (e ds s p.0)) p.1)),
  λ r. (h ds s w).1 (r.0, subst (MayGo ds (Some d)) (e ds s r.0) r.1),
)
verdict_same a b t u d false e h = λ ds s w r g. h ds s w r (subst (MayGo ds (Some d)) (e ds s r) g)

-- an atom or a compound is in no domain
pub fixed_excludes : (a : State) (t : Tree ℕ) (c : Value) (d : Domain) → IsGood a → ((ds : Domains ℕ) (s : ℕ → Tree ℕ) → Agrees (store_of a) ds s → put s t ≡ put s (value_term a.heap.items c)) → IsFixed a.heap.items c → ((n : ℤ) → c ≡ Int n → ⊥) → Excludes a (membership t d)
fixed_excludes a t (Variable w) d g e h i = absurd h
fixed_excludes a t (Int n) d g e h i = absurd (i n refl)
fixed_excludes a t (Atom n) d g e h i = λ ds s w r k. subst (MayGo ds (Some d)) (e ds s r) k
fixed_excludes a t (Compound p) d g e h i = λ ds s w r k. compound_out ds s d a.heap.items p g.linked.forest h.0 h.1 (subst (MayGo ds (Some d)) (e ds s r) k)

pub now_fixed : (a : State) (c : Value) → IsNow (store_of a) c → ((w : ℕ) → c ≡ Variable w → ⊥) → IsFixed a.heap.items c
now_fixed a (Variable w) n h = absurd (h w refl)
now_fixed a (Int k) n h = n
now_fixed a (Atom k) n h = n
now_fixed a (Compound p) n h = n

pub compound_may_be : (t : State) (x p : ℕ) (d : Option ℕ) (b : Bool) → IsGood t → p < length t.heap.items → IsCompound (cell_at t.heap.items p) → d ≡ None → (IsTrue b ↔ IsIn x (variables (put (solution t) (term_at t.heap.items p)))) → IsAllowed t x d (Compound p) (not b)
compound_may_be t x p d true g l h e o = circle_excludes t x p d g l h (o.0 refl)
compound_may_be t x p d false g l h e o = any_allows t x d (Compound p) e (λ i. let f : false ≡ true = o.1 i in absurd (cc))

pub fixed_target : (heap : List Cell) (x : ℕ) (c : Value) → IsFixed heap c → IsTarget heap x c
fixed_target heap x (Variable w) h = absurd h
fixed_target heap x (Int n) h = h
fixed_target heap x (Atom a) h = h
fixed_target heap x (Compound p) h = h
