-- Terms are put to the heap, and variables are added.
use Rattle.std.proofs.Common.{◌≡◌, ℕ, zero, suc, ◌+◌, ◌-◌, ◌<◌, ◌≤◌, ◌^◌, pos, List, [], ◌∷◌, ◌++◌, length, Option, None, refl, ap, sym, ◌∙◌, subst, inl, inr, arith, append-nil, length-append}
use Rattle.std.proofs.Common.{replicate}
use Rattle.std.proofs.Math.Seq.{take-append_seam}
use Rattle.std.proofs.lemmas.List.{get_or-append-add, get_or_append_left, length-replicate}
use Rattle.std.proofs.lemmas.List.Elements.{All-nil}
use Rattle.pp_row.specs.declared.cell.Cell.{Cell}
use Rattle.pp_row.specs.declared.cell.Cell.TheVariants as cells
use Rattle.pp_row.specs.Cells.{IsLegalCell, renamed}
use Rattle.pp_row.specs.Reading.{IsForest}
use Rattle.pp_algebra.proofs.Put.{put-variable}
use Rattle.pp_heap.specs.declared.state.Slot.{Slot}
use Rattle.pp_heap.specs.declared.state.Slot.TheVariants.{Free}
use Rattle.pp_heap.specs.declared.state.Value.{Value}
use Rattle.pp_heap.specs.declared.state.Value.TheVariants.{Variable, Int, Atom, Compound}
use Rattle.pp_heap.specs.declared.state.Entry.TheVariants.{Grown, Added}
use Rattle.pp_heap.specs.declared.state.State.{State}
use Rattle.pp_heap.specs.Values.{slot_at, cell_at, shifted}
use Rattle.pp_heap.specs.Stores.{Store, store_of, entries_of, before, solution}
use Rattle.pp_heap.specs.Soundness.{IsCompound, IsTarget, IsPlace, IsLinked, IsStep, IsGood, IsKept}
use Rattle.pp_heap.specs.Outcomes.{IsChange, IsGrown, IsCalm}
use Rattle.pp_heap.proofs.Slots.{never_free}
use Rattle.pp_heap.proofs.Changes.{below_or}
use Rattle.pp_heap.proofs.Forests.{more_forest, more_cell}
use Rattle.pp_heap.proofs.Keeping.{kept_change, good_change, solution_change}

abbrev pub with_cells : Store → List Cell → Store
with_cells st cs = record st { heap = st.heap ++ cs }

abbrev pub with_slots : Store → List Slot → Store
with_slots st ss = record st { slots = st.slots ++ ss }

-- cells of whole terms over the variables
pub record AreTerms (st : Store) (cs : List Cell) : Type 0 where
  pub forest : IsForest cs
  pub variables : (p v : ℕ) → cell_at cs p ≡ cells.Var v → v < length st.slots

pub empty_forest : IsForest []
empty_forest = record { legal = All-nil IsLegalCell; reads = refl }

no_terms : (st : Store) → AreTerms st []
no_terms st = record { forest = empty_forest; variables = λ p v e. absurd (cc) }

-- a variable's cell that is counted from a first number
pub shifted_at : (first : ℕ) (cs : List Cell) (p v : ℕ) → cell_at cs p ≡ cells.Var v → cell_at (shifted first cs) p ≡ cells.Var (first + v)
shifted_at first [] p v e = absurd (cc)
shifted_at first (c ∷ cs) zero v e = ap (renamed (λ v. first + v)) e
shifted_at first (c ∷ cs) (suc p) v e = shifted_at first cs p v e

more_target : (heap cs : List Cell) (v : ℕ) (c : Value) → IsTarget heap v c → IsTarget (heap ++ cs) v c
more_target heap cs v (Variable w) h = h
more_target heap cs v (Int n) h = h
more_target heap cs v (Atom a) h = h
more_target heap cs v (Compound p) h = (omega (arith, h.0, length-append heap cs), subst IsCompound (sym (more_cell heap cs p h.0)) h.1)

linked_grown : (st : Store) (cs : List Cell) → IsLinked st → AreTerms st cs → IsLinked (with_cells st cs)
linked_grown st cs k t = record {
  forest = more_forest st.heap cs k.forest t.forest;
  variables = λ p v e. elim (below_or p (length st.heap)) [
    | inl l ↦ k.variables p v (sym (more_cell st.heap cs p l) ∙ e)
    | inr l ↦ (
        let q : length st.heap + (p - length st.heap) ≡ p = omega arith in
        t.variables (p - length st.heap) v (sym (get_or-append-add st.heap cs (p - length st.heap) (cells.Int (pos 0))) ∙ ap (cell_at (st.heap ++ cs)) q ∙ e))
  ];
  bound = λ v c e. more_target st.heap cs v c (k.bound v c e);
  free = k.free;
  wide = k.wide;
}

pub grown : (old new : State) (n : ℕ) (cs : List Cell) → IsGood old → n ≡ length old.heap.items → AreTerms (store_of old) cs → length (old.heap.items ++ cs) < 2 ^ 32 → IsChange old new (Grown n) (with_cells (store_of old) cs) → IsGrown old new
grown old new n cs g e t l c =
    let st = store_of old in
    let b : before (Grown n) (with_cells st cs) ≡ st = rw e (ap (λ h. let r : Store = record { heap = h; domains = st.domains; slots = st.slots } in r) (take-append_seam st.heap cs)) in
    record {
      good = good_change old new (Grown n) (with_cells st cs) g c b (omega (arith, length-append st.heap cs)) (linked_grown st cs g.linked t) l g.few;
      kept = kept_change old new (Grown n) (with_cells st cs) c b;
      heap = (cs, t.forest, ap (λ (z : Store). z.heap) c.store);
      slots = ap (λ (z : Store). z.slots) c.store;
      domains = ap (λ (z : Store). z.domains) c.store;
      same = λ v. solution_change old new (Grown n) (with_cells st cs) c b v ∙ put-variable (solution old v);
    }

-- the same where there was no memory for the cells
pub grown_entry : (old new : State) (n : ℕ) → IsGood old → n ≡ length old.heap.items → IsChange old new (Grown n) (store_of old) → IsGrown old new
grown_entry old new n g e c =
    grown old new n [] g e (no_terms (store_of old)) (rw (append-nil old.heap.items) g.small) (record {
      store = c.store ∙ ap (λ h. let r : Store = record { heap = h; domains = old.domains.items; slots = old.slots.items } in r) (sym (append-nil old.heap.items));
      entries = c.entries;
    })

-- the same where there was no memory for the change
pub grown_calm : (old new : State) → IsCalm old new → new.domains.items ≡ old.domains.items → IsGrown old new
grown_calm old new h e = record { good = h.good; kept = h.kept; heap = ([], empty_forest, h.heap ∙ sym (append-nil old.heap.items)); slots = h.slots; domains = e; same = h.same }

-- slots of free variables
abbrev pub AreFree : Store → List Slot → Type 0
AreFree st ss = (v : ℕ) → (d : Option ℕ) × (slot_at ss v ≡ Free d) × IsPlace st.domains d

pub no_slots : (st : Store) → AreFree st []
no_slots st v = (None, refl, tt)

pub one_slot : (st : Store) (d : Option ℕ) → IsPlace st.domains d → AreFree st (Free d ∷ [])
one_slot st d h zero = (d, refl, h)
one_slot st d h (suc v) = (None, refl, tt)

slot_left : (ss ts : List Slot) (v : ℕ) → v < length ss → slot_at (ss ++ ts) v ≡ slot_at ss v
slot_left ss ts v l = get_or_append_left ss ts (Free None) v l

slot_right : (ss ts : List Slot) (v : ℕ) → length ss ≤ v → slot_at (ss ++ ts) v ≡ slot_at ts (v - length ss)
slot_right ss ts v l =
    let q : length ss + (v - length ss) ≡ v = omega arith in
    sym (ap (slot_at (ss ++ ts)) q) ∙ get_or-append-add ss ts (v - length ss) (Free None)

pub free_slot : (st : Store) (ss : List Slot) (v : ℕ) → AreFree st ss → length st.slots ≤ v → (d : Option ℕ) × (slot_at (st.slots ++ ss) v ≡ Free d) × IsPlace st.domains d
free_slot st ss v f l = let h = f (v - length st.slots) in (h.0, slot_right st.slots ss v l ∙ h.1, h.2)

pub linked_added : (st : Store) (ss : List Slot) → IsLinked st → AreFree st ss → IsLinked (with_slots st ss)
linked_added st ss k f = record {
  forest = k.forest;
  variables = λ p v e. let h = k.variables p v e in omega (arith, length-append st.slots ss);
  bound = λ v c e. elim (below_or v (length st.slots)) [
    | inl l ↦ k.bound v c (sym (slot_left st.slots ss v l) ∙ e)
    | inr l ↦ (let h = free_slot st ss v f l in absurd (never_free c h.0 (sym e ∙ h.1)))
  ];
  free = λ v d e. elim (below_or v (length st.slots)) [
    | inl l ↦ k.free v d (sym (slot_left st.slots ss v l) ∙ e)
    | inr l ↦ (let h = free_slot st ss v f l in let q : h.0 ≡ d = same_place h.0 d (sym h.1 ∙ e) in subst (IsPlace st.domains) q h.2)
  ];
  wide = k.wide;
}
  where
    same_place : (g d : Option ℕ) → Free g ≡ Free d → g ≡ d
    same_place g d e = cc

pub record IsWidened (old new : State) : Type 0 where
  pub good : IsGood new
  pub kept : IsKept old new
  pub same : (v : ℕ) → solution new v ≡ solution old v

-- variables are added
pub added : (old new : State) (n : ℕ) (ss : List Slot) → IsGood old → n ≡ length old.slots.items → AreFree (store_of old) ss → length (old.slots.items ++ ss) ≤ 2 ^ 32 → IsChange old new (Added n) (with_slots (store_of old) ss) → IsWidened old new
added old new n ss g e f m c =
    let st = store_of old in
    let b : before (Added n) (with_slots st ss) ≡ st = rw e (ap (λ x. let r : Store = record { heap = st.heap; domains = st.domains; slots = x } in r) (take-append_seam st.slots ss)) in
    let step : IsStep (Added n) (entries_of old) (with_slots st ss) = (
      omega (arith, length-append st.slots ss),
      λ v l. let h = free_slot st ss v f (omega arith) in (h.0, h.1),
    ) in
    record {
      good = good_change old new (Added n) (with_slots st ss) g c b step (linked_added st ss g.linked f) g.small m;
      kept = kept_change old new (Added n) (with_slots st ss) c b;
      same = λ v. solution_change old new (Added n) (with_slots st ss) c b v ∙ put-variable (solution old v);
    }

pub added_entry : (old new : State) (n : ℕ) → IsGood old → n ≡ length old.slots.items → IsChange old new (Added n) (store_of old) → IsWidened old new
added_entry old new n g e c =
    added old new n [] g e (no_slots (store_of old)) (rw (append-nil old.slots.items) g.few) (record {
      store = c.store ∙ ap (λ x. let r : Store = record { heap = old.heap.items; domains = old.domains.items; slots = x } in r) (sym (append-nil old.slots.items));
      entries = c.entries;
    })

pub free_slots : (st : Store) (k : ℕ) → AreFree st (replicate k (Free None))
free_slots st zero v = (None, refl, tt)
free_slots st (suc k) zero = (None, refl, tt)
free_slots st (suc k) (suc v) = free_slots st k v

-- so many variables whose domain is `any`, and one variable
pub added_many : (old new : State) (n k : ℕ) → IsGood old → n ≡ length old.slots.items → length old.slots.items + k < 2 ^ 32 → IsChange old new (Added n) (with_slots (store_of old) (replicate k (Free None))) → IsWidened old new
added_many old new n k g e l c = added old new n (replicate k (Free None)) g e (free_slots (store_of old) k) (omega (arith, l, length-append old.slots.items (replicate k (Free None)), length-replicate k (Free None))) c

pub added_one : (old new : State) (n : ℕ) (d : Option ℕ) → IsGood old → IsPlace old.domains.items d → n ≡ length old.slots.items → length (old.slots.items ++ Free d ∷ []) ≤ 2 ^ 32 → IsChange old new (Added n) (with_slots (store_of old) (Free d ∷ [])) → IsWidened old new
added_one old new n d g p e m c = added old new n (Free d ∷ []) g e (one_slot (store_of old) d p) m c
