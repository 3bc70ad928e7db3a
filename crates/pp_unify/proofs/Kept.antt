-- The kept states: later ones are added at the end, and undoing takes them away.
use Rattle.std.proofs.Common.{◌≡◌, ℕ, suc, List, [], ◌∷◌, ◌++◌, length, take, refl, ap, sym, ◌∙◌, arith, append_assoc, append-nil, length-append}
use Rattle.std.proofs.lemmas.List.{length-reverse}
use Rattle.std.proofs.Math.Seq.{take-append_seam}
use Rattle.pp_algebra.specs.Rows.{Row}
use Rattle.pp_heap.specs.declared.state.Entry.{Entry}
use Rattle.pp_heap.specs.declared.state.State.{State}
use Rattle.pp_heap.specs.Stores.{Store, store_of, entries_of, before, undone}
use Rattle.pp_heap.specs.Soundness.{IsKept}
use Rattle.pp_unify.specs.States.{present, IsLonger, row_at, states, states_of}

present-last : (rs : List Row) (r : Row) → present (rs ++ r ∷ []) ≡ r
present-last [] r = refl
present-last (q ∷ []) r = refl
present-last (q ∷ p ∷ rs) r = present-last (p ∷ rs) r

pub present-states : (es : List Entry) (st : Store) → present (states es st) ≡ row_at es st
present-states [] st = refl
present-states (e ∷ es) st = present-last (states es (before e st)) (row_at (e ∷ es) st)

pub present-states_of : (s : State) → present (states_of s) ≡ row_at (entries_of s) (store_of s)
present-states_of s = present-states (entries_of s) (store_of s)

pub length-states : (es : List Entry) (st : Store) → length (states es st) ≡ suc (length es)
length-states [] st = refl
length-states (e ∷ es) st = length-append (states es (before e st)) (row_at (e ∷ es) st ∷ []) ∙ omega (arith, length-states es (before e st))

pub length-states_of : (s : State) → length (states_of s) ≡ suc (length s.trail.items)
length-states_of s = length-states (entries_of s) (store_of s) ∙ ap suc (length-reverse s.trail.items)

pub longer : (later es : List Entry) (st : Store) → IsLonger (states es (undone later st)) (states (later ++ es) st)
longer [] es st = ([], sym (append-nil (states es st)))
longer (e ∷ later) es st =
    let r = longer later es (before e st) in
    let last = row_at (e ∷ later ++ es) st ∷ [] in
    (r.0 ++ last, ap (λ rs. rs ++ last) r.1 ∙ append_assoc (states es (undone later (before e st))) r.0 last)

pub kept_longer : (old new : State) → IsKept old new → IsLonger (states_of old) (states_of new)
kept_longer old new k =
    let r = longer k.later (entries_of old) (store_of new) in
    (r.0, ap (λ es. states es (store_of new)) k.entries ∙ r.1 ∙ ap (λ st. states (entries_of old) st ++ r.0) k.undone)

-- the states up to the earlier one
pub kept_taken : (old new : State) (n : ℕ) → IsKept old new → length old.trail.items ≡ n → states_of old ≡ take (suc n) (states_of new)
kept_taken old new n k l =
    let r = kept_longer old new k in
    sym (
    ap (take (suc n)) r.1
    ∙ ap (λ m. take m (states_of old ++ r.0)) (sym (length-states_of old ∙ ap suc l))
    ∙ take-append_seam (states_of old) r.0
    )
