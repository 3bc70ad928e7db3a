-- A verdict of the core, as the rows of the present state.
use Rattle.std.proofs.Common.{◌≡◌, ℕ, Bool, true, false, List, [], ◌∷◌, length, ap, sym, ◌∙◌, subst, arith}
use Rattle.pp_algebra.specs.Terms.{Tree, count}
use Rattle.pp_algebra.specs.Rows.{Row, IsRow}
use Rattle.pp_algebra.specs.Solve.{Item, put_item}
use Rattle.pp_heap.specs.declared.state.State.{State}
use Rattle.pp_heap.specs.Stores.{store_of, entries_of}
use Rattle.pp_heap.specs.Soundness.{IsGood}
use Rattle.pp_heap.specs.Outcomes.{IsVerdict}
use Rattle.pp_unify.specs.States.{present, value_in, row_at, states_of, IsOver, IsSolvedBy}
use Rattle.pp_unify.specs.Tops.{IsAmong}
use Rattle.pp_unify.proofs.Kept.{present-states_of}
use Rattle.pp_unify.proofs.Present.{count_row, row_now}
use Rattle.pp_unify.proofs.Solving.{ItemBelow, followed, excluded}

abbrev pub row_of : State → Row
row_of s = row_at (entries_of s) (store_of s)

pub present_row : (s : State) (rs : List Row) → states_of s ≡ rs → row_of s ≡ present rs
present_row s rs e = sym (present-states_of s) ∙ ap present e

pub count_present : (s : State) (rs : List Row) → states_of s ≡ rs → count (present rs).columns ≡ length s.slots.items
count_present s rs e = ap (λ r. count r.columns) (sym (present_row s rs e)) ∙ count_row (entries_of s) (store_of s)

pub row_present : (s : State) (rs : List Row) → IsGood s → states_of s ≡ rs → IsRow (present rs)
row_present s rs g e = subst IsRow (present_row s rs e) (row_now (entries_of s) (store_of s) g.linked)

pub over_among : (s : State) (rs : List Row) (t : Tree ℕ) → states_of s ≡ rs → IsOver (present rs) t → IsAmong s.slots.items t
over_among s rs t e o = λ v i. let h = o v i in omega (arith, h, count_present s rs e)

verdict : (old new : State) (item : Item ℕ) (b : Bool) → IsGood old → IsGood new → length new.slots.items ≡ length old.slots.items → ItemBelow (length old.slots.items) item → IsVerdict old new item b → IsSolvedBy (row_of old) (put_item (value_in (row_of old)) item) b (row_of new)
verdict old new item true g h n o v =
    followed (entries_of old) (entries_of new) (store_of old) (store_of new) g.sound g.linked h.sound h.linked (item ∷ []) n (o, tt)
    (λ ds s w. let k = v ds s w in ((λ a. let b = k.0 a in (b.0, (b.1, tt))), λ p. k.1 (p.0, p.1.0)))
verdict old new item false g h n o v = excluded (entries_of old) (store_of old) g.sound g.linked (item ∷ []) (o, tt) (λ ds s w a p. v ds s w a p.0)

pub solved_by : (old new : State) (item : Item ℕ) (b : Bool) (r q : Row) → row_of old ≡ r → row_of new ≡ q → IsGood old → IsGood new → length new.slots.items ≡ length old.slots.items → ItemBelow (length old.slots.items) item → IsVerdict old new item b → IsSolvedBy r (put_item (value_in r) item) b q
solved_by old new item b r q e f g h n o v = subst (λ x. IsSolvedBy r (put_item (value_in r) item) b x) f (subst (λ x. IsSolvedBy x (put_item (value_in x) item) b (row_of new)) e (verdict old new item b g h n o v))
