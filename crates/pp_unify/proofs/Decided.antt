-- Lists of terms over the variables of a state, and the verdict on their equations as rows of the present state.
use Rattle.std.proofs.Common.{◌≡◌, ℕ, ◌+◌, ◌<◌, Bool, true, false, List, [], ◌∷◌, length, replicate, All, None, refl, ap, sym, ◌∙◌, subst, inl, inr, arith, length-append}
use Rattle.std.specs.Prelude.{◌↔◌}
use Rattle.std.proofs.lemmas.List.{length-replicate}
use Rattle.std.proofs.lemmas.List.Elements.{All-nil, All-cons}
use Rattle.std.proofs.Math.Seq.{take-append_seam}
use Rattle.pp_algebra.specs.Terms.{Tree, int, node, variable, Trees, none, more, put, put_all, variables, variables_all, count}
use Rattle.pp_algebra.specs.Rows.{Domains, Row}
use Rattle.pp_algebra.specs.Covers.{IsIn}
use Rattle.pp_algebra.specs.Solve.{Item, equation, membership, AllHold}
use Rattle.pp_algebra.specs.Numbered.{counted_from}
use Rattle.pp_algebra.proofs.Antisym.{IsIn-either}
use Rattle.pp_algebra.proofs.Order.{IsIn-left, IsIn-right}
use Rattle.pp_algebra.proofs.Put.{put-variable}
use Rattle.pp_row.specs.declared.cell.Cell.{Cell}
use Rattle.pp_row.specs.declared.cell.Cell.TheVariants as cells
use Rattle.pp_row.specs.Cells.{variables_among}
use Rattle.pp_row.specs.Reading.{IsForest, forest}
use Rattle.pp_row.proofs.Piece.{cells_from}
use Rattle.pp_row.proofs.Renaming.{among-cells_of_all}
use Rattle.pp_heap.specs.declared.state.Slot.{Slot}
use Rattle.pp_heap.specs.declared.state.Slot.TheVariants.{Free, Alias, Int, Atom, Compound}
use Rattle.pp_heap.specs.declared.state.Entry.{Entry}
use Rattle.pp_heap.specs.declared.state.Entry.TheVariants.{Added}
use Rattle.pp_heap.specs.declared.state.State.{State}
use Rattle.pp_heap.specs.Values.{cell_at, term_at, slot_at}
use Rattle.pp_heap.specs.Stores.{Store, store_of, entries_of, before, made}
use Rattle.pp_heap.specs.Soundness.{IsLinked, IsSound, IsStep, IsGood}
use Rattle.pp_heap.specs.Agreement.{Says, Agrees, AllWide}
use Rattle.pp_heap.proofs.Growing.{with_slots, linked_added, free_slots, free_slot}
use Rattle.pp_unify.specs.States.{row_at, IsOver, with_many, present, states_of}
use Rattle.pp_unify.specs.Laws.{IsItemOver}
use Rattle.pp_unify.specs.Forests.{counted_all, AreOver, pairs, AreDecided}
use Rattle.pp_unify.specs.Tops.{IsAmong}
use Rattle.pp_unify.specs.Counting.{counted}
use Rattle.pp_unify.specs.Heads.{IsHead}
use Rattle.pp_unify.specs.Joining.{AreBelow, AreAlike, AreJoined, IsEntered}
use Rattle.pp_unify.proofs.Among.{IsBelow, put_below, variable_below}
use Rattle.pp_unify.proofs.Grown.{cell_in}
use Rattle.pp_unify.proofs.HeadSteps.{counted_put, head_among}
use Rattle.pp_unify.proofs.PairSteps.{more_equal}
use Rattle.pp_unify.proofs.Present.{count_row, row_now}
use Rattle.pp_unify.proofs.Solving.{ItemBelow, AllBelow, followed, excluded}
use Rattle.pp_unify.proofs.Turns.{solved_in_turn}
use Rattle.pp_unify.proofs.AddedMany.{free_slots_more, row_many_at}
use Rattle.pp_unify.proofs.Verdicts.{row_of, count_present}

-- a variable's cell is a variable of the terms
pub in_forest : (cs : List Cell) (p v : ℕ) → IsForest cs → cell_at cs p ≡ cells.Var v → IsIn v (variables_all (forest cs))
in_forest cs p v f e = subst (IsIn v) (ap variables_among (sym (cells_from cs 0 f)) ∙ among-cells_of_all (forest cs)) (cell_in cs p v e)

mutual
  in_counted : (n : ℕ) (t : Tree ℕ) (v : ℕ) → IsIn v (variables t) → IsIn (n + v) (variables (counted_from n t))
  in_counted n (int k) v i = absurd i
  in_counted n (node f ts) v i = in_counted_all n ts v i
  in_counted n (variable w) v (inl e) = inl (ap (λ x. n + x) e)
  in_counted n (variable w) v (inr i) = absurd i

  in_counted_all : (n : ℕ) (ts : Trees ℕ) (v : ℕ) → IsIn v (variables_all ts) → IsIn (n + v) (variables_all (counted_all n ts))
  in_counted_all n none v i = absurd i
  in_counted_all n (more t ts) v i = elim (IsIn-either v (variables t) (variables_all ts) i) [
    | inl j ↦ IsIn-left (n + v) (variables (counted_from n t)) (variables_all (counted_all n ts)) (in_counted n t v j)
    | inr j ↦ IsIn-right (n + v) (variables (counted_from n t)) (variables_all (counted_all n ts)) (in_counted_all n ts v j)
  ]

-- each variable of the terms, counted from a first number, is below this one
abbrev pub TermsBelow : ℕ → ℕ → Trees ℕ → Type 0
TermsBelow k n ts = (v : ℕ) → IsIn v (variables_all ts) → n + v < k

pub over_below : (s : State) (rs : List Row) (n : ℕ) (ts : Trees ℕ) → states_of s ≡ rs → AreOver (present rs) (counted_all n ts) → TermsBelow (length s.slots.items) n ts
over_below s rs n ts e o v i = let h = o (n + v) (in_counted_all n ts v i) in omega (arith, h, count_present s rs e)

pub cells_below : (k n : ℕ) (cs : List Cell) → IsForest cs → TermsBelow k n (forest cs) → AreBelow k n cs
cells_below k n cs f h p v e = h v (in_forest cs p v f e)

pub over_head : (s : State) (rs : List Row) (n : ℕ) (cs : List Cell) → states_of s ≡ rs → IsForest cs → AreOver (present rs) (counted_all n (forest cs)) → IsHead s.slots.items n cs
over_head s rs n cs e f o = record { forest = f; among = cells_below (length s.slots.items) n cs f (over_below s rs n (forest cs) e o) }

pub over_term : (s : State) (rs : List Row) (n : ℕ) (cs : List Cell) (at : ℕ) → states_of s ≡ rs → IsForest cs → at < length cs → AreOver (present rs) (counted_all n (forest cs)) → IsAmong s.slots.items (counted_from n (term_at cs at))
over_term s rs n cs at e f l o = head_among cs at 0 n f l s.slots.items (over_head s rs n cs e f o)

counted_below : (k n : ℕ) (t : Tree ℕ) → ((v : ℕ) → IsIn v (variables t) → n + v < k) → IsBelow k (counted_from n t)
counted_below k n t h = put_below k (λ v. variable (n + v)) t (λ v i. variable_below k (n + v) (h v i))

pub pairs_below : (k n : ℕ) (ts : Trees ℕ) (m : ℕ) (us : Trees ℕ) → TermsBelow k n ts → TermsBelow k m us → AllBelow k (pairs n ts m us)
pairs_below k n none m us h g = tt
pairs_below k n (more t ts) m none h g = tt
pairs_below k n (more t ts) m (more u us) h g = (
  (counted_below k n t (λ v i. h v (IsIn-left v (variables t) (variables_all ts) i)), counted_below k m u (λ v i. g v (IsIn-left v (variables u) (variables_all us) i))),
  pairs_below k n ts m us (λ v i. h v (IsIn-right v (variables t) (variables_all ts) i)) (λ v i. g v (IsIn-right v (variables u) (variables_all us) i)),
)

pub pairs_hold : (ds : Domains ℕ) (s : ℕ → Tree ℕ) (n : ℕ) (ts : Trees ℕ) (m : ℕ) (us : Trees ℕ) → count us ≡ count ts → AllHold ds s (pairs n ts m us) ↔ AreAlike s n ts m us
pairs_hold ds s n none m none e = ((λ h. refl), λ h. tt)
pairs_hold ds s n none m (more u us) e = absurd (cc)
pairs_hold ds s n (more t ts) m none e = absurd (cc)
pairs_hold ds s n (more t ts) m (more u us) e =
    let i = pairs_hold ds s n ts m us (omega (arith, e)) in
    let k = more_equal (put (counted n s) t) (put (counted m s) u) (put_all (counted n s) ts) (put_all (counted m s) us) in
    let x = counted_put s n t in
    let y = counted_put s m u in
    ((λ h. k.1 (i.0 h.1, sym x ∙ h.0 ∙ y)), λ q. let p = k.0 q in (x ∙ p.1 ∙ sym y, i.1 p.0))

-- what agrees with the later store agrees with the earlier one and makes the items hold, or nothing does
abbrev pub Decides : Store → Store → List (Item ℕ) → Bool → Type 0
Decides old new items true = (ds : Domains ℕ) (s : ℕ → Tree ℕ) → AllWide ds → Agrees new ds s ↔ (Agrees old ds s × AllHold ds s items)
Decides old new items false = (ds : Domains ℕ) (s : ℕ → Tree ℕ) → AllWide ds → Agrees old ds s → AllHold ds s items → ⊥

module _ (es : List Entry) (st : Store) where
  term_over : (t : Tree ℕ) → IsBelow (length st.slots) t → IsOver (row_at es st) t
  term_over t b v i = subst (λ n. v < n) (sym (count_row es st)) (b v i)

  item_over : (i : Item ℕ) → ItemBelow (length st.slots) i → IsItemOver (row_at es st) i
  item_over (equation a b) o = (term_over a o.0, term_over b o.1)
  item_over (membership t d) o = term_over t o

  items_over : (is : List (Item ℕ)) → AllBelow (length st.slots) is → All (IsItemOver (row_at es st)) is
  items_over [] o = All-nil (IsItemOver (row_at es st))
  items_over (i ∷ is) o = All-cons (IsItemOver (row_at es st)) i is (item_over i o.0) (items_over is o.1)

decided : (es fs : List Entry) (old new : Store) (items : List (Item ℕ)) (b : Bool) → IsSound es old → IsLinked old → IsSound fs new → IsLinked new → AllBelow (length old.slots) items → (b ≡ true → length new.slots ≡ length old.slots) → Decides old new items b → AreDecided (row_at es old) items b (row_at fs new)
decided es fs old new items true k l i j o n v =
    let r = row_at es old in
    ((solved_in_turn r items (row_now es old l) (items_over es old items o)).0 (row_at fs new)).1 (followed es fs old new k l i j items (n refl) o v)
decided es fs old new items false k l i j o n v =
    let r = row_at es old in
    (solved_in_turn r items (row_now es old l) (items_over es old items o)).1.1 (excluded es old k l items o v)

-- two lists over the variables that there are
pub joined_row : (old new : State) (n : ℕ) (goal : List Cell) (m : ℕ) (head : List Cell) (b : Bool) → IsGood old → IsGood new → count (forest head) ≡ count (forest goal) → TermsBelow (length old.slots.items) n (forest goal) → TermsBelow (length old.slots.items) m (forest head) → IsForest head → AreJoined old new n goal m head b → AreDecided (row_of old) (pairs n (forest goal) m (forest head)) b (row_of new)
joined_row old new n goal m head b g h e x y f v =
    let items = pairs n (forest goal) m (forest head) in
    decided (entries_of old) (entries_of new) (store_of old) (store_of new) items b g.sound g.linked h.sound h.linked (pairs_below (length old.slots.items) n (forest goal) m (forest head) x y) (many b v) (means b v)
  where
    many : (r : Bool) → AreJoined old new n goal m head r → r ≡ true → length new.slots.items ≡ length old.slots.items
    many true w q = let k = w.0.bounded (length old.slots.items) (omega arith) (cells_below (length old.slots.items) m head f y) in omega (arith, k, w.0.more)
    many false w q = absurd (cc)

    means : (r : Bool) → AreJoined old new n goal m head r → Decides (store_of old) (store_of new) (pairs n (forest goal) m (forest head)) r
    means true w = λ ds s a. let k = w.1 ds s a in let i = pairs_hold ds s n (forest goal) m (forest head) e in ((λ z. let p = k.0 z in (p.0, i.1 p.1)), λ z. k.1 (z.0, i.0 z.1))
    means false w = λ ds s a z q. w ds s a z ((pairs_hold ds s n (forest goal) m (forest head) e).0 q)

-- the store with as many free variables more
module _ (es : List Entry) (st : Store) (k : ℕ) (i : IsSound es st) (l : IsLinked st) where
  abbrev pub wider : Store
  wider = with_slots st (replicate k (Free None))

  abbrev pub more_entries : List Entry
  more_entries = Added (length st.slots) ∷ es

  back : before (Added (length st.slots)) wider ≡ st
  back = ap (λ x. let r : Store = record { heap = st.heap; domains = st.domains; slots = x } in r) (take-append_seam st.slots (replicate k (Free None)))

  pub wider_linked : IsLinked wider
  wider_linked = linked_added st (replicate k (Free None)) l (free_slots st k)

  pub wider_sound : IsSound more_entries wider
  wider_sound =
      let step : IsStep (Added (length st.slots)) es wider = (
        omega (arith, length-append st.slots (replicate k (Free None))),
        λ v h. let f = free_slot st (replicate k (Free None)) v (free_slots st k) h in (f.0, f.1),
      ) in
      (step, subst IsLinked (sym back) l, subst (IsSound es) (sym back) i)

  pub wider_length : length wider.slots ≡ length st.slots + k
  wider_length = length-append st.slots (replicate k (Free None)) ∙ ap (λ x. length st.slots + x) (length-replicate k (Free None))

  pub wider_agrees : (ds : Domains ℕ) (s : ℕ → Tree ℕ) → Agrees wider ds s ↔ Agrees st ds s
  wider_agrees ds s = (
    (λ a v. says ds s v (slot_at st.slots v) (subst (Says wider ds s v) (free_slots_more st.slots k v) (a v))),
    λ a v. subst (Says wider ds s v) (sym (free_slots_more st.slots k v)) (says_back ds s v (slot_at st.slots v) (a v)),
  )
    where
      says : (ds : Domains ℕ) (s : ℕ → Tree ℕ) (v : ℕ) (c : Slot) → Says wider ds s v c → Says st ds s v c
      says ds s v (Free d) h = h
      says ds s v (Alias w) h = h
      says ds s v (Int z) h = h
      says ds s v (Atom z) h = h
      says ds s v (Compound p) h = h

      says_back : (ds : Domains ℕ) (s : ℕ → Tree ℕ) (v : ℕ) (c : Slot) → Says st ds s v c → Says wider ds s v c
      says_back ds s v (Free d) h = h
      says_back ds s v (Alias w) h = h
      says_back ds s v (Int z) h = h
      says_back ds s v (Atom z) h = h
      says_back ds s v (Compound p) h = h

  pub wider_row : row_at more_entries wider ≡ with_many (row_at es st) k
  wider_row = row_many_at es st more_entries wider k i l wider_length (λ v. put-variable (made es (before (Added (length st.slots)) wider) v) ∙ ap (λ x. made es x v) back) (λ v. free_slots_more st.slots k v) refl

-- a head's variables are added
pub entered_row : (old new : State) (n : ℕ) (goal head : List Cell) (amount : ℕ) (b : Bool) → IsGood old → IsGood new → count (forest head) ≡ count (forest goal) → TermsBelow (length old.slots.items) n (forest goal) → ((v : ℕ) → IsIn v (variables_all (forest head)) → v < amount) → IsEntered old new n goal head amount b → AreDecided (with_many (row_of old) amount) (pairs (length old.slots.items) (forest head) n (forest goal)) b (row_of new)
entered_row old new n goal head amount b g h e x y v =
    let es = entries_of old in
    let st = store_of old in
    let k = length old.slots.items in
    let w = wider es st amount g.sound g.linked in
    let z = wider_length es st amount g.sound g.linked in
    let items = pairs k (forest head) n (forest goal) in
    let below : AllBelow (length w.slots) items = pairs_below (length w.slots) k (forest head) n (forest goal) (λ u i. let a = y u i in omega (arith, a, z)) (λ u i. let a = x u i in omega (arith, a, z)) in
    subst (λ r. AreDecided r items b (row_of new)) (wider_row es st amount g.sound g.linked)
    (decided (more_entries es st amount g.sound g.linked) (entries_of new) w (store_of new) items b (wider_sound es st amount g.sound g.linked) (wider_linked es st amount g.sound g.linked) h.sound h.linked below (many b v z) (means b v))
  where
    many : (r : Bool) → IsEntered old new n goal head amount r → length (wider (entries_of old) (store_of old) amount g.sound g.linked).slots ≡ length old.slots.items + amount → r ≡ true → length new.slots.items ≡ length (wider (entries_of old) (store_of old) amount g.sound g.linked).slots
    many true w z q = w.0 ∙ sym z
    many false w z q = absurd (cc)

    means : (r : Bool) → IsEntered old new n goal head amount r → Decides (wider (entries_of old) (store_of old) amount g.sound g.linked) (store_of new) (pairs (length old.slots.items) (forest head) n (forest goal)) r
    means true w = λ ds s a.
        let c = wider_agrees (entries_of old) (store_of old) amount g.sound g.linked ds s in
        let k = w.1 ds s a in
        let i = pairs_hold ds s (length old.slots.items) (forest head) n (forest goal) (sym e) in
        ((λ z. let p = k.0 z in (c.1 p.0, i.1 (sym p.1))), λ z. k.1 (c.0 z.0, sym (i.0 z.1)))
    means false w = λ ds s a z q. w ds s a ((wider_agrees (entries_of old) (store_of old) amount g.sound g.linked ds s).0 z) (sym ((pairs_hold ds s (length old.slots.items) (forest head) n (forest goal) (sym e)).0 q))
