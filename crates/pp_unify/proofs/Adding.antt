-- The row with one variable more.
use Rattle.std.proofs.Common.{◌≡◌, ℕ, ℤ, zero, suc, ◌+◌, ◌<◌, true, false, List, [], ◌∷◌, ◌++◌, length, map, Option, Some, None, refl, ap, sym, ◌∙◌, ◌⊎◌, inl, inr, arith, length-append}
use Rattle.std.specs.Prelude.{cond, nat_eq}
use Rattle.std.proofs.lemmas.List.{map-append, get_or_append_left}
use Rattle.std.proofs.Math.Seq.{get_or-append_seam}
use Rattle.std.proofs.Math.ListN.{length-map}
use Rattle.pp_algebra.specs.Terms.{Tree, variable, Trees, none, more, put_all, variables_all, join}
use Rattle.pp_algebra.specs.Rows.{Domain, Domains}
use Rattle.pp_algebra.specs.Covers.{IsIn}
use Rattle.pp_algebra.specs.Canon.{has, place, firsts, canon}
use Rattle.pp_algebra.proofs.Antisym.{put_all-agree, IsIn-either}
use Rattle.pp_algebra.proofs.Bools.{nat_same}
use Rattle.pp_algebra.proofs.CanonLemmas.{nat_eq-IsSame, has-all, place-front}
use Rattle.pp_algebra.proofs.OneCanon.{not_has}
use Rattle.pp_algebra.specs.Numbered.{variables_from}
use Rattle.pp_domain.specs.Sets.{set_of}
use Rattle.pp_row.proofs.Keys.{place_new, firsts_new}
use Rattle.pp_row.proofs.Numbering.{firsts-append}
use Rattle.pp_heap.specs.declared.state.Slot.{Slot}
use Rattle.pp_heap.specs.declared.state.Slot.TheVariants as slots
use Rattle.pp_heap.specs.declared.state.State.{State}
use Rattle.pp_heap.specs.Values.{slot_at, slot_domain}
use Rattle.pp_heap.specs.Stores.{store_of, entries_of, solution, made}
use Rattle.pp_heap.specs.Soundness.{IsGood, IsPlace}
use Rattle.pp_heap.specs.Outcomes.{IsAdded}
use Rattle.pp_unify.specs.States.{with_new}
use Rattle.pp_heap.proofs.Made.{made_free}
use Rattle.pp_unify.proofs.Among.{made_among, comes_from_all}
use Rattle.pp_unify.proofs.Verdicts.{row_of}
use Rattle.pp_algebra.proofs.Joined.{variables_all-join, put_all-join}
use Rattle.pp_algebra.proofs.Numbered.{from-below}

pub firsts-in : (seen vs : List ℕ) (w : ℕ) → IsIn w (firsts nat_eq seen vs) → IsIn w seen ⊎ IsIn w vs
firsts-in seen [] w i = inl i
firsts-in seen (x ∷ vs) w i = elim (has nat_eq seen x) as (λ b. IsIn w (cond b (firsts nat_eq seen vs) (firsts nat_eq (seen ++ x ∷ []) vs)) → IsIn w seen ⊎ IsIn w (x ∷ vs)) [
  | true ↦ λ j. later (firsts-in seen vs w j)
  | false ↦ λ j. here (firsts-in (seen ++ x ∷ []) vs w j)
] i
  where
    later : IsIn w seen ⊎ IsIn w vs → IsIn w seen ⊎ IsIn w (x ∷ vs)
    later (inl a) = inl a
    later (inr b) = inr (inr b)

    new : IsIn w seen ⊎ IsIn w (x ∷ []) → IsIn w seen ⊎ IsIn w (x ∷ vs)
    new (inl a) = inl a
    new (inr (inl e)) = inr (inl e)
    new (inr (inr b)) = absurd b

    here : IsIn w (seen ++ x ∷ []) ⊎ IsIn w vs → IsIn w seen ⊎ IsIn w (x ∷ vs)
    here (inl a) = new (IsIn-either w seen (x ∷ []) a)
    here (inr b) = inr (inr b)

pub firsts-from : (vs : List ℕ) (w : ℕ) → IsIn w (firsts nat_eq [] vs) → IsIn w vs
firsts-from vs w i = go (firsts-in [] vs w i)
  where
    go : IsIn w [] ⊎ IsIn w vs → IsIn w vs
    go (inl a) = absurd a
    go (inr b) = b

pub map-agree : (f g : Domains ℕ) (vs : List ℕ) → ((w : ℕ) → IsIn w vs → f w ≡ g w) → map f vs ≡ map g vs
map-agree f g [] h = refl
map-agree f g (v ∷ vs) h = rw (h v (inl refl), map-agree f g vs (λ w i. h w (inr i))) refl

-- a variable that stands nowhere yet gets the next number
pub canon_added : (ts : Trees ℕ) (n : ℕ) (D E : Domains ℕ) (d : Option Domain) → ((w : ℕ) → IsIn w (variables_all ts) → w < n) → ((w : ℕ) → w < n → E w ≡ D w) → E n ≡ d → canon nat_eq (record { columns = join ts (more (variable n) none); domains = E }) ≡ with_new (canon nat_eq (record { columns = ts; domains = D })) d
canon_added ts n D E d below same last =
    let vs = firsts nat_eq [] (variables_all ts) in
    let new : has nat_eq vs n ≡ false = not_has nat_eq nat_eq-IsSame vs n (λ w i e. let l = below w (firsts-from (variables_all ts) w i) in absurd (omega (arith, l, e))) in
    let names : firsts nat_eq [] (variables_all (join ts (more (variable n) none))) ≡ vs ++ n ∷ [] =
    ap (firsts nat_eq []) (variables_all-join ts (more (variable n) none)) ∙ firsts-append nat_eq [] (variables_all ts) (n ∷ []) ∙ firsts_new nat_eq vs n new in
    let kept : put_all (λ v. variable (place nat_eq (vs ++ n ∷ []) v)) ts ≡ put_all (λ v. variable (place nat_eq vs v)) ts =
    put_all-agree (λ v. variable (place nat_eq (vs ++ n ∷ []) v)) (λ v. variable (place nat_eq vs v)) ts (λ w i. ap variable (place-front nat_eq vs (n ∷ []) w (has-all nat_eq nat_eq-IsSame [] (variables_all ts) w i))) in
    let number : place nat_eq (vs ++ n ∷ []) n ≡ length (map D vs) = place_new nat_eq vs n (nat_same n) new ∙ sym (length-map vs D) in
    let columns : put_all (λ v. variable (place nat_eq (vs ++ n ∷ []) v)) (join ts (more (variable n) none)) ≡ join (put_all (λ v. variable (place nat_eq vs v)) ts) (more (variable (length (map D vs))) none) =
    put_all-join (λ v. variable (place nat_eq (vs ++ n ∷ []) v)) ts (more (variable n) none) ∙ rw (kept, number) refl in
    let domains : map E (vs ++ n ∷ []) ≡ map D vs ++ d ∷ [] =
    map-append E vs (n ∷ []) ∙ rw (map-agree E D vs (λ w i. same w (below w (firsts-from (variables_all ts) w i))), last) refl in
    ap (λ ns. record { columns = put_all (λ v. variable (place nat_eq ns v)) (join ts (more (variable n) none)); domains = map E ns }) names
    ∙ rw (columns, domains) refl

pub from-push : (f : ℕ → Tree ℕ) (a n : ℕ) → put_all f (variables_from a (suc n)) ≡ join (put_all f (variables_from a n)) (more (f (a + n)) none)
from-push f a zero = ap (λ v. more (f v) none) (omega arith)
from-push f a (suc n) = ap (more (f a)) (from-push f (suc a) n ∙ ap (λ v. join (put_all f (variables_from (suc a) n)) (more (f v) none)) (omega arith))

-- the variables of the columns have slots
pub values_below : (s : State) (w : ℕ) → IsGood s → IsIn w (variables_all (put_all (made (entries_of s) (store_of s)) (variables_from 0 (length s.slots.items)))) → w < length s.slots.items
values_below s w g i =
    let r = comes_from_all (made (entries_of s) (store_of s)) (variables_from 0 (length s.slots.items)) w i in
    let l = from-below 0 (length s.slots.items) r.0 r.1 in
    made_among (entries_of s) (store_of s) g.sound g.linked r.0 (omega (arith, l)) w r.2

pub more_slot : (ds es : List (List (ℤ × ℤ))) (c : Slot) → ((d : Option ℕ) → c ≡ slots.Free d → IsPlace ds d) → slot_domain (ds ++ es) c ≡ slot_domain ds c
more_slot ds es (slots.Free None) h = refl
more_slot ds es (slots.Free (Some p)) h = ap (λ x. Some (set_of x)) (get_or_append_left ds es [] p (h (Some p) refl))
more_slot ds es (slots.Alias w) h = refl
more_slot ds es (slots.Int n) h = refl
more_slot ds es (slots.Atom a) h = refl
more_slot ds es (slots.Compound p) h = refl

pub added_row : (old new : State) (d : Option Domain) → IsGood old → IsGood new → IsAdded old new d → row_of new ≡ with_new (row_of old) d
unfolding solution
added_row old new d g h a =
    let n = length old.slots.items in
    let m = made (entries_of old) (store_of old) in
    let m' = made (entries_of new) (store_of new) in
    let free = slots.Free None in
    let ts = put_all m (variables_from 0 n) in
    let longer : length new.slots.items ≡ suc n = ap length a.slots ∙ length-append old.slots.items (slots.Free a.place ∷ []) ∙ omega arith in
    let at_last : slot_at new.slots.items n ≡ slots.Free a.place = ap (λ ss. slot_at ss n) a.slots ∙ get_or-append_seam old.slots.items (slots.Free a.place) [] free in
    let last : m' (0 + n) ≡ variable n = ap m' (omega arith) ∙ made_free (entries_of new) (store_of new) n a.place h.sound at_last in
    let columns : put_all m' (variables_from 0 (length new.slots.items)) ≡ join ts (more (variable n) none) =
    ap (λ k. put_all m' (variables_from 0 k)) longer ∙ from-push m' 0 n ∙ rw (last, put_all-agree m' m (variables_from 0 n) (λ v i. a.same v)) refl in
    let E : Domains ℕ = λ w. slot_domain new.domains.items (slot_at new.slots.items w) in
    let D : Domains ℕ = λ w. slot_domain old.domains.items (slot_at old.slots.items w) in
    let same : (w : ℕ) → w < n → E w ≡ D w = λ w l.
    ap (λ ss. slot_domain new.domains.items (slot_at ss w)) a.slots
    ∙ ap (slot_domain new.domains.items) (get_or_append_left old.slots.items (slots.Free a.place ∷ []) free w l)
    ∙ ap (λ ds. slot_domain ds (slot_at old.slots.items w)) a.domains.1
    ∙ more_slot old.domains.items a.domains.0 (slot_at old.slots.items w) (λ e f. g.linked.free w e f) in
    ap (λ us. canon nat_eq (record { columns = us; domains = E })) columns
    ∙ canon_added ts n D E d (λ w i. values_below old w g i) same (ap (slot_domain new.domains.items) at_last ∙ a.domain)
