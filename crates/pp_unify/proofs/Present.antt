-- The row of a store: its columns are what the variables are, and its variables are numbers of the free ones.
use Rattle.std.proofs.Common.{◌≡◌, ℕ, zero, suc, ◌+◌, ◌<◌, true, List, [], ◌∷◌, length, map, All, Option, Some, None, refl, ap, ◌∙◌, subst, arith}
use Rattle.std.specs.Prelude.{nat_eq}
use Rattle.std.proofs.lemmas.List.Elements.{All-nil, All-cons}
use Rattle.pp_algebra.specs.Terms.{Tree, variable, Trees, count, put, put_all, variables, variables_all}
use Rattle.pp_algebra.specs.Rows.{Domains, domain_at, IsWide, IsRow}
use Rattle.pp_algebra.specs.Covers.{IsIn, MayGo}
use Rattle.pp_algebra.specs.Canon.{has, place, firsts}
use Rattle.pp_algebra.proofs.Put.{put-put, put_all-put_all, count-put_all}
use Rattle.pp_algebra.proofs.Antisym.{put-agree, put_all-agree}
use Rattle.pp_algebra.proofs.Order.{IsIn-left, IsIn-right}
use Rattle.pp_algebra.proofs.CanonLemmas.{nat_eq-IsSame, at, name, at-place, has-all, domain_at-place, canon-IsCanonical}
use Rattle.pp_algebra.specs.Numbered.{variables_from, column}
use Rattle.pp_heap.specs.declared.state.Slot.{Slot}
use Rattle.pp_heap.specs.declared.state.Slot.TheVariants.{Free, Alias, Int, Atom, Compound}
use Rattle.pp_heap.specs.declared.state.Entry.{Entry}
use Rattle.pp_heap.specs.Values.{slot_at, slot_domain}
use Rattle.pp_heap.specs.Stores.{Store, made}
use Rattle.pp_heap.specs.Soundness.{IsLinked, IsPlace}
use Rattle.pp_unify.specs.States.{value_in, pattern_in, row_at}
use Rattle.pp_algebra.proofs.Numbered.{count-from}

column-from : (f : ℕ → Tree ℕ) (a n v : ℕ) → v < n → column (put_all f (variables_from a n)) v ≡ f (a + v)
column-from f a zero v l = absurd (omega arith)
column-from f a (suc n) zero l = ap f (omega arith)
column-from f a (suc n) (suc v) l = column-from f (suc a) n v (omega arith) ∙ ap f (omega arith)

in-from : (f : ℕ → Tree ℕ) (a n v w : ℕ) → v < n → IsIn w (variables (f (a + v))) → IsIn w (variables_all (put_all f (variables_from a n)))
in-from f a zero v w l i = absurd (omega arith)
in-from f a (suc n) zero w l i = let e : a + 0 ≡ a = omega arith in IsIn-left w (variables (f a)) (variables_all (put_all f (variables_from (suc a) n))) (subst (λ x. IsIn w (variables (f x))) e i)
in-from f a (suc n) (suc v) w l i = let e : a + suc v ≡ suc a + v = omega arith in IsIn-right w (variables (f a)) (variables_all (put_all f (variables_from (suc a) n))) (in-from f (suc a) n v w (omega arith) (subst (λ x. IsIn w (variables (f x))) e i))

pub wide_map : (D : Domains ℕ) (vs : List ℕ) → ((v : ℕ) → IsWide (D v)) → All IsWide (map D vs)
wide_map D [] h = All-nil IsWide
wide_map D (v ∷ vs) h = All-cons IsWide (D v) (map D vs) (h v) (wide_map D vs h)

goes_named : (ds D : Domains ℕ) (s : ℕ → Tree ℕ) (vs : List ℕ) (k : ℕ) → ((v : ℕ) → MayGo ds (D v) (s v)) → MayGo ds (domain_at (map D vs) k) (put s (name nat_eq (at nat_eq vs k)))
goes_named ds D s [] k h = tt
goes_named ds D s (v ∷ vs) zero h = h v
goes_named ds D s (v ∷ vs) (suc k) h = goes_named ds D s vs k h

module _ (es : List Entry) (st : Store) where
  -- what the variables are
  abbrev pub values : Trees ℕ
  values = put_all (made es st) (variables_from 0 (length st.slots))

  -- the free variables in the order of their numbers
  abbrev pub names : List ℕ
  names = firsts nat_eq [] (variables_all values)

  abbrev pub domain_now : Domains ℕ
  domain_now v = slot_domain st.domains (slot_at st.slots v)

  abbrev pub number : ℕ → Tree ℕ
  number v = variable (place nat_eq names v)

  abbrev pub named : ℕ → Tree ℕ
  named k = name nat_eq (at nat_eq names k)

  pub count_row : count (row_at es st).columns ≡ length st.slots
  count_row = count-put_all number values ∙ count-put_all (made es st) (variables_from 0 (length st.slots)) ∙ count-from 0 (length st.slots)

  pub value_now : (v : ℕ) → v < length st.slots → value_in (row_at es st) v ≡ put number (made es st v)
  value_now v l =
      ap (λ ts. column ts v) (put_all-put_all number (made es st) (variables_from 0 (length st.slots)))
      ∙ column-from (λ w. put number (made es st w)) 0 (length st.slots) v l
      ∙ ap (λ w. put number (made es st w)) (omega arith)

  pub has_name : (v w : ℕ) → v < length st.slots → IsIn w (variables (made es st v)) → has nat_eq names w ≡ true
  has_name v w l i = has-all nat_eq nat_eq-IsSame [] (variables_all values) w (in-from (made es st) 0 (length st.slots) v w l (let e : v ≡ 0 + v = omega arith in subst (λ x. IsIn w (variables (made es st x))) e i))

  -- from the numbers back to the variables
  pub around : (g : ℕ → Tree ℕ) (w : ℕ) → has nat_eq names w ≡ true → put (λ k. put g (named k)) (number w) ≡ g w
  around g w h = ap (λ o. put g (name nat_eq o)) (at-place nat_eq nat_eq-IsSame names w h)

  pub around_term : (g : ℕ → Tree ℕ) (t : Tree ℕ) → ((w : ℕ) → IsIn w (variables t) → has nat_eq names w ≡ true) → put (λ k. put g (named k)) (put number t) ≡ put g t
  around_term g t h = put-put (λ k. put g (named k)) number t ∙ put-agree (λ w. put (λ k. put g (named k)) (number w)) g t (λ w i. around g w (h w i))

  pub around_row : (g : ℕ → Tree ℕ) → put_all (λ k. put g (named k)) (row_at es st).columns ≡ put_all g values
  around_row g = put_all-put_all (λ k. put g (named k)) number values ∙ put_all-agree (λ w. put (λ k. put g (named k)) (number w)) g values (λ w i. around g w (has-all nat_eq nat_eq-IsSame [] (variables_all values) w i))

  pub goes_back : (ds : Domains ℕ) (s : ℕ → Tree ℕ) → ((v : ℕ) → MayGo ds (domain_now v) (s v)) → (k : ℕ) → MayGo ds (domain_at (row_at es st).domains k) (put s (named k))
  goes_back ds s h k = goes_named ds domain_now s names k h

  -- the domain of a number is that of its variable
  pub domain_named : (w : ℕ) → has nat_eq names w ≡ true → domain_at (row_at es st).domains (place nat_eq names w) ≡ domain_now w
  domain_named w h = domain_at-place nat_eq nat_eq-IsSame domain_now names w h

  module _ (l : IsLinked st) where
    pub wide_slot : (c : Slot) → ((d : Option ℕ) → c ≡ Free d → IsPlace st.domains d) → IsWide (slot_domain st.domains c)
    wide_slot (Free None) h = tt
    wide_slot (Free (Some p)) h = l.wide p [] (h (Some p) refl)
    wide_slot (Alias w) h = tt
    wide_slot (Int n) h = tt
    wide_slot (Atom a) h = tt
    wide_slot (Compound p) h = tt

    pub row_now : IsRow (row_at es st)
    row_now = record {
      canonical = canon-IsCanonical nat_eq nat_eq-IsSame (pattern_in es st);
      wide = wide_map domain_now names (λ v. wide_slot (slot_at st.slots v) (λ d e. l.free v d e));
    }
