-- A finite set has no member, one member, or two or more.
use Rattle.std.proofs.Common.{◌≡◌, ℕ, ℤ, zero, suc, ◌-◌, ◌≤◌, Bool, true, false, Option, Some, None, refl, ap, sym, ◌∙◌, subst, arith}
use Rattle.std.specs.Prelude.{cond, not}
use Rattle.std.specs.FinSet as set
use Rattle.std.specs.Ordering.{int_cmp, int_eq}
use Rattle.std.specs.Cmp.{int_cmp_total}
use Rattle.pp_algebra.specs.Terms.{Tree, int, node, variable}
use Rattle.pp_algebra.specs.Rows.{Domain, Domains}
use Rattle.pp_algebra.specs.Covers.{IsWithin, MayGo}
use Rattle.pp_algebra.specs.Rows.{IsWide}
use Rattle.pp_algebra.proofs.Bools.{int_same, int_is, left_true, right_true, both_true}
use Rattle.pp_algebra.proofs.Member.{members, some_in}

pub data Kind (d : Domain) : Type 0 where
  no_member : ((n : ℤ) → set.contains d n ≡ true → ⊥) → Kind d
  one_member : (n : ℤ) → set.contains d n ≡ true → ((k : ℤ) → set.contains d k ≡ true → k ≡ n) → Kind d
  more_members : 2 ≤ set.len d → Kind d

none_in : (d : Domain) → set.len d ≡ 0 → (n : ℤ) → set.contains d n ≡ true → ⊥
none_in d e n h = let f : set.contains d n ≡ false = ap (λ x. set.contains x n) (set.empty_of_len d e) ∙ set.contains-empty int_cmp n in absurd (cc)

stays_in : (d : Domain) (n k : ℤ) → int_eq k n ≡ false → set.contains d k ≡ true → set.contains (set.remove d n) k ≡ true
stays_in d n k e h = set.contains-remove int_cmp_total d n k ∙ both_true _ _ (ap not e) h

only_of : (d : Domain) (n : ℤ) → set.len (set.remove d n) ≡ 0 → (k : ℤ) → set.contains d k ≡ true → k ≡ n
only_of d n l k h = go (int_eq k n) refl
  where
    go : (b : Bool) → int_eq k n ≡ b → k ≡ n
    go true e = int_is k n e
    go false e = absurd (none_in (set.remove d n) l k (stays_in d n k e h))

pub kind : (d : Domain) → Kind d
kind d = go (set.len d) refl
  where
    go : (m : ℕ) → set.len d ≡ m → Kind d
    go zero e = no_member (none_in d e)
    go (suc zero) e = let s = some_in d (omega (arith, e)) in one_member s.0 s.1 (only_of d s.0 (set.len-remove int_cmp_total d s.0 ∙ ap (λ b. cond b (set.len d - 1) (set.len d)) s.1 ∙ omega (arith, e)))
    go (suc (suc m)) e = more_members (omega (arith, e))

-- a set of two or more has not one member alone
pub not_one : (d : Domain) (n : ℤ) → 2 ≤ set.len d → ((k : ℤ) → set.contains d k ≡ true → k ≡ n) → ⊥
not_one d n w h =
    let m = members d w in
    let e : m.0 ≡ n = h m.0 m.1 in
    let c : set.contains d n ≡ true = subst (λ x. set.contains d x ≡ true) e m.1 in
    let l : set.len (set.remove d n) ≡ set.len d - 1 = set.len-remove int_cmp_total d n ∙ ap (λ b. cond b (set.len d - 1) (set.len d)) c in
    go (set.len d - 1) l (omega (arith, w))
  where
    gone : (k : ℤ) → set.contains (set.remove d n) k ≡ true → ⊥
    gone k g =
        let a = sym (set.contains-remove int_cmp_total d n k) ∙ g in
        let i : k ≡ n = h k (right_true (not (int_eq k n)) (set.contains d k) a) in
        let j : not (int_eq k n) ≡ true = left_true (not (int_eq k n)) (set.contains d k) a in
        let s : not (int_eq k n) ≡ false = ap (λ x. not (int_eq x n)) i ∙ ap not (int_same n) in
        absurd (cc (j, s))

    go : (m : ℕ) → set.len (set.remove d n) ≡ m → 1 ≤ m → ⊥
    go zero e g = absurd (omega (arith, g))
    go (suc m) e g = let s = some_in (set.remove d n) (omega (arith, e)) in gone s.0 s.1

-- where a variable of one value may go, in a row whose domains are wide
pub goes_to_one : (ds : Domains ℕ) (d : Domain) (n : ℤ) (t : Tree ℕ) → ((v : ℕ) → IsWide (ds v)) → ((k : ℤ) → set.contains d k ≡ true → k ≡ n) → MayGo ds (Some d) t → t ≡ int n
goes_to_one ds d n (int m) w h g = ap int (h m g)
goes_to_one ds d n (node f ts) w h g = absurd g
goes_to_one ds d n (variable v) w h g = go (ds v) (w v) g
  where
    go : (o : Option Domain) → IsWide o → IsWithin d o → variable v ≡ int n
    go None x y = absurd y
    go (Some e) x y = absurd (not_one e n x (λ k i. h k (y k i)))

pub goes_nowhere : (ds : Domains ℕ) (d : Domain) (t : Tree ℕ) → ((v : ℕ) → IsWide (ds v)) → ((k : ℤ) → set.contains d k ≡ true → ⊥) → MayGo ds (Some d) t → ⊥
goes_nowhere ds d (int m) w h g = h m g
goes_nowhere ds d (node f ts) w h g = g
goes_nowhere ds d (variable v) w h g = go (ds v) (w v) g
  where
    go : (o : Option Domain) → IsWide o → IsWithin d o → ⊥
    go None x y = y
    go (Some e) x y = let m = members e x in h m.0 (y m.0 m.1)

-- the meet of two sets
pub in_left : (d e : Domain) (n : ℤ) → set.contains (set.intersection d e) n ≡ true → set.contains d n ≡ true
in_left d e n h = left_true _ _ (sym (set.contains-intersection int_cmp_total d e n) ∙ h)

pub in_right : (d e : Domain) (n : ℤ) → set.contains (set.intersection d e) n ≡ true → set.contains e n ≡ true
in_right d e n h = right_true (set.contains d n) _ (sym (set.contains-intersection int_cmp_total d e n) ∙ h)

in_both : (d e : Domain) (n : ℤ) → set.contains d n ≡ true → set.contains e n ≡ true → set.contains (set.intersection d e) n ≡ true
in_both d e n h k = set.contains-intersection int_cmp_total d e n ∙ both_true _ _ h k

within_weaker : (d e : Domain) (o : Option Domain) → ((n : ℤ) → set.contains d n ≡ true → set.contains e n ≡ true) → IsWithin d o → IsWithin e o
within_weaker d e None h k = k
within_weaker d e (Some f) h k = λ n i. h n (k n i)

pub goes_weaker : (ds : Domains ℕ) (d e : Domain) (t : Tree ℕ) → ((n : ℤ) → set.contains d n ≡ true → set.contains e n ≡ true) → MayGo ds (Some d) t → MayGo ds (Some e) t
goes_weaker ds d e (int n) h k = h n k
goes_weaker ds d e (node f ts) h k = k
goes_weaker ds d e (variable v) h k = within_weaker d e (ds v) h k

within_both : (d e : Domain) (o : Option Domain) → IsWithin d o → IsWithin e o → IsWithin (set.intersection d e) o
within_both d e None h k = h
within_both d e (Some f) h k = λ n i. in_both d e n (h n i) (k n i)

pub goes_both : (ds : Domains ℕ) (d e : Domain) (t : Tree ℕ) → MayGo ds (Some d) t → MayGo ds (Some e) t → MayGo ds (Some (set.intersection d e)) t
goes_both ds d e (int n) h k = in_both d e n h k
goes_both ds d e (node f ts) h k = h
goes_both ds d e (variable v) h k = within_both d e (ds v) h k
