-- Variables by their names are numbered as they were.
use Rattle.std.proofs.Common.{◌≡◌, ℕ, zero, suc, ◌+◌, ◌^◌, ◌<◌, ◌≤◌, true, false, List, [], ◌∷◌, map, length, Option, Some, None, refl, ap, sym, ◌∙◌, subst, arith, append-nil}
use Rattle.std.proofs.lemmas.Bool.{false_from_ne_true, or_from}
use Rattle.pp_algebra.specs.Terms.{variable, Trees, variables_all}
use Rattle.pp_algebra.specs.Rows.{Domain, IsNumbered, Pattern, Row}
use Rattle.pp_algebra.specs.Covers.{IsIn}
use Rattle.pp_algebra.specs.Canon.{has, firsts, canon, Distinct}
use Rattle.pp_algebra.proofs.Antisym.{put_all-agree, occurs}
use Rattle.pp_algebra.proofs.CanonLemmas.{at, name}
use Rattle.pp_algebra.proofs.OneCanon.{one_canon}
use Rattle.pp_language.specs.Texts.{Text}
use Rattle.pp_language.specs.Keys.{Key, named, same_key, numbered}
use Rattle.pp_language.specs.Meanings.{keys_in}
use Rattle.pp_language.specs.Printing.{variable_text}
use Rattle.pp_roundtrip.proofs.Phrased.{by_name_all}
use Rattle.pp_roundtrip.proofs.ReadBack.{own_names}
use Rattle.pp_language.proofs.SameKeys.{same_key-is, same_key-IsSame}
use Rattle.pp_algebra.proofs.Numbered.{numbered_below}

-- ===== the keys of numbers

abbrev key : ℕ → Key
key v = named (variable_text v)

abbrev keys_from : ℕ → ℕ → List Key
keys_from k zero = []
keys_from k (suc m) = key k ∷ keys_from (suc k) m

keys_length : (k m : ℕ) → length (keys_from k m) ≡ m
keys_length k zero = refl
keys_length k (suc m) = omega (arith, keys_length (suc k) m)

key_at : (k m v : ℕ) → v < m → at same_key (keys_from k m) v ≡ Some (key (k + v))
key_at k zero v l = absurd (omega arith)
key_at k (suc m) zero l = let e : k ≡ k + 0 = omega arith in ap (λ n. Some (key n)) e
key_at k (suc m) (suc v) l = let e : suc k + v ≡ k + suc v = omega arith in key_at (suc k) m v (omega arith) ∙ ap (λ n. Some (key n)) e

named_is : (x y : Text) → named x ≡ named y → x ≡ y
named_is x y e = cc

key_is : (v w : ℕ) → v < 10 ^ 64 → w < 10 ^ 64 → same_key (key v) (key w) ≡ true → v ≡ w
key_is v w l k e = own_names v w l k (named_is (variable_text v) (variable_text w) (same_key-is (key v) (key w) e))

-- each number numbered_below the end of the list is numbered_below the greatest
abbrev AreBelow : ℕ → ℕ → Type 0
AreBelow k m = (v : ℕ) → k ≤ v → v < k + m → v < 10 ^ 64

no_key : (k m v : ℕ) → AreBelow k m → v < k → v < 10 ^ 64 → has same_key (keys_from k m) (key v) ≡ false
no_key k zero v b l small = refl
no_key k (suc m) v b l small = or_from (same_key (key k) (key v)) (has same_key (keys_from (suc k) m) (key v))
    (false_from_ne_true _ (λ e. let f : k ≡ v = key_is k v (b k (omega arith) (omega arith)) small e in omega (arith, f)))
    (no_key (suc k) m v (λ w low high. b w (omega arith) (omega arith)) (omega arith) small)

keys_distinct : (k m : ℕ) → AreBelow k m → Distinct same_key (keys_from k m)
keys_distinct k zero b = tt
keys_distinct k (suc m) b =
    let c : AreBelow (suc k) m = λ w low high. b w (omega arith) (omega arith) in
    (no_key (suc k) m k c (omega arith) (b k (omega arith) (omega arith)), keys_distinct (suc k) m c)

-- ===== numbers by first occurrence

abbrev anys : ℕ → List (Option Domain)
anys zero = []
anys (suc m) = None ∷ anys m

anys_are : (k m : ℕ) → anys m ≡ map (λ k. None) (keys_from k m)
anys_are k zero = refl
anys_are k (suc m) = ap (λ ds. None ∷ ds) (anys_are (suc k) m)

anys_length : (m : ℕ) → length (anys m) ≡ m
anys_length zero = refl
anys_length (suc m) = omega (arith, anys_length m)

module _ (ts : Trees ℕ) (m : ℕ) (canonical : IsNumbered 0 (variables_all ts) m) (small : (v : ℕ) → IsIn v (variables_all ts) → v < 10 ^ 64) where
  are_below : AreBelow 0 m
  are_below v low high = small v (occurs (variables_all ts) 0 m v canonical low (omega (arith, high)))

  abbrev row : Row
  row = record { columns = ts; domains = anys m }

  abbrev pattern : Pattern Key
  pattern = record { columns = by_name_all ts; domains = λ k. None }

  named_by : (v : ℕ) → IsIn v (variables_all ts) → name same_key (at same_key (keys_from 0 m) v) ≡ variable (key v)
  named_by v i = let e : 0 + v ≡ v = omega arith in ap (name same_key) (key_at 0 m v (numbered_below (variables_all ts) 0 m v canonical i)) ∙ ap (λ n. variable (key n)) e

  row_is : row ≡ canon same_key pattern
  row_is = one_canon same_key same_key-IsSame pattern row (keys_from 0 m)
      (subst (IsNumbered 0 (variables_all ts)) (sym (anys_length m)) canonical)
      (keys_distinct 0 m are_below)
      (put_all-agree (λ k. name same_key (at same_key (keys_from 0 m) k)) (λ v. variable (key v)) ts named_by)
      (anys_are 0 m)
      (anys_length m ∙ sym (keys_length 0 m))

  -- the numbers of the variables by first occurrence of their names are their own
  pub numbered-back : numbered (keys_in (by_name_all ts ∷ [])) (by_name_all ts) ≡ ts
  numbered-back =
      ap (λ ks. numbered (firsts same_key [] ks) (by_name_all ts)) (append-nil (variables_all (by_name_all ts)))
      ∙ sym (ap (λ r. r.columns) row_is)
