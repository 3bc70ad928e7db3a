-- The sets of a list of domains, one after another.
use Rattle.std.proofs.Common.{◌≡◌, ℕ, zero, suc, ◌<◌, ◌≤◌, ◌+◌, ℤ, List, [], ◌∷◌, ◌++◌, length, take, get_or, Option, None, refl, ap, sym, ◌∙◌, arith}
use Rattle.std.proofs.lemmas.List.{map-append, take_more, take-map}
use Rattle.std.proofs.lemmas.List.Elements.{All-push}
use Rattle.pp_algebra.specs.Rows.{IsWide, AreWide, domain_at}
use Rattle.pp_row.specs.Columns.{set_by, sets_of}

pub at_within : (ds : List (Option (List (ℤ × ℤ)))) (v : ℕ) (d : Option (List (ℤ × ℤ))) → v < length ds → domain_at (sets_of ds) v ≡ set_by (get_or ds v d)
at_within [] v d l = absurd (omega arith)
at_within (x ∷ ds) zero d l = refl
at_within (x ∷ ds) (suc v) d l = at_within ds v d (omega arith)

pub at_past : (ds : List (Option (List (ℤ × ℤ)))) (v : ℕ) → length ds ≤ v → domain_at (sets_of ds) v ≡ None
at_past [] v l = refl
at_past (x ∷ ds) zero l = absurd (omega arith)
at_past (x ∷ ds) (suc v) l = at_past ds v (omega arith)

pub same_at : (ds es : List (Option (List (ℤ × ℤ)))) (i : ℕ) (d e : Option (List (ℤ × ℤ))) → sets_of ds ≡ sets_of es → i < length ds → i < length es → set_by (get_or ds i d) ≡ set_by (get_or es i e)
same_at ds es i d e same l m = sym (at_within ds i d l) ∙ ap (λ xs. domain_at xs i) same ∙ at_within es i e m

take_sets : (xs : List (Option (List (ℤ × ℤ)))) (i : ℕ) (d : Option (List (ℤ × ℤ))) → i < length xs → take (i + 1) (sets_of xs) ≡ take i (sets_of xs) ++ set_by (get_or xs i d) ∷ []
take_sets xs i d l = rw (take-map set_by (i + 1) xs, take_more xs i d l, map-append, take-map set_by i xs) refl

pub same_more : (ds es : List (Option (List (ℤ × ℤ)))) (i : ℕ) (d e : Option (List (ℤ × ℤ))) → i < length ds → i < length es → take i (sets_of ds) ≡ take i (sets_of es) → set_by (get_or ds i d) ≡ set_by (get_or es i e) → take (i + 1) (sets_of ds) ≡ take (i + 1) (sets_of es)
same_more ds es i d e l m before this = rw (take_sets ds i d l, take_sets es i e m, before, this) refl

pub wide_push : (ds : List (Option (List (ℤ × ℤ)))) (d : Option (List (ℤ × ℤ))) → AreWide (sets_of ds) → IsWide (set_by d) → AreWide (sets_of (ds ++ d ∷ []))
wide_push ds d w h = rw map-append (All-push IsWide (sets_of ds) (set_by d) w h)
