-- Texts one after another, each with what separates it from the one before.
use Rattle.std.proofs.Common.{◌≡◌, ℕ, suc, ◌+◌, ◌<◌, ◌≤◌, List, [], ◌∷◌, ◌++◌, map, drop, get_or, length, codes, refl, ap, sym, ◌∙◌, append-nil, append_assoc, add-one}
use Rattle.std.proofs.Math.Seq.{drop-cons}
use Rattle.std.proofs.lemmas.List.{drop_all}
use Rattle.pp_language.specs.Texts.{Text}
use Rattle.pp_language.specs.Printing.{joined, behind_columns}

-- the first separator is given, the others are commas
abbrev pub listed : Text → List Text → Text
listed separator [] = []
listed separator (x ∷ xs) = separator ++ x ++ listed (codes ", ") xs

joined-cons : (x : Text) (xs : List Text) → joined (codes ", ") (x ∷ xs) ≡ x ++ listed (codes ", ") xs
joined-cons x [] = sym (append-nil x)
joined-cons x (y ∷ ys) = ap (λ z. (x ++ codes ", ") ++ z) (joined-cons y ys) ∙ append_assoc x (codes ", ") (y ++ listed (codes ", ") ys) ∙ ap (λ z. x ++ z) (sym (append_assoc (codes ", ") y (listed (codes ", ") ys)))

pub listed-joined : (xs : List Text) → listed [] xs ≡ joined (codes ", ") xs
listed-joined [] = refl
listed-joined (x ∷ xs) = sym (joined-cons x xs)

pub listed-behind : (xs : List Text) → listed (codes " | ") xs ≡ behind_columns xs
listed-behind [] = refl
listed-behind (x ∷ xs) = append_assoc (codes " | ") x (listed (codes ", ") xs) ∙ ap (λ z. codes " | " ++ z) (sym (joined-cons x xs))

-- one more is written
pub listed_more : (separator after x : Text) (xs : List Text) (out begun new total : Text) → begun ≡ out ++ separator → new ≡ begun ++ x → after ≡ codes ", " → out ++ listed separator (x ∷ xs) ≡ total → new ++ listed after xs ≡ total
listed_more separator after x xs out begun new total b n a e =
    ap (λ z. new ++ listed z xs) a ∙ ap (λ z. z ++ listed (codes ", ") xs) (n ∙ ap (λ z. z ++ x) b ∙ append_assoc out separator x)
    ∙ append_assoc out (separator ++ x) (listed (codes ", ") xs)
    ∙ e

module _ {A : Type 0} (f : A → Text) (xs : List A) (i : ℕ) where
  pub listed_turn : (d : A) (separator after out begun new total : Text) → i < length xs → begun ≡ out ++ separator → new ≡ begun ++ f (get_or xs i d) → after ≡ codes ", " → out ++ listed separator (map f (drop i xs)) ≡ total → new ++ listed after (map f (drop (i + 1) xs)) ≡ total
  listed_turn d separator after out begun new total l b n a e =
      rw add-one (listed_more separator after (f (get_or xs i d)) (map f (drop (suc i) xs)) out begun new total b n a (ap (λ ys. out ++ listed separator (map f ys)) (sym (drop-cons xs i d l)) ∙ e))

  pub listed_end : (separator out total : Text) → length xs ≤ i → out ++ listed separator (map f (drop i xs)) ≡ total → out ≡ total
  listed_end separator out total l e = sym (append-nil out) ∙ ap (λ ys. out ++ listed separator (map f ys)) (sym (drop_all i xs l)) ∙ e
