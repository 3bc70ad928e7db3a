-- The variables of a sentence, as it writes them, and their numbers.
use Rattle.std.specs.Prelude.{ℕ, Bool, true, false, not, nat_eq, cond, List, [], ◌∷◌, ◌++◌, codes, filter}
use Rattle.pp_algebra.specs.Terms.{variable, Trees, put_all}
use Rattle.pp_algebra.specs.Canon.{place}
use Rattle.pp_language.specs.Texts.{Text}
use Rattle.pp_algebra.specs.Texts.{same_text}

-- a variable as a sentence writes it: by its name, or `_` at this place, which is new there
pub data Key : Type 0 where
  named : Text → Key
  unnamed : ℕ → Key

abbrev pub same_key : Key → Key → Bool
same_key (named x) (named y) = same_text x y
same_key (named x) (unnamed j) = false
same_key (unnamed i) (named y) = false
same_key (unnamed i) (unnamed j) = nat_eq i j

abbrev pub is_named : Key → Bool
is_named (named x) = true
is_named (unnamed i) = false

abbrev pub key_of : ℕ → Text → Key
key_of i bs = cond (same_text bs (codes "_")) (unnamed i) (named bs)

-- the named ones first, each part in order of first occurrence
abbrev pub named_first : List Key → List Key
named_first ks = filter is_named ks ++ filter (λ k. not (is_named k)) ks

abbrev pub texts_of : List Key → List Text
texts_of [] = []
texts_of (named x ∷ ks) = x ∷ texts_of ks
texts_of (unnamed i ∷ ks) = texts_of ks

-- the variables become their places in the list
abbrev pub numbered : List Key → Trees Key → Trees ℕ
numbered ks ts = put_all (λ k. variable (place same_key ks k)) ts
