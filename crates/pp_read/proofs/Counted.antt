-- The clause that a statement writes has as many distinct variables as its sentence.
use Rattle.std.proofs.Common.{◌≡◌, ℕ, ◌+◌, Bool, true, false, ◌||◌, List, [], ◌∷◌, ◌++◌, length, map, get_or, refl, ap, sym, ◌∙◌, arith}
use Rattle.std.specs.Prelude.{All, cond, not, filter, nat_eq}
use Rattle.std.specs.List.{flat_map}
use Rattle.std.proofs.lemmas.List.{map-append}
use Rattle.std.proofs.lemmas.List.Concat.{flat_map_single}
use Rattle.pp_algebra.specs.Terms.{variable, Trees, variables_all}
use Rattle.pp_algebra.specs.Canon.{has, place, firsts}
use Rattle.pp_algebra.proofs.Order.{variables_all-put_all}
use Rattle.pp_algebra.specs.Covers.{IsIn}
use Rattle.pp_algebra.proofs.CanonLemmas.{has-all, has-append}
use Rattle.pp_language.specs.Texts.{Text}
use Rattle.pp_language.specs.Keys.{Key, same_key, is_named, named_first, numbered}
use Rattle.pp_language.specs.Phrases.{Phrase}
use Rattle.pp_language.specs.Statements.{Item}
use Rattle.pp_language.specs.Meanings.{blanks_all, keyed_all, keyed_lists, keys_in, said_arguments, item_phrases, goals_by}
use Rattle.pp_language.specs.Limits.{variable_count}
use Rattle.pp_read.specs.Sizes.{variables_of}
use Rattle.pp_parse.proofs.KnownTexts.{is_in}
use Rattle.pp_read.proofs.ListKeys.{list_keys, lists_same}
use Rattle.pp_read.proofs.MadeStatements.{clause_lists, numbered_clause}
use Rattle.pp_language.proofs.SameKeys.{same_key-IsSame}
use Rattle.pp_build.proofs.FirstNumbers.{Stands, places_counted}
use Rattle.std.proofs.Math.Bool.{or_assoc}

-- ===== the named ones first

or_second : (a b c : Bool) → (a || (b || c)) ≡ (b || (a || c))
or_second true true c = refl
or_second true false c = refl
or_second false b c = refl

module _ {V : Type 0} (same : V → V → Bool) where
  has-parted : (f : V → Bool) (vs : List V) (x : V) → (has same (filter f vs) x || has same (filter (λ k. not (f k)) vs) x) ≡ has same vs x
  has-parted f [] x = refl
  has-parted f (v ∷ vs) x =
      let a = has same (filter f vs) x in
      let b = has same (filter (λ k. not (f k)) vs) x in
      elim (f v) as (λ c. (has same (cond c (v ∷ filter f vs) (filter f vs)) x || has same (cond (not c) (v ∷ filter (λ k. not (f k)) vs) (filter (λ k. not (f k)) vs)) x) ≡ (same v x || has same vs x)) [
        | true ↦ or_assoc (same v x) a b ∙ ap (λ c. same v x || c) (has-parted f vs x)
        | false ↦ or_second a (same v x) b ∙ ap (λ c. same v x || c) (has-parted f vs x)
      ]

-- each key of a sentence has a place, by first occurrence and with the named ones first
abbrev pub Has : List Key → Key → Type 0
Has ks k = Stands same_key same_key-IsSame ks k

pub has_place : (ks : List Key) (k : Key) → IsIn k ks → Has (firsts same_key [] ks) k
has_place ks k i = has-all same_key same_key-IsSame [] ks k i

pub has_named_place : (ks : List Key) (k : Key) → IsIn k ks → Has (named_first (firsts same_key [] ks)) k
has_named_place ks k i =
    let vs = firsts same_key [] ks in
    has-append same_key (filter is_named vs) (filter (λ h. not (is_named h)) vs) k ∙ has-parted same_key is_named vs k ∙ has_place ks k i

-- ===== clauses

numbered_variables : (ks : List Key) (ts : Trees Key) → variables_all (numbered ks ts) ≡ map (place same_key ks) (variables_all ts)
numbered_variables ks ts = variables_all-put_all (λ k. variable (place same_key ks k)) ts ∙ flat_map_single (place same_key ks) (variables_all ts)

module _ (names : List Text) where
  goals_variables : (ks : List Key) (n : ℕ) (is : List Item) → flat_map (λ g. variables_all g.arguments) (goals_by names is (map (numbered ks) (keyed_lists names n (map item_phrases is)))) ≡ map (place same_key ks) (list_keys names n (map item_phrases is))
  goals_variables ks n [] = refl
  goals_variables ks n (i ∷ is) =
      let ts = keyed_all names n (item_phrases i) in
      let m = n + blanks_all (item_phrases i) in
      ap (λ vs. vs ++ flat_map (λ g. variables_all g.arguments) (goals_by names is (map (numbered ks) (keyed_lists names m (map item_phrases is))))) (numbered_variables ks ts)
      ∙ ap (λ vs. map (place same_key ks) (variables_all ts) ++ vs) (goals_variables ks m is)
      ∙ sym (map-append (place same_key ks) (variables_all ts) (list_keys names m (map item_phrases is)))

-- a clause whose variables are numbered by their places in any list
module _ (names : List Text) (p : Phrase) (is : List Item) where
  abbrev pub keys : List Key
  keys = variables_all (keyed_all names 0 (said_arguments p)) ++ list_keys names (blanks_all (said_arguments p)) (map item_phrases is)

  pub clause_places : (ks : List Key) → variables_of (numbered_clause names p is ks) ≡ map (place same_key ks) keys
  clause_places ks =
      let first = variables_all (keyed_all names 0 (said_arguments p)) in
      let n = blanks_all (said_arguments p) in
      ap (λ vs. vs ++ flat_map (λ g. variables_all g.arguments) (goals_by names is (map (numbered ks) (keyed_lists names n (map item_phrases is))))) (numbered_variables ks (keyed_all names 0 (said_arguments p)))
      ∙ ap (λ vs. map (place same_key ks) first ++ vs) (goals_variables names ks n is)
      ∙ sym (map-append (place same_key ks) first (list_keys names n (map item_phrases is)))

  pub all_have : (ks : List Key) → ((k : Key) → IsIn k keys → Has ks k) → All (Has ks) keys
  all_have ks h = λ k d l. h (get_or keys k d) (is_in keys k d l)

  -- it has as many distinct variables as its sentence
  pub variables_counted : (ks : List Key) → ((k : Key) → IsIn k keys → Has ks k) → length (firsts nat_eq [] (variables_of (numbered_clause names p is ks))) ≡ variable_count (clause_lists p is)
  variables_counted ks h =
      let b = blanks_all (said_arguments p) in
      let z : b ≡ 0 + b = omega arith in
      ap (λ vs. length (firsts nat_eq [] vs)) (clause_places ks)
      ∙ places_counted same_key same_key-IsSame ks keys (all_have ks h)
      ∙ ap (λ n. length (keys_in (keyed_all names 0 (said_arguments p) ∷ keyed_lists names n (map item_phrases is)))) z
      ∙ ap (λ hs. length (firsts same_key [] hs)) (lists_same names 0 (clause_lists p is))
