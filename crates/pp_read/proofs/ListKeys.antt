-- The variables of the goals of a sentence, and their terms.
use Rattle.std.proofs.Common.{◌≡◌, ℕ, ◌+◌, ◌≤◌, List, [], ◌∷◌, ◌++◌, length, map, refl, ap, sym, ◌∙◌, subst, arith}
use Rattle.std.specs.Prelude.{filter, All}
use Rattle.std.specs.List.{flat_map}
use Rattle.std.proofs.lemmas.List.Elements.{filter-append}
use Rattle.pp_algebra.specs.Terms.{Trees, variables_all}
use Rattle.pp_algebra.specs.Canon.{firsts}
use Rattle.pp_language.specs.Texts.{Text}
use Rattle.pp_algebra.specs.Texts.{same_text}
use Rattle.pp_language.specs.Keys.{Key, same_key, named_first, texts_of, numbered}
use Rattle.pp_language.specs.Phrases.{Phrases}
use Rattle.pp_language.specs.Meanings.{blanks_all, keyed_all, keyed_lists, keys_in}
use Rattle.pp_language.specs.Limits.{variable_count}
use Rattle.pp_parse.specs.Terms.{terms_of}
use Rattle.pp_parse.proofs.KnownTexts.{Known, all_first, all_second, firsts_known}
use Rattle.pp_read.proofs.Keys.{no_name, blank_keys, blank_keys-append, texts_of-append, keys_by, named_first-is, named_first-length, texts_of-keys, keys-length}
use Rattle.pp_read.proofs.PhraseKeys.{all_keys, all_same, all_numbered}

abbrev pub list_blanks : List Phrases → ℕ
list_blanks [] = 0
list_blanks (ps ∷ pss) = blanks_all ps + list_blanks pss

abbrev pub list_terms : List Text → List Text → ℕ → List Phrases → List (Trees ℕ)
list_terms names named n [] = []
list_terms names named n (ps ∷ pss) = terms_of names named n ps ∷ list_terms names named (n + blanks_all ps) pss

abbrev pub list_keys : List Text → ℕ → List Phrases → List Key
list_keys names n pss = flat_map variables_all (keyed_lists names n pss)

module _ (names : List Text) where
  lists_blank : (n : ℕ) (pss : List Phrases) → filter no_name (list_keys names n pss) ≡ blank_keys n (list_blanks pss)
  lists_blank n [] = refl
  lists_blank n (ps ∷ pss) =
      filter-append no_name (variables_all (keyed_all names n ps)) (list_keys names (n + blanks_all ps) pss)
      ∙ ap (λ ks. ks ++ filter no_name (list_keys names (n + blanks_all ps) pss)) (all_keys names n ps)
      ∙ ap (λ ks. blank_keys n (blanks_all ps) ++ ks) (lists_blank (n + blanks_all ps) pss)
      ∙ blank_keys-append n (blanks_all ps) (list_blanks pss)

  pub lists_same : (n : ℕ) (pss : List Phrases) → list_keys names n pss ≡ list_keys [] n pss
  lists_same n [] = refl
  lists_same n (ps ∷ pss) = ap (λ ks. ks ++ list_keys names (n + blanks_all ps) pss) (all_same names n ps) ∙ ap (λ ks. variables_all (keyed_all [] n ps) ++ ks) (lists_same (n + blanks_all ps) pss)

  lists_numbered : (xs : List Text) (m n : ℕ) (pss : List Phrases) → All (Known xs) (texts_of (list_keys names n pss)) → n + list_blanks pss ≤ m → map (numbered (keys_by xs m)) (keyed_lists names n pss) ≡ list_terms names xs (length xs + n) pss
  lists_numbered xs m n [] h l = refl
  lists_numbered xs m n (ps ∷ pss) h l =
      let k : All (Known xs) (texts_of (variables_all (keyed_all names n ps)) ++ texts_of (list_keys names (n + blanks_all ps) pss)) = subst (All (Known xs)) (texts_of-append (variables_all (keyed_all names n ps)) (list_keys names (n + blanks_all ps) pss)) h in
      let e : length xs + (n + blanks_all ps) ≡ length xs + n + blanks_all ps = omega arith in
      ap (λ t. t ∷ map (numbered (keys_by xs m)) (keyed_lists names (n + blanks_all ps) pss)) (all_numbered names xs m n ps (all_first (Known xs) (texts_of (variables_all (keyed_all names n ps))) (texts_of (list_keys names (n + blanks_all ps) pss)) k) (omega arith))
      ∙ ap (λ ts. terms_of names xs (length xs + n) ps ∷ ts) (lists_numbered xs m (n + blanks_all ps) pss (all_second (Known xs) (texts_of (variables_all (keyed_all names n ps))) (texts_of (list_keys names (n + blanks_all ps) pss)) k) (omega arith) ∙ ap (λ k. list_terms names xs k pss) e)

-- the variables of a sentence with these texts and so many `_`
pub record AreKeys (names named : List Text) (count : ℕ) (pss : List Phrases) : Type 0 where
  pub keys : named_first (keys_in (keyed_lists names 0 pss)) ≡ keys_by named count
  pub terms : map (numbered (keys_by named count)) (keyed_lists names 0 pss) ≡ list_terms names named (length named) pss
  pub counted : variable_count pss ≡ length named + count
  pub texts : texts_of (keys_by named count) ≡ named
  pub size : length (keys_by named count) ≡ length named + count

pub keys_of_all : (names named : List Text) (pss : List Phrases) → named ≡ firsts same_text [] (texts_of (list_keys names 0 pss)) → AreKeys names named (list_blanks pss) pss
keys_of_all names named pss e =
    let m = list_blanks pss in
    let k = named_first-is (list_keys names 0 pss) m (lists_blank names 0 pss) ∙ ap (λ xs. keys_by xs m) (sym e) in
    let z : length named + 0 ≡ length named = omega arith in
    record {
      keys = k;
      terms = lists_numbered names named m 0 pss (subst (λ xs. All (Known xs) (texts_of (list_keys names 0 pss))) (sym e) (firsts_known (texts_of (list_keys names 0 pss)))) (omega arith) ∙ ap (λ n. list_terms names named n pss) z;
      counted = ap (λ ks. length (firsts same_key [] ks)) (sym (lists_same names 0 pss)) ∙ sym (named_first-length (keys_in (keyed_lists names 0 pss))) ∙ ap length k ∙ keys-length named m;
      texts = texts_of-keys named m;
      size = keys-length named m;
    }
