-- A clause that is numbered anew by first occurrence, whatever its numbers were.
use Rattle.std.proofs.Common.{◌≡◌, ℕ, List, [], ◌∷◌, map, refl, ap, ◌∙◌}
use Rattle.std.specs.Prelude.{nat_eq}
use Rattle.std.specs.List.{flat_map}
use Rattle.pp_algebra.specs.Terms.{Tree, Trees, put_all, variables_all}
use Rattle.pp_algebra.specs.Canon.{place, firsts}
use Rattle.pp_algebra.specs.Covers.{IsIn}
use Rattle.pp_algebra.proofs.Order.{IsIn-left, IsIn-right}
use Rattle.pp_sld.specs.Goals.{put_goal}
use Rattle.pp_language.specs.Texts.{Text}
use Rattle.pp_language.specs.Keys.{Key, same_key, numbered}
use Rattle.pp_language.specs.Phrases.{Phrase}
use Rattle.pp_language.specs.Statements.{Item}
use Rattle.pp_language.specs.Meanings.{blanks_all, keyed_all, keyed_lists, said_arguments, item_phrases, goal_by, goals_by}
use Rattle.pp_language.proofs.SameKeys.{same_key-IsSame}
use Rattle.pp_build.specs.Renumbered.{placed}
use Rattle.pp_build.proofs.FirstNumbers.{numbered_again}
use Rattle.pp_build.proofs.RenumberedClauses.{clause_with}
use Rattle.pp_read.specs.Sizes.{variables_of}
use Rattle.pp_read.proofs.ListKeys.{list_keys}
use Rattle.pp_read.proofs.MadeStatements.{make_clause, numbered_clause}
use Rattle.pp_read.proofs.Counted.{Has, keys, clause_places, all_have}

goals-put : (names : List Text) (s : ℕ → Tree ℕ) (is : List Item) (tss : List (Trees ℕ)) → map (put_goal s) (goals_by names is tss) ≡ goals_by names is (map (put_all s) tss)
goals-put names s [] tss = refl
goals-put names s (i ∷ is) [] = refl
goals-put names s (i ∷ is) (ts ∷ tss) = ap (λ gs. goal_by names i (put_all s ts) ∷ gs) (goals-put names s is tss)

module _ (names : List Text) (p : Phrase) (is : List Item) (es : List Key) (has : (k : Key) → IsIn k (keys names p is) → Has es k) where
  abbrev again : List ℕ
  again = firsts nat_eq [] (map (place same_key es) (keys names p is))

  abbrev in_order : List Key
  in_order = firsts same_key [] (keys names p is)

  terms_again : (ts : Trees Key) → ((k : Key) → IsIn k (variables_all ts) → IsIn k (keys names p is)) → put_all (placed again) (numbered es ts) ≡ numbered in_order ts
  terms_again ts h = numbered_again same_key same_key-IsSame es (keys names p is) ts (all_have names p is es has) (λ k i. has k (h k i))

  lists_again : (tss : List (Trees Key)) → ((k : Key) → IsIn k (flat_map variables_all tss) → IsIn k (keys names p is)) → map (put_all (placed again)) (map (numbered es) tss) ≡ map (numbered in_order) tss
  lists_again [] h = refl
  lists_again (ts ∷ tss) h =
      let rest = flat_map variables_all tss in
      ap (λ us. us ∷ map (put_all (placed again)) (map (numbered es) tss)) (terms_again ts (λ k i. h k (IsIn-left k (variables_all ts) rest i)))
      ∙ ap (λ uss. numbered in_order ts ∷ uss) (lists_again tss (λ k i. h k (IsIn-right k (variables_all ts) rest i)))

  pub clause_again : clause_with (placed (firsts nat_eq [] (variables_of (numbered_clause names p is es)))) (numbered_clause names p is es) ≡ numbered_clause names p is in_order
  clause_again =
      let head = keyed_all names 0 (said_arguments p) in
      let n = blanks_all (said_arguments p) in
      let bodies = keyed_lists names n (map item_phrases is) in
      let rest = list_keys names n (map item_phrases is) in
      ap (λ vs. clause_with (placed (firsts nat_eq [] vs)) (numbered_clause names p is es)) (clause_places names p is es)
      ∙ ap (λ ts. make_clause ts (map (put_goal (placed again)) (goals_by names is (map (numbered es) bodies)))) (terms_again head (λ k i. IsIn-left k (variables_all head) rest i))
      ∙ ap (make_clause (numbered in_order head)) (goals-put names (placed again) is (map (numbered es) bodies) ∙ ap (goals_by names is) (lists_again bodies (λ k i. IsIn-right k (variables_all head) rest i)))
