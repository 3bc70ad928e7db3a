-- What is left to write of a term, cell by cell.
use Rattle.std.proofs.Common.{◌≡◌, ℕ, zero, suc, pred, ◌-◌, ◌<◌, ◌≤◌, List, [], ◌∷◌, ◌++◌, length, refl, ap, sym, ◌∙◌, append_assoc, arith}
use Rattle.std.proofs.lemmas.List.Sums.{fold-append}
use Rattle.pp_algebra.specs.Terms.{Tree, Trees, none, more, count, join}
use Rattle.pp_language.specs.Texts.{Text}
use Rattle.pp_language.specs.Printing.{term_text, more_arguments_text}
use Rattle.pp_print.specs.Left.{all_text, closing, behind, text_left}

module _ (names : List Text) where
  -- behind the first argument of a compound come the others, and what is behind the compound
  closing-join : (later : Trees ℕ → Text) (ts us : Trees ℕ) → closing names later (count ts) (join ts us) ≡ more_arguments_text names ts ++ later us
  closing-join later none us = refl
  closing-join later (more t ts) us = ap (λ x. 44 ∷ term_text names t ++ x) (closing-join later ts us) ∙ sym (append_assoc (44 ∷ term_text names t) (more_arguments_text names ts) (later us))

  behind-push : (unclosed : List ℕ) (k : ℕ) (ts : Trees ℕ) → behind names (unclosed ++ k ∷ []) ts ≡ closing names (behind names unclosed) (pred k) ts
  behind-push unclosed k ts = ap (λ f. f ts) (fold-append (λ later n. closing names later (pred n)) (all_text names) unclosed (k ∷ []))

  text_left-none : (ts : Trees ℕ) → behind names [] ts ≡ text_left names [] ts
  text_left-none none = refl
  text_left-none (more t ts) = refl

  closing-more : (unclosed : List ℕ) (k : ℕ) (ts : Trees ℕ) → closing names (behind names unclosed) (suc k) ts ≡ 44 ∷ text_left names (unclosed ++ suc k ∷ []) ts
  closing-more unclosed k none = refl
  closing-more unclosed k (more t ts) = ap (λ x. 44 ∷ term_text names t ++ x) (sym (behind-push unclosed (suc k) ts))

  -- a compound is opened: its first argument follows, and the others behind it
  pub text_left-open : (unclosed : List ℕ) (t : Tree ℕ) (ts us : Trees ℕ) → text_left names (unclosed ++ suc (count ts) ∷ []) (more t (join ts us)) ≡ term_text names t ++ (more_arguments_text names ts ++ behind names unclosed us)
  text_left-open unclosed t ts us = ap (λ x. term_text names t ++ x) (behind-push unclosed (suc (count ts)) (join ts us) ∙ closing-join (behind names unclosed) ts us)

  -- an argument is complete, and others follow
  comma : (unclosed : List ℕ) (k : ℕ) (ts : Trees ℕ) → 1 < k → behind names (unclosed ++ k ∷ []) ts ≡ 44 ∷ text_left names (unclosed ++ (k - 1) ∷ []) ts
  comma unclosed zero ts h = absurd (omega arith)
  comma unclosed (suc zero) ts h = absurd (omega arith)
  comma unclosed (suc (suc k)) ts h =
      let e : suc (suc k) - 1 ≡ suc k = omega arith in
      behind-push unclosed (suc (suc k)) ts ∙ closing-more unclosed k ts ∙ ap (λ n. 44 ∷ text_left names (unclosed ++ n ∷ []) ts) (sym e)

  -- the last argument is complete
  parenthesis : (unclosed : List ℕ) (k : ℕ) (ts : Trees ℕ) → k ≤ 1 → behind names (unclosed ++ k ∷ []) ts ≡ 41 ∷ behind names unclosed ts
  parenthesis unclosed zero ts h = behind-push unclosed zero ts
  parenthesis unclosed (suc zero) ts h = behind-push unclosed (suc zero) ts
  parenthesis unclosed (suc (suc k)) ts h = absurd (omega arith)

  pub writes_comma : (unclosed : List ℕ) (k : ℕ) (out total : Text) (ts : Trees ℕ) → 1 < k → out ++ behind names (unclosed ++ k ∷ []) ts ≡ total → (out ++ 44 ∷ []) ++ text_left names (unclosed ++ (k - 1) ∷ []) ts ≡ total
  writes_comma unclosed k out total ts h e = append_assoc out (44 ∷ []) (text_left names (unclosed ++ (k - 1) ∷ []) ts) ∙ ap (λ x. out ++ x) (sym (comma unclosed k ts h)) ∙ e

  pub writes_parenthesis : (unclosed : List ℕ) (k : ℕ) (out total : Text) (ts : Trees ℕ) → k ≤ 1 → out ++ behind names (unclosed ++ k ∷ []) ts ≡ total → (out ++ 41 ∷ []) ++ behind names unclosed ts ≡ total
  writes_parenthesis unclosed k out total ts h e = append_assoc out (41 ∷ []) (behind names unclosed ts) ∙ ap (λ x. out ++ x) (sym (parenthesis unclosed k ts h)) ∙ e

  pub writes_nothing : (unclosed : List ℕ) (out total : Text) (ts : Trees ℕ) → length unclosed ≡ 0 → out ++ behind names unclosed ts ≡ total → out ++ text_left names unclosed ts ≡ total
  writes_nothing [] out total ts h e = ap (λ x. out ++ x) (sym (text_left-none ts)) ∙ e
  writes_nothing (k ∷ unclosed) out total ts h e = absurd (omega arith)
