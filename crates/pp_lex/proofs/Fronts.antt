-- Tokens that a text begins with, by its first byte.
use Rattle.std.proofs.Common.{◌≡◌, ℕ, zero, suc, ◌+◌, ◌<◌, ◌≤◌, true, false, [], ◌∷◌, length, take, drop, get_or, sym, ◌∙◌, subst, arith}
use Rattle.std.specs.Prelude.{codes}
use Rattle.std.specs.List.{list_all, prefix_len}
use Rattle.std.proofs.lemmas.Bool.{and_from, both_ways, not_from_false}
use Rattle.pp_language.specs.declared.token.Kind.{Kind}
use Rattle.pp_language.specs.declared.token.Kind.TheVariants.{Atom, Quoted, Infers, Variable}
use Rattle.pp_language.specs.Texts.{Text, is_lower, is_word}
use Rattle.pp_algebra.specs.Texts.{same_text}
use Rattle.pp_language.specs.Kinds.{spells, has_form, begins_variable}
use Rattle.pp_language.proofs.Bytes.{lower_is_word, variable_is_word}
use Rattle.pp_language.proofs.Forms.{any_form, has_form-none, spells-any, form_of_lower, form_of_variable, form_of_quote}
use Rattle.pp_lex.specs.Fronts.{IsFront, HasNoFront, IsLongestRest, HasNoRest}
use Rattle.pp_lex.proofs.Runs.{prefix_len-yes, all_in_run, not_all_beyond, run-le}

pub front_from : (b n : ℕ) (r : Text) (k : Kind) → spells k (b ∷ take n r) ≡ true → n ≤ length r → ((m : ℕ) → n < m → m ≤ length r → any_form (b ∷ take m r) ≡ false) → IsFront (b ∷ r) k (suc n)
front_from b n r k spelled within longest = record {
  some = omega arith;
  within = omega arith;
  spelled = spelled;
  longest = beyond b n r longest;
}
  where
    beyond : (b n : ℕ) (r : Text) → ((m : ℕ) → n < m → m ≤ length r → any_form (b ∷ take m r) ≡ false) → (h : Kind) (m : ℕ) → suc n < m → m ≤ length (b ∷ r) → has_form h (take m (b ∷ r)) ≡ false
    beyond b n r f h zero low high = absurd (omega arith)
    beyond b n r f h (suc m) low high = has_form-none h (b ∷ take m r) (f m (omega arith) (omega arith))

pub no_front : (b : ℕ) (r : Text) → ((m : ℕ) → m ≤ length r → any_form (b ∷ take m r) ≡ false) → HasNoFront (b ∷ r)
no_front b r f k zero t = absurd (omega (arith, t.some))
no_front b r f k (suc m) t = both_ways _ (f m (omega (arith, t.within))) (spells-any k (b ∷ take m r) t.spelled)

variable_at : (b : ℕ) (r : Text) → begins_variable b ≡ true → IsFront (b ∷ r) Variable (suc (prefix_len is_word r))
variable_at b r h = front_from b (prefix_len is_word r) r Variable
    (and_from (begins_variable b) (list_all is_word (take (prefix_len is_word r) r)) h (all_in_run is_word r))
    (run-le is_word r)
    (λ m low high. form_of_variable b (take m r) h ∙ not_all_beyond is_word r m low high)

pub variable_front : (text : Text) → 0 < length text → begins_variable (get_or text 0 0) ≡ true → IsFront text Variable (prefix_len is_word text)
variable_front [] l h = absurd (omega arith)
variable_front (b ∷ r) l h = subst (IsFront (b ∷ r) Variable) (sym (prefix_len-yes is_word b r (variable_is_word b h))) (variable_at b r h)

lower_at : (k : Kind) (b : ℕ) (r : Text) → is_lower b ≡ true → spells k (b ∷ take (prefix_len is_word r) r) ≡ true → IsFront (b ∷ r) k (suc (prefix_len is_word r))
lower_at k b r h spelled = front_from b (prefix_len is_word r) r k spelled (run-le is_word r)
    (λ m low high. form_of_lower b (take m r) h ∙ not_all_beyond is_word r m low high)

pub infers_front : (text : Text) → 0 < length text → is_lower (get_or text 0 0) ≡ true → same_text (take (prefix_len is_word text) text) (codes "infers") ≡ true → IsFront text Infers (prefix_len is_word text)
infers_front [] l h e = absurd (omega arith)
infers_front (b ∷ r) l h e =
    let n = prefix_len-yes is_word b r (lower_is_word b h) in
    subst (IsFront (b ∷ r) Infers) (sym n) (lower_at Infers b r h (subst (λ k. same_text (take k (b ∷ r)) (codes "infers") ≡ true) n e))

pub atom_front : (text : Text) → 0 < length text → is_lower (get_or text 0 0) ≡ true → same_text (take (prefix_len is_word text) text) (codes "infers") ≡ false → IsFront text Atom (prefix_len is_word text)
atom_front [] l h e = absurd (omega arith)
atom_front (b ∷ r) l h e =
    let n = prefix_len-yes is_word b r (lower_is_word b h) in
    subst (IsFront (b ∷ r) Atom) (sym n) (lower_at Atom b r h
    (and_from _ _ (and_from (is_lower b) _ h (all_in_run is_word r)) (not_from_false _ (subst (λ k. same_text (take k (b ∷ r)) (codes "infers") ≡ false) n e))))

pub quoted_front : (text : Text) (n : ℕ) → 0 < length text → get_or text 0 0 ≡ 39 → IsLongestRest (drop 1 text) n → IsFront text Quoted (1 + n)
quoted_front [] n l h f = absurd (omega arith)
quoted_front (b ∷ r) n l h f =
    subst (λ c. IsFront (c ∷ r) Quoted (1 + n)) (sym h)
    (subst (IsFront (39 ∷ r) Quoted) (omega arith) (front_from 39 n r Quoted f.spelled f.within (λ m low high. form_of_quote (take m r) ∙ f.longest m low high)))

pub quoted_no_front : (text : Text) → 0 < length text → get_or text 0 0 ≡ 39 → HasNoRest (drop 1 text) → HasNoFront text
quoted_no_front [] l h f = absurd (omega arith)
quoted_no_front (b ∷ r) l h f =
    subst (λ c. HasNoFront (c ∷ r)) (sym h) (no_front 39 r (λ m high. form_of_quote (take m r) ∙ f m high))
