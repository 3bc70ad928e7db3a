-- Tokens collected into sentences, one by one.
use Rattle.std.proofs.Common.{◌≡◌, ℕ, ◌≤◌, List, [], ◌∷◌, ◌++◌, length, refl, ap, sym, ◌∙◌, subst, append_assoc}
use Rattle.std.proofs.lemmas.List.{map_push}
use Rattle.pp_language.specs.declared.token.Kind.TheVariants.{Point}
use Rattle.pp_language.specs.declared.token.Token.{Token}
use Rattle.pp_language.specs.Texts.{Text, part}
use Rattle.pp_language.specs.Tokens.{IsGap, IsTokenOf, AreTokensOf}
use Rattle.pp_language.specs.Sentences.{NoPoint, FallInto}
use Rattle.pp_lex.specs.declared.lists.Sentence.{Sentence}
use Rattle.pp_lex.specs.Readings.{tokens_of}

NoPoint-push : (ts : List Token) (t : Token) → NoPoint ts → (t.kind ≡ Point → ⊥) → NoPoint (ts ++ t ∷ [])
NoPoint-push [] t n h = (h, tt)
NoPoint-push (u ∷ ts) t n h = (n.0, NoPoint-push ts t n.1 h)

-- a token that is no point joins the tokens that are left
pub falls_on : (ts : List Token) (ss : List (List Token)) (left : List Token) (t : Token) → FallInto ts ss left → (t.kind ≡ Point → ⊥) → FallInto (ts ++ t ∷ []) ss (left ++ t ∷ [])
falls_on ts [] left t f h = (ap (λ us. us ++ t ∷ []) f.0, NoPoint-push left t f.1 h)
falls_on ts (s ∷ ss) left t f h =
    (f.0, f.1, f.2 ++ t ∷ [], ap (λ us. us ++ t ∷ []) f.3 ∙ append_assoc s (f.0 ∷ f.2) (t ∷ []), f.4, falls_on f.2 ss left t f.5 h)

-- a point ends the sentence
pub falls_at_point : (ts : List Token) (ss : List (List Token)) (left : List Token) (t : Token) → FallInto ts ss left → t.kind ≡ Point → FallInto (ts ++ t ∷ []) (ss ++ left ∷ []) []
falls_at_point ts [] left t f h = (t, h, [], ap (λ us. us ++ t ∷ []) f.0, f.1, (refl, tt))
falls_at_point ts (s ∷ ss) left t f h =
    (f.0, f.1, f.2 ++ t ∷ [], ap (λ us. us ++ t ∷ []) f.3 ∙ append_assoc s (f.0 ∷ f.2) (t ∷ []), f.4, falls_at_point f.2 ss left t f.5 h)

-- one more token behind the others
pub tokens_on : (text : Text) (i j : ℕ) (ts : List Token) (t : Token) → AreTokensOf text i ts j → j ≤ t.first → IsGap (part text j t.first) → IsTokenOf text t → AreTokensOf text i (ts ++ t ∷ []) t.last
tokens_on text i j [] t e l g k = (subst (λ n. n ≤ t.first) (sym e) l, subst (λ n. IsGap (part text n t.first)) (sym e) g, k, refl)
tokens_on text i j (u ∷ ts) t h l g k = (h.0, h.1, h.2, tokens_on text u.last j ts t h.3 l g k)

-- the tokens up to place i, in these sentences, and the tokens that are left
pub record CollectedTo (text : Text) (ss : List (List Token)) (left : List Token) (i : ℕ) : Type 0 where
  pub tokens : List Token
  pub within : i ≤ length text
  pub are_tokens : AreTokensOf text 0 tokens i
  pub fall_into : FallInto tokens ss left

pub add_point : (all : List Token) (old new : List Sentence) (left next : List Token) (s : Sentence) (t : Token) → FallInto all (tokens_of old) left → t.kind ≡ Point → new ≡ old ++ s ∷ [] → s.tokens ≡ left → next ≡ [] → FallInto (all ++ t ∷ []) (tokens_of new) next
add_point all old new left next s t f h e g n =
    let ss : tokens_of new ≡ tokens_of old ++ left ∷ [] = ap tokens_of e ∙ map_push (λ u. u.tokens) old s ∙ ap (λ u. tokens_of old ++ u ∷ []) g in
    subst (FallInto (all ++ t ∷ []) (tokens_of new)) (sym n) (subst (λ us. FallInto (all ++ t ∷ []) us []) (sym ss) (falls_at_point all (tokens_of old) left t f h))

pub add_other : (all : List Token) (ss : List (List Token)) (left next : List Token) (t : Token) → FallInto all ss left → (t.kind ≡ Point → ⊥) → next ≡ left ++ t ∷ [] → FallInto (all ++ t ∷ []) ss next
add_other all ss left next t f h e = subst (FallInto (all ++ t ∷ []) ss) (sym e) (falls_on all ss left t f h)

-- one more token behind what is collected
pub collected_on : {text : Text} {ss us : List (List Token)} {left next : List Token} {i : ℕ} (t : Token) → CollectedTo text ss left i → i ≤ t.first → IsGap (part text i t.first) → IsTokenOf text t → ((all : List Token) → FallInto all ss left → FallInto (all ++ t ∷ []) us next) → CollectedTo text us next t.last
collected_on {text} {ss} {us} {left} {next} {i} t c l g k f = record {
  tokens = c.tokens ++ t ∷ [];
  within = k.within;
  are_tokens = tokens_on text 0 i c.tokens t c.are_tokens l g k;
  fall_into = f c.tokens c.fall_into;
}
