-- A word by what it is to the terms of its sentence.
use Rattle.std.proofs.Common.{◌≡◌, ℕ, suc, ◌+◌, List, ◌∷◌, refl, ap, sym, ◌∙◌, subst, arith}
use Rattle.pp_row.specs.declared.cell.Cell.{Cell}
use Rattle.pp_row.specs.Cells.{head_of, cells_of_all}
use Rattle.pp_algebra.specs.Terms as terms
use Rattle.pp_language.specs.declared.token.Kind.{Kind}
use Rattle.pp_language.specs.declared.token.Kind.TheVariants.{Integer, Atom, Quoted, Infers, Variable, Left, Right, OpenSquare, CloseSquare, Comma, Point, Range, Neck, Ask, Equals, InDomain, Less, AtMost, Equal, Differ}
use Rattle.pp_language.specs.Texts.{Text}
use Rattle.pp_language.specs.Words.{word}
use Rattle.pp_language.specs.Phrases as phrases
use Rattle.pp_language.specs.Phrases.{Phrase, integer_phrase, variable_phrase, said, Phrases, no_phrases, phrase_and, count}
use Rattle.pp_language.specs.Meanings.{blanks, blanks_all}
use Rattle.pp_language.specs.PartsOf as parts
use Rattle.pp_language.specs.PartsOf.{with_phrase, with_other, with_word}
use Rattle.pp_parse.specs.declared.tokens.Leaf.TheVariants.{Name, Whole, Mark}
use Rattle.pp_parse.specs.Words.{blanks_by}
use Rattle.pp_parse.specs.Terms.{terms_of}
use Rattle.pp_parse.specs.Leaves.{leaf_by, IsNoTerm}
use Rattle.pp_parse.specs.Reading.{IsHead}

module _ (names named : List Text) where
  pub terms-count : (n : ℕ) (ps : Phrases) → terms.count (terms_of names named n ps) ≡ count ps
  terms-count n no_phrases = refl
  terms-count n (phrase_and p ps) = ap suc (terms-count (n + blanks p) ps)

  said_cells : (n m : ℕ) (f g : ℕ) (ps : Phrases) → f ≡ g → n ≡ m → head_of g (terms.count (terms_of names named n ps)) ∷ cells_of_all (terms_of names named n ps) ≡ head_of f (count ps) ∷ cells_of_all (terms_of names named m ps)
  said_cells n m f g ps e h =
      ap (λ k. head_of g k ∷ cells_of_all (terms_of names named n ps)) (terms-count n ps)
      ∙ ap (λ k. head_of k (count ps) ∷ cells_of_all (terms_of names named n ps)) (sym e)
      ∙ ap (λ k. head_of f (count ps) ∷ cells_of_all (terms_of names named k ps)) h

  -- an atom's word
  pub record IsNamed (n : ℕ) (k : Kind) (bs : Text) (f : ℕ) (ps : Phrases) (gs : List parts.Group) (qs : List phrases.Part) : Type 0 where
    pub said_is : with_phrase (said (word k bs) ps) gs qs ≡ with_word k bs ps gs qs
    pub head : IsHead names named n (n + blanks_by k bs) (said (word k bs) ps) (head_of f (count ps)) ps

  pub name_leaf : (n : ℕ) (k : Kind) (bs : Text) (f : ℕ) (ps : Phrases) (gs : List parts.Group) (qs : List phrases.Part) → Name f ≡ leaf_by names named n k bs → IsNamed n k bs f ps gs qs
  name_leaf n Atom bs f ps gs qs e = let z : n + 0 ≡ n = omega arith in record { said_is = refl; head = record { cells = said_cells n (n + 0) f _ ps (cc) (sym z); counts = ap (λ x. x + blanks_all ps) (sym z); words = refl } }
  name_leaf n Quoted bs f ps gs qs e = let z : n + 0 ≡ n = omega arith in record { said_is = refl; head = record { cells = said_cells n (n + 0) f _ ps (cc) (sym z); counts = ap (λ x. x + blanks_all ps) (sym z); words = refl } }
  name_leaf n _ bs f ps gs qs e = absurd (cc)

  -- an integer's or a variable's word
  pub record IsWhole (n : ℕ) (k : Kind) (bs : Text) (c : Cell) (gs : List parts.Group) (qs : List phrases.Part) : Type 0 where
    pub phrase : Phrase
    pub phrase_is : with_phrase phrase gs qs ≡ with_word k bs no_phrases gs qs
    pub head : IsHead names named n (n + blanks_by k bs) phrase c no_phrases

  pub whole_leaf : (n : ℕ) (k : Kind) (bs : Text) (c : Cell) (gs : List parts.Group) (qs : List phrases.Part) → Whole c ≡ leaf_by names named n k bs → IsWhole n k bs c gs qs
  whole_leaf n Integer bs c gs qs e = record { phrase = integer_phrase bs; phrase_is = refl; head = record { cells = cc; counts = omega arith; words = refl } }
  whole_leaf n Variable bs c gs qs e = record { phrase = variable_phrase bs; phrase_is = refl; head = record { cells = cc; counts = omega arith; words = refl } }
  whole_leaf n _ bs c gs qs e = absurd (cc)

  -- another word
  pub record IsOther (n : ℕ) (k h : Kind) (bs : Text) (gs : List parts.Group) (qs : List phrases.Part) : Type 0 where
    pub no_term : IsNoTerm h
    pub other_is : with_other h bs gs qs ≡ with_word k bs no_phrases gs qs
    pub counts : n + blanks_by k bs ≡ n

  other : (n : ℕ) (k h : Kind) (bs : Text) (gs : List parts.Group) (qs : List phrases.Part) → k ≡ h → IsNoTerm k → with_other k bs gs qs ≡ with_word k bs no_phrases gs qs → n + blanks_by k bs ≡ n → IsOther n k h bs gs qs
  other n k h bs gs qs f t w e = subst (λ j. IsOther n k j bs gs qs) f (record { no_term = t; other_is = w; counts = e })

  pub mark_leaf : (n : ℕ) (k h : Kind) (bs : Text) (gs : List parts.Group) (qs : List phrases.Part) → Mark h ≡ leaf_by names named n k bs → IsOther n k h bs gs qs
  mark_leaf n Integer h bs gs qs e = absurd (cc)
  mark_leaf n Atom h bs gs qs e = absurd (cc)
  mark_leaf n Quoted h bs gs qs e = absurd (cc)
  mark_leaf n Variable h bs gs qs e = absurd (cc)
  mark_leaf n Infers h bs gs qs e = let f : Infers ≡ h = cc in other n Infers h bs gs qs f tt refl (omega arith)
  mark_leaf n Left h bs gs qs e = let f : Left ≡ h = cc in other n Left h bs gs qs f tt refl (omega arith)
  mark_leaf n Right h bs gs qs e = let f : Right ≡ h = cc in other n Right h bs gs qs f tt refl (omega arith)
  mark_leaf n OpenSquare h bs gs qs e = let f : OpenSquare ≡ h = cc in other n OpenSquare h bs gs qs f tt refl (omega arith)
  mark_leaf n CloseSquare h bs gs qs e = let f : CloseSquare ≡ h = cc in other n CloseSquare h bs gs qs f tt refl (omega arith)
  mark_leaf n Comma h bs gs qs e = let f : Comma ≡ h = cc in other n Comma h bs gs qs f tt refl (omega arith)
  mark_leaf n Point h bs gs qs e = let f : Point ≡ h = cc in other n Point h bs gs qs f tt refl (omega arith)
  mark_leaf n Range h bs gs qs e = let f : Range ≡ h = cc in other n Range h bs gs qs f tt refl (omega arith)
  mark_leaf n Neck h bs gs qs e = let f : Neck ≡ h = cc in other n Neck h bs gs qs f tt refl (omega arith)
  mark_leaf n Ask h bs gs qs e = let f : Ask ≡ h = cc in other n Ask h bs gs qs f tt refl (omega arith)
  mark_leaf n Equals h bs gs qs e = let f : Equals ≡ h = cc in other n Equals h bs gs qs f tt refl (omega arith)
  mark_leaf n InDomain h bs gs qs e = let f : InDomain ≡ h = cc in other n InDomain h bs gs qs f tt refl (omega arith)
  mark_leaf n Less h bs gs qs e = let f : Less ≡ h = cc in other n Less h bs gs qs f tt refl (omega arith)
  mark_leaf n AtMost h bs gs qs e = let f : AtMost ≡ h = cc in other n AtMost h bs gs qs f tt refl (omega arith)
  mark_leaf n Equal h bs gs qs e = let f : Equal ≡ h = cc in other n Equal h bs gs qs f tt refl (omega arith)
  mark_leaf n Differ h bs gs qs e = let f : Differ ≡ h = cc in other n Differ h bs gs qs f tt refl (omega arith)

pub no_arguments : (ps : Phrases) → 0 ≡ count ps → no_phrases ≡ ps
no_arguments no_phrases e = refl
no_arguments (phrase_and p ps) e = absurd (omega arith)
