-- Parts are read from their words: what is well formed is read as it is.
use Rattle.std.proofs.Common.{◌≡◌, true, List, [], ◌∷◌, ◌++◌, Some, refl, ap, sym, ◌∙◌, append_assoc}
use Rattle.std.specs.Prelude.{codes, option_and_then}
use Rattle.std.proofs.lemmas.Bool.{and_parts}
use Rattle.pp_language.specs.declared.token.Kind.{Kind}
use Rattle.pp_language.specs.declared.token.Kind.TheVariants.{Integer, Atom, Quoted, Infers, Variable, Left, Right, OpenSquare, CloseSquare, Comma, Point, Range, Neck, Ask, Equals, InDomain, Less, AtMost, Equal, Differ}
use Rattle.pp_language.specs.Words.{Word, word, is_name_kind}
use Rattle.pp_language.specs.Phrases.{Phrase, integer_phrase, variable_phrase, said, Phrases, no_phrases, phrase_and, phrase_words, group_words, more_phrase_words, is_phrase, are_phrases, Part, term_part, mark, mark_text, parts_words}
use Rattle.pp_language.specs.PartsOf.{is_mark, are_parts, Group, wanting, state, with_phrase, with_word, step, whole, state_of, parts_of}

pub with_name : (w : Word) (ps : Phrases) (gs : List Group) (qs : List Part) → is_name_kind w.kind ≡ true → step w (state ps gs qs) ≡ with_phrase (said w ps) gs qs
with_name w ps gs qs h = elim w.kind as (λ k. is_name_kind k ≡ true → with_word k w.text ps gs qs ≡ with_phrase (said (word k w.text) ps) gs qs) [
  | Atom ↦ λ e. refl
  | Quoted ↦ λ e. refl
  | _ ↦ λ e. absurd (cc)
] h

mutual
  -- a phrase in front of what is read as this
  pub phrase_read : (p : Phrase) (ws : List Word) (gs : List Group) (qs : List Part) → is_phrase p ≡ true → state_of ws ≡ Some (state no_phrases gs qs) → state_of (phrase_words p ++ ws) ≡ with_phrase p gs qs
  phrase_read (integer_phrase bs) ws gs qs h e = ap (option_and_then (step (word Integer bs))) e
  phrase_read (variable_phrase bs) ws gs qs h e = ap (option_and_then (step (word Variable bs))) e
  phrase_read (said w ps) ws gs qs h e =
      let i = and_parts (is_name_kind w.kind) (are_phrases ps) h in
      ap (option_and_then (step w)) (group_read ps ws gs qs i.1 e) ∙ with_name w ps gs qs i.0

  group_read : (ps : Phrases) (ws : List Word) (gs : List Group) (qs : List Part) → are_phrases ps ≡ true → state_of ws ≡ Some (state no_phrases gs qs) → state_of (group_words ps ++ ws) ≡ Some (state ps gs qs)
  group_read no_phrases ws gs qs h e = e
  group_read (phrase_and p ps) ws gs qs h e =
      let i = and_parts (is_phrase p) (are_phrases ps) h in
      ap (λ us. option_and_then (step (word Left (codes "("))) (state_of us)) (append_assoc (phrase_words p) (more_phrase_words ps) ws)
      ∙ ap (option_and_then (step (word Left (codes "(")))) (phrase_read p (more_phrase_words ps ++ ws) (wanting ps ∷ gs) qs i.0 (more_read ps ws gs qs i.1 e))

  more_read : (ps : Phrases) (ws : List Word) (gs : List Group) (qs : List Part) → are_phrases ps ≡ true → state_of ws ≡ Some (state no_phrases gs qs) → state_of (more_phrase_words ps ++ ws) ≡ Some (state no_phrases (wanting ps ∷ gs) qs)
  more_read no_phrases ws gs qs h e = ap (option_and_then (step (word Right (codes ")")))) e
  more_read (phrase_and p ps) ws gs qs h e =
      let i = and_parts (is_phrase p) (are_phrases ps) h in
      ap (λ us. option_and_then (step (word Comma (codes ","))) (state_of us)) (append_assoc (phrase_words p) (more_phrase_words ps) ws)
      ∙ ap (option_and_then (step (word Comma (codes ",")))) (phrase_read p (more_phrase_words ps ++ ws) (wanting ps ∷ gs) qs i.0 (more_read ps ws gs qs i.1 e))

mark_read : (k : Kind) (qs : List Part) → is_mark k ≡ true → step (word k (mark_text k)) (state no_phrases [] qs) ≡ Some (state no_phrases [] (mark k ∷ qs))
mark_read Integer qs h = absurd (cc)
mark_read Atom qs h = absurd (cc)
mark_read Quoted qs h = absurd (cc)
mark_read Variable qs h = absurd (cc)
mark_read Left qs h = absurd (cc)
mark_read Right qs h = absurd (cc)
mark_read Point qs h = absurd (cc)
mark_read Comma qs h = refl
mark_read Infers qs h = refl
mark_read OpenSquare qs h = refl
mark_read CloseSquare qs h = refl
mark_read Range qs h = refl
mark_read Neck qs h = refl
mark_read Ask qs h = refl
mark_read Equals qs h = refl
mark_read InDomain qs h = refl
mark_read Less qs h = refl
mark_read AtMost qs h = refl
mark_read Equal qs h = refl
mark_read Differ qs h = refl

-- parts in front of parts
pub parts_read : (ps : List Part) → are_parts ps ≡ true → state_of (parts_words ps) ≡ Some (state no_phrases [] ps)
parts_read [] h = refl
parts_read (term_part p ∷ ps) h =
    let i = and_parts (is_phrase p) (are_parts ps) h in
    phrase_read p (parts_words ps) [] ps i.0 (parts_read ps i.1)
parts_read (mark k ∷ ps) h =
    let i = and_parts (is_mark k) (are_parts ps) h in
    ap (option_and_then (step (word k (mark_text k)))) (parts_read ps i.1) ∙ mark_read k ps i.0

-- well-formed parts are read from their words
pub parts_of-parts_words : (ps : List Part) → are_parts ps ≡ true → parts_of (parts_words ps) ≡ Some ps
parts_of-parts_words ps h = ap (option_and_then (λ s. whole s.arguments s.groups s.parts)) (parts_read ps h)

some_is : (ps qs : List Part) → Some ps ≡ Some qs → ps ≡ qs
some_is ps qs e = cc

-- words determine their well-formed parts
pub same_parts : (ps qs : List Part) → are_parts ps ≡ true → are_parts qs ≡ true → parts_words ps ≡ parts_words qs → ps ≡ qs
same_parts ps qs h k e = some_is ps qs (sym (parts_of-parts_words ps h) ∙ ap parts_of e ∙ parts_of-parts_words qs k)
