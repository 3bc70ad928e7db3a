-- The parts of a sentence, from its tokens, and the statement that the sentence says.
use Rattle.std.proofs.Common.{◌≡◌, List, [], Option, Some, None, Result, Ok, Err, ap, sym, subst, ◌∙◌}
use Rattle.std.specs.Prelude.{IsTrue, All, MatchOption, IfOk, unwrap_or}
use Rattle.pp_language.specs.declared.token.Token.{Token}
use Rattle.pp_language.specs.Texts.{Text}
use Rattle.pp_language.specs.Tokens.{IsTokenOf}
use Rattle.pp_language.specs.Words.{Word}
use Rattle.pp_language.specs.Phrases as phrases
use Rattle.pp_language.specs.Phrases.{parts_words}
use Rattle.pp_language.specs.PartsOf.{are_parts, parts_of}
use Rattle.pp_language.specs.Statements.{Statement, directive, statement_parts, is_statement, Says}
use Rattle.pp_language.proofs.PartsRead.{parts_of-parts_words}
use Rattle.pp_language.proofs.PartsSpelled.{AreSpelled, parts_spelled}
use Rattle.pp_language.proofs.PartsFormed.{parts_formed}
use Rattle.pp_language.proofs.StatementParts.{statement_are}
use Rattle.pp_parse.specs.declared.parts.Part.{Part}
use Rattle.pp_parse.specs.declared.statement.Layout.{Layout}
use Rattle.pp_parse.specs.Words.{words_of, texts_in}
use Rattle.pp_parse.specs.Parts.{AreRead}
use Rattle.pp_parse.specs.Seen.{AreSeen, AreBegun, IsNamed}
use Rattle.pp_parse.specs.Layouts.{IsLayout, IsLaidOut}
use Rattle.pp_parse.proofs.GroupSizes.{spelled_words}
use Rattle.pp_parse.proofs.KnownTexts.{Known}
use Rattle.pp_parse.proofs.FromParts.{parts_seen, parts_begun, first_named}

-- the parts that the words of these tokens are
abbrev pub parts_in : Text → List Token → List phrases.Part
parts_in text ts = unwrap_or (parts_of (words_of text ts)) []

-- the parts of a statement are those of its words
pub says_parts : (ws : List Word) (s : Statement) → Says ws s → parts_of ws ≡ Some (statement_parts s)
says_parts ws s h = ap parts_of h.words ∙ parts_of-parts_words (statement_parts s) (statement_are s h.is_statement)

module _ (text : Text) (ts : List Token) (tokens : All (IsTokenOf text) ts) (names : List Text) (ps : List Part) (named : List Text) (read : AreRead names named (words_of text ts) ps) where
  in_parts : parts_in text ts ≡ read.parts
  in_parts = ap (λ o. unwrap_or o []) read.read

  words : words_of text ts ≡ parts_words read.parts
  words = parts_spelled (words_of text ts) read.parts (spelled_words text ts tokens) read.read

  pub are_formed : IsTrue (are_parts (parts_in text ts))
  are_formed = ap are_parts in_parts ∙ parts_formed (words_of text ts) read.parts read.read

  pub are_seen : AreSeen (parts_in text ts) ps
  are_seen = subst (λ qs. AreSeen qs ps) (sym in_parts) (parts_seen names named _ 0 read.parts ps (subst AreSpelled words (spelled_words text ts tokens)) read.are)

  pub are_begun : AreBegun (words_of text ts) (parts_in text ts) ps
  are_begun = subst (λ qs. AreBegun (words_of text ts) qs ps) (sym in_parts) (subst (λ ws. AreBegun ws read.parts ps) (sym words) (parts_begun names named _ [] read.parts ps read.are))

  pub is_named : All (Known names) (texts_in (words_of text ts)) → IsNamed names (parts_in text ts) ps
  is_named h = subst (λ qs. IsNamed names qs ps) (sym in_parts) (first_named names named _ 0 read.parts ps (parts_formed (words_of text ts) read.parts read.read)
      (let A : List Word → Type 0 = λ ws. All (Known names) (texts_in ws) in subst A words h) read.are)

  -- no directive, no clause and no query: no statement
  no_statement : ((w : Word) → Says (words_of text ts) (directive w) → ⊥) → ((s : Statement) → IsTrue (is_statement s) → parts_in text ts ≡ statement_parts s → (w : Word) × (s ≡ directive w))
      → (s : Statement) → Says (words_of text ts) s → ⊥
  no_statement d h s k =
      let w = h s k.is_statement (ap (λ o. unwrap_or o []) (says_parts (words_of text ts) s k)) in
      d w.0 (subst (Says (words_of text ts)) w.1 k)

  says_laid : (l : Layout) → IsLaidOut (parts_in text ts) l → (s : Statement) × Says (words_of text ts) s × IsLayout s l
  says_laid l h = (h.0, record { words = words ∙ ap parts_words (sym in_parts ∙ h.1); is_statement = h.2 }, h.3)

  pub statement_told : {E : Type 0} (r : Result (Option Layout) E) → ((w : Word) → Says (words_of text ts) (directive w) → ⊥)
      → IfOk r (λ o. MatchOption o ((s : Statement) → IsTrue (is_statement s) → parts_in text ts ≡ statement_parts s → (w : Word) × (s ≡ directive w)) (IsLaidOut (parts_in text ts)))
      → IfOk r (λ o. MatchOption o ((s : Statement) → Says (words_of text ts) s → ⊥) (λ l. (s : Statement) × Says (words_of text ts) s × IsLayout s l))
  statement_told (Ok None) d h = no_statement d h
  statement_told (Ok (Some l)) d h = says_laid l h
  statement_told (Err e) d h = h
