-- The words of tokens, and the variables among words.
use Rattle.std.specs.Prelude.{ℕ, ◌+◌, cond, List, [], ◌∷◌, ◌++◌, map, codes}
use Rattle.std.specs.List.{flat_map}
use Rattle.pp_language.specs.declared.token.Kind.{Kind}
use Rattle.pp_language.specs.declared.token.Kind.TheVariants.{Variable}
use Rattle.pp_language.specs.declared.token.Token.{Token}
use Rattle.pp_language.specs.Texts.{Text}
use Rattle.pp_algebra.specs.Texts.{same_text}
use Rattle.pp_language.specs.Words.{Word, word_of}
use Rattle.pp_language.specs.Meanings.{texts_by}

abbrev pub words_of : Text → List Token → List Word
words_of text ts = map (word_of text) ts

-- the atoms and named variables of words, each as often as it stands there
abbrev pub texts_in : List Word → List Text
texts_in ws = flat_map (λ w. texts_by w.kind w.text) ws

-- the text of a word that is a named variable
abbrev pub named_by : Kind → Text → List Text
named_by Variable bs = cond (same_text bs (codes "_")) [] (bs ∷ [])
named_by k bs = []

-- the named variables of words, each as often as it stands there
abbrev pub named_in : List Word → List Text
named_in [] = []
named_in (w ∷ ws) = named_by w.kind w.text ++ named_in ws

abbrev pub blanks_by : Kind → Text → ℕ
blanks_by Variable bs = cond (same_text bs (codes "_")) 1 0
blanks_by k bs = 0

-- how many times `_` stands among words
abbrev pub blanks_in : List Word → ℕ
blanks_in [] = 0
blanks_in (w ∷ ws) = blanks_by w.kind w.text + blanks_in ws
