-- What the sentences of the code mean.
use Rattle.std.specs.Prelude.{ℕ, ◌≤◌, List, length, map}
use Rattle.pp_language.specs.declared.token.Token.{Token}
use Rattle.pp_language.specs.Texts.{Text, part}
use Rattle.pp_language.specs.Tokens.{IsGap, IsLastGap, IsTokenOf, IsBadAfter}
use Rattle.pp_language.specs.Sentences.{Ending, clean, cut, bad}
use Rattle.pp_lex.specs.declared.lists.Sentence.{Sentence}
use Rattle.pp_lex.specs.declared.lists.Tail.{Tail}
use Rattle.pp_lex.specs.declared.lists.Tail.TheVariants.{Clean, Cut, Bad}
use Rattle.pp_lex.specs.declared.scan.Item.{Item}
use Rattle.pp_lex.specs.declared.scan.Item.TheVariants as item

abbrev pub ending_of : Tail → Ending
ending_of Clean = clean
ending_of Cut = cut
ending_of Bad = bad

abbrev pub tokens_of : List Sentence → List (List Token)
tokens_of ss = map (λ s. s.tokens) ss

-- what stands behind place i, past a gap: a token, the end of the text, or a place where no token begins
abbrev pub IsItem : Text → ℕ → Item → Type 0
IsItem text i (item.Token t) = (i ≤ t.first) × IsGap (part text i t.first) × IsTokenOf text t
IsItem text i item.End = IsLastGap (part text i (length text))
IsItem text i item.Bad = IsBadAfter text i
