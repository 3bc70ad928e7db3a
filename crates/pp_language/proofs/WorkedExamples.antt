-- The worked examples hold.
use Rattle.std.proofs.Common.{◌≡◌, ℤ, pos, List, [], ◌∷◌, ◌++◌, refl, ap, ◌∙◌, arith}
use Rattle.std.specs.Prelude.{codes}
use Rattle.std.specs.Fmt.{digits}
use Rattle.std.proofs.lemmas.Int.{ints}
use Rattle.pp_algebra.specs.Members.{members}
use Rattle.pp_algebra.proofs.MembersListed.{members-from_list}
use Rattle.pp_language.specs.Texts.{Text}
use Rattle.pp_language.specs.Printing.{variable_text, integers_text, behind_columns}
use Rattle.pp_language.specs.Examples.{AdjacentIntegersJoin, SpacedAtomIsQuoted, QuoteIsDoubled, InfersIsQuoted, PlainAtomIsPlain, CompoundIsWritten, RangesFollowColumns, NoLine, UsageLine}
use Rattle.pp_algebra.specs.Examples.{one_or_two, two_or_three}

pub adjacent_integers_join : AdjacentIntegersJoin
unfolding digits
adjacent_integers_join = refl

pub spaced_atom_is_quoted : SpacedAtomIsQuoted
spaced_atom_is_quoted = refl

pub quote_is_doubled : QuoteIsDoubled
quote_is_doubled = refl

pub infers_is_quoted : InfersIsQuoted
infers_is_quoted = refl

pub plain_atom_is_plain : PlainAtomIsPlain
plain_atom_is_plain = refl

pub compound_is_written : CompoundIsWritten
unfolding digits
compound_is_written = refl

-- two columns of variables whose domains have these members
two_texts : List ℤ → List ℤ → Text
two_texts ns ms = codes "_0, _1" ++ behind_columns ((variable_text 0 ++ codes " :: " ++ integers_text ns) ∷ (variable_text 1 ++ codes " :: " ++ integers_text ms) ∷ [])

members_one_or_two : members one_or_two ≡ pos 1 ∷ pos 2 ∷ []
members_one_or_two = members-from_list (pos 1 ∷ pos 2 ∷ []) (omega (arith, ints), omega (arith, ints), (omega (arith, ints), omega (arith, ints), tt))

members_two_or_three : members two_or_three ≡ pos 2 ∷ pos 3 ∷ []
members_two_or_three = members-from_list (pos 2 ∷ pos 3 ∷ []) (omega (arith, ints), omega (arith, ints), (omega (arith, ints), omega (arith, ints), tt))

pub ranges_follow_columns : RangesFollowColumns
unfolding two_texts digits
ranges_follow_columns = ap (λ ns. two_texts ns (members two_or_three)) members_one_or_two ∙ ap (two_texts (pos 1 ∷ pos 2 ∷ [])) members_two_or_three

pub no_line : NoLine
no_line = refl

pub usage_line : UsageLine
usage_line = refl
