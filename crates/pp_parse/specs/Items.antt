-- What stands behind the first term of an item, and whether a head stands in front.
use Rattle.std.specs.Prelude.{Bool, false, not, List, ◌∷◌, Option, Some, None}
use Rattle.pp_language.specs.declared.token.Kind.{Kind}
use Rattle.pp_language.specs.declared.token.Kind.TheVariants.{Infers, Equals, InDomain, Less, AtMost, Equal, Differ}
use Rattle.pp_language.specs.Words.{atom_of, is_built_in}
use Rattle.pp_language.specs.Phrases.{said, count, Part, term_part}
use Rattle.pp_language.specs.Fronts.{mark_in}
use Rattle.pp_term.specs.declared.pred.Relation.{Relation}
use Rattle.pp_term.specs.declared.pred.Relation.TheVariants as relations
use Rattle.pp_parse.specs.declared.items.Operator.{Operator}
use Rattle.pp_parse.specs.declared.items.Operator.TheVariants as operators

-- ===== what stands between the terms of an item

abbrev pub operator_of : Kind → Operator
operator_of Equals = operators.Equals
operator_of InDomain = operators.InDomain
operator_of Infers = operators.Infers
operator_of Less = operators.Compares relations.Less
operator_of AtMost = operators.Compares relations.AtMost
operator_of Equal = operators.Compares relations.Equal
operator_of Differ = operators.Compares relations.Differ
operator_of k = operators.Other

abbrev pub operator_by : Option Kind → Operator
operator_by None = operators.Other
operator_by (Some k) = operator_of k

abbrev pub operator_in : List Part → Operator
operator_in ps = operator_by (mark_in ps)

abbrev pub kind_of : Relation → Kind
kind_of relations.Less = Less
kind_of relations.AtMost = AtMost
kind_of relations.Equal = Equal
kind_of relations.Differ = Differ

-- ===== heads

-- an atom, or an atom with arguments, that is no built-in
abbrev pub has_head : List Part → Bool
has_head (term_part (said w us) ∷ ps) = not (is_built_in (atom_of w.kind w.text) (count us))
has_head ps = false
