-- Words: tokens by their kinds and texts, and the atoms that they write.
use Rattle.std.specs.Prelude.{ℕ, Bool, true, false, ◌&&◌, ◌||◌, nat_eq, codes}
use Rattle.pp_language.specs.declared.token.Kind.{Kind}
use Rattle.pp_language.specs.declared.token.Kind.TheVariants.{Atom, Quoted}
use Rattle.pp_language.specs.declared.token.Token.{Token}
use Rattle.pp_language.specs.Texts.{Text, part}
use Rattle.pp_algebra.specs.Texts.{same_text}
use Rattle.pp_language.specs.Kinds.{unquoted}

-- a token by its kind and its text
pub record Word : Type 0 where
  pub kind : Kind
  pub text : Text

abbrev pub word_of : Text → Token → Word
word_of text t = record { kind = t.kind; text = part text t.first t.last }

abbrev pub word : Kind → Text → Word
word k bs = record { kind = k; text = bs }

abbrev pub is_atom_kind : Kind → Bool
is_atom_kind Atom = true
is_atom_kind _ = false

abbrev pub is_name_kind : Kind → Bool
is_name_kind Atom = true
is_name_kind Quoted = true
is_name_kind _ = false

-- the text of the atom that a word writes
abbrev pub atom_of : Kind → Text → Text
atom_of Quoted bs = unquoted bs
atom_of _ bs = bs

abbrev pub is_built_in : Text → ℕ → Bool
is_built_in name arity = (same_text name (codes "plus") && nat_eq arity 3) || (same_text name (codes "times") && nat_eq arity 3) || (same_text name (codes "indomain") && nat_eq arity 1)
