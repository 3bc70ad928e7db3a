use Rattle.std.proofs.Common.{◌≡◌, ℕ, nat_eq, Bool, take, subst, sym, ◌∙◌}
use Rattle.std.specs.Prelude.{codes}
use Rattle.std.specs.Cmp.Lexicographic.{pointwise}
use Rattle.pp_language.specs.Texts.{Text}
use Rattle.pp_algebra.specs.Texts.{same_text}
use Rattle.pp_language.specs.declared.token.Kind.TheVariants.{Atom, Infers}
use Rattle.pp_lex.specs.Fronts.{IsFront}
use Rattle.pp_lex.proofs.Fronts.{infers_front, atom_front}
use Rattle.pp_lex.proofs.front.word.Goals as goal

tested : (r : Bool) (n m : ℕ) (bs t : Text) → r ≡ pointwise nat_eq (take n t) bs → bs ≡ codes "infers" → n ≡ m → same_text (take m t) (codes "infers") ≡ r
tested r n m bs t e f g = cc

pub returns-then-eq : goal.returns-then-eq
returns-then-eq c =
    subst (IsFront c.args.rest.now Infers) (sym c.word_size-size.ensures) (infers_front c.args.rest.now c.requires.some c.requires.begins (tested c.eq.result _ _ _ c.args.rest.now c.eq.ensures c.as_slice.ensures c.word_size-size.ensures ∙ c.if-eq.true))

pub returns-else-eq : goal.returns-else-eq
returns-else-eq c =
    subst (IsFront c.args.rest.now Atom) (sym c.word_size-size.ensures) (atom_front c.args.rest.now c.requires.some c.requires.begins (tested c.eq.result _ _ _ c.args.rest.now c.eq.ensures c.as_slice.ensures c.word_size-size.ensures ∙ c.if-eq.false))
