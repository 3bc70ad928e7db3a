use Rattle.std.proofs.Common.{◌≡◌, ◌∙◌, refl}
use Rattle.std.specs.Fmt.{digits}
use Rattle.pp_make.specs.declared.text.TheConstants.{BEGIN}
use Rattle.pp_language.specs.Answers.{lines}
use Rattle.pp_make.proofs.Lines.{before, whole}
use Rattle.pp_make.proofs.text.make_text.Goals as goal

begins : BEGIN.now ≡ lines before
unfolding digits
begins = refl

pub returns : goal.returns
returns c = c.in_ok-extend_from_slice.ensures.items ∙ whole c.args.number _ _ (c.in_ok-text.ensures.items ∙ begins) c.in_ok-push_adders.ensures
