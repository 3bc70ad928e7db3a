use Rattle.std.proofs.Common.{rules, inl, refl, ◌∙◌}
use Rattle.std.specs.Prelude.{string_bytes}
use denote.Param.Object.{read_made}
use Rattle.propia.proofs.Recording.{none_records, one_records, one_kept, served}
use Rattle.propia.proofs.serve.watched.OwnLists.{own-1}
use Rattle.propia.proofs.serve.watched.Goals as goal
use Rattle.propia.proofs.serve.watched.Goals.{then-has_trace+in-Ok+else-is_err, in-Err-2, in-Ok-2, else-has_trace}

pub returns-clause-served : goal.returns-clause-served
returns-clause-served g c =
    served _ _ _ _ _ _ _ c.propia.ensures.replied
    (elim c.if-has_trace.branch [
      | then-has_trace+in-Ok+else-is_err w ↦ one_records string_bytes c.args.words.now _ (search rules)
          (elim w.match-push.branch [
            | in-Err-2 x ↦ search rules
            | in-Ok-2 x ↦ one_kept _ _ w.into_dyn_box.result _ (search rules) (read_made own-1 _ (inl tt) refl _ (λ j z. j.1.state z) _ _ _ w.into_dyn_box.ensures.1 ∙ search rules)
          ])
      | else-has_trace w ↦ none_records string_bytes c.args.words.now _ (search rules) (search rules)
    ])
