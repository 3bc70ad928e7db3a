use Rattle.pp_sld.specs.Reports.{HasWalked}
use Rattle.pp_path.specs.Works.{work_by}
use Rattle.std.proofs.Common.{◌≡◌, [], ◌∷◌, ◌++◌, map, ap, sym, ◌∙◌, subst}
use Rattle.pp_sld.proofs.Reports.{walk_splits}
use Rattle.pp_explore.proofs.Searched.{split_later, both_later}
use Rattle.pp_explore.proofs.task.divided.Goals as goal

pub returns-clause-walked : goal.returns-clause-walked
returns-clause-walked c = λ t task xs h.
    let items : c.push_reserved-3.new.self.items ≡ c.split.new.self ∷ (c.in-Some.other ∷ []) =
    c.push_reserved-3.ensures.items ∙ ap (λ x. x ++ c.in-Some.other ∷ []) (c.push_reserved-2.ensures.items ∙ ap (λ x. x ++ c.split.new.self ∷ []) c.in_ok-rest.ensures.items) in
    subst (λ x. HasWalked t task xs (map work_by x)) (sym items)
    (walk_splits t task xs (work_by c.args.work) (work_by c.split.new.self) (work_by c.in-Some.other) [] (sym (rw c.in-Some.is at c.in_ok-other.ensures.split)) h)

pub returns-clause-later : goal.returns-clause-later
returns-clause-later c = λ task h.
    let items : c.push_reserved-3.new.self.items ≡ c.split.new.self ∷ (c.in-Some.other ∷ []) =
    c.push_reserved-3.ensures.items ∙ ap (λ x. x ++ c.in-Some.other ∷ []) (c.push_reserved-2.ensures.items ∙ ap (λ x. x ++ c.split.new.self ∷ []) c.in_ok-rest.ensures.items) in
    both_later c.push_reserved-3.new.self.items c.split.new.self c.in-Some.other task items
    (split_later (work_by c.args.work) (work_by c.split.new.self) (work_by c.in-Some.other) task (sym (rw c.in-Some.is at c.in_ok-other.ensures.split)) h)
