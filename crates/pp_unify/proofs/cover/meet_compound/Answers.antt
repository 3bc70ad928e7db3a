use Rattle.std.proofs.Common.{◌≡◌, ◌∙◌}
use Rattle.pp_heap.specs.Values.{cell_at}
use Rattle.pp_heap.specs.Spans.{terms_of}
use Rattle.pp_heap.proofs.Forests.{cell_read}
use Rattle.pp_unify.proofs.Covering.{met_compound}
use Rattle.pp_unify.proofs.cover.meet_compound.Goals as goal

pub returns-clause-met : goal.returns-clause-met
returns-clause-met c = λ _ ds cs a.
    let t = c.args.state.now in
    let v = rw c.in-Compound.is at c.requires.now in
    let e : cell_at t.heap.items c.in-Compound.place ≡ c.args.cell = cell_read t.heap.items c.in-Compound.place c.index.result.now c.index.ensures v.0 ∙ c.is_same.ensures.0 c.if-not-is_same.false in
    met_compound t ds cs c.args.cell c.args.value c.in-Compound.place (terms_of t.heap.items c.args.work.now.items) (terms_of t.heap.items c.push_arguments.new.work.items) c.requires.good a c.in-Compound.is c.requires.now e c.requires.compound c.in_ok-push_arguments.ensures.terms
