use Rattle.std.proofs.Common.{◌++◌, [], ◌∷◌, ◌∙◌, ap}
use Rattle.pp_unify.specs.Writing.{top_cell}
use Rattle.pp_unify.proofs.Resolved.{wrote_one, wrote_compound, leaves_free}
use Rattle.pp_unify.proofs.writing.write.Goals as goal

pub returns-in_ok-push_arguments-clause-written : goal.returns-in_ok-push_arguments-clause-written
returns-in_ok-push_arguments-clause-written c =
    let t = c.args.state.now in
    let n = rw c.in-Compound.is at c.requires.now in
    let e = c.in_ok-push.ensures.items ∙ ap (λ k. c.args.out.now.items ++ k ∷ []) (c.top_cell.ensures ∙ ap (top_cell t.heap.items) c.in-Compound.is) in
    rw c.in-Compound.is (wrote_compound t c.in-Compound.place c.args.out.now.items c.push.new.self.items c.args.work.now.items c.push_arguments.new.work.items c.requires.good.linked.forest n.0 n.1 e c.in_ok-push_arguments.ensures.terms)

pub returns-in_default : goal.returns-in_default
returns-in_default c =
    let t = c.args.state.now in
    let e = c.in_ok-push.ensures.items ∙ ap (λ k. c.args.out.now.items ++ k ∷ []) c.top_cell.ensures in
    record {
      all = c.requires.all;
      written = wrote_one t c.args.value c.args.out.now.items c.push.new.self.items c.args.work.now.items (leaves_free t c.args.value c.requires.good c.requires.now) c.in_default.not-Compound e;
    }
