use Rattle.std.proofs.Common.{◌≡◌, ◌-◌, ◌<◌, drop, take, length, ap, sym, ◌∙◌, subst}
use Rattle.pp_algebra.specs.Terms.{put}
use Rattle.pp_algebra.specs.Numbered.{counted_from}
use Rattle.pp_heap.specs.Values.{cell_at, term_at, shifted}
use Rattle.pp_heap.specs.Soundness.{IsCompound}
use Rattle.pp_unify.proofs.Grown.{last_term, last_within}
use Rattle.pp_unify.proofs.HeadSteps.{cut_shifted, cut_forest, cut_below, cut_compound, shifted_below}
use Rattle.pp_unify.proofs.join.goal_compound.Goals as goal

pub grow-requires-clause-forest : goal.grow-requires-clause-forest
grow-requires-clause-forest c = cut_forest c.args.cells.now c.args.at c.args.end c.args.first c.requires.goal.forest c.requires.within c.requires.piece

pub grow-requires-clause-variables : goal.grow-requires-clause-variables
grow-requires-clause-variables c =
    let k = length c.args.state.now.slots.items in
    shifted_below k c.args.first (take (c.args.end - c.args.at) (drop c.args.at c.args.cells.now))
    (cut_below c.args.cells.now c.args.at c.args.end c.args.first c.requires.goal.forest c.requires.within c.requires.piece k c.requires.goal.among)

pub returns-clause-value : goal.returns-clause-value
returns-clause-value c =
    let old = c.args.state.now.heap.items in
    let new = c.grow.new.self.heap.items in
    let cells = c.args.cells.now in
    let n = c.args.first in
    let u = counted_from n (term_at cells c.args.at) in
    let cs = take (c.args.end - c.args.at) (drop c.args.at cells) in
    let k = cut_shifted cells c.args.at c.args.end n c.requires.goal.forest c.requires.within c.requires.piece in
    let at = c.in_ok-grow.field-0 in
    let g = c.in_ok-grow.ensures in
    let same : term_at new at ≡ u = ap (λ ds. term_at ds at) g.heap ∙ last_term old (shifted n cs) u at k g.at in
    record {
      now = (
        subst (λ ds. at < length ds) (sym g.heap) (last_within old (shifted n cs) u at k g.at),
        subst (λ ds. IsCompound (cell_at ds at)) (sym g.heap) (cut_compound old cells c.args.at c.args.end n at c.requires.piece.later c.requires.compound g.at),
      );
      same = λ ds s x. ap (put s) (sym same);
    }
