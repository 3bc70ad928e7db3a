use Rattle.pp_heap.specs.declared.state.Value.TheVariants.{Compound}
use Rattle.pp_heap.specs.Values.{term_at}
use Rattle.pp_heap.specs.Stores.{solution}
use Rattle.pp_algebra.specs.Numbered.{counted_from}
use Rattle.pp_unify.proofs.Heaps.{compound_named, named_put}
use Rattle.pp_unify.proofs.Tops.{top_named, top_value}
use Rattle.pp_unify.proofs.terms.top.Goals as goal

pub returns-in-Some : goal.returns-in-Some
returns-in-Some c = top_value c.args.state.now (counted_from c.args.first (term_at c.args.cells.now c.args.at)) c.in-Some.value c.requires.good c.in-Some.ensures.value

pub returns-in-None : goal.returns-in-None
returns-in-None c =
    let s = c.args.state.now in
    let n = compound_named c.args.cells.now c.args.at c.requires.head.forest c.requires.within c.in-None.ensures in
    top_named s.slots.items (solution s) (counted_from c.args.first (term_at c.args.cells.now c.args.at)) (Compound 0) (named_put _ _ n) tt
