use Rattle.std.proofs.Common.{ap, sym, ◌∙◌}
use Rattle.pp_algebra.specs.Canon.{place}
use Rattle.std.specs.Prelude.{nat_eq}
use Rattle.pp_algebra.specs.Terms.{put}
use Rattle.pp_algebra.specs.Numbered.{counted_from}
use Rattle.pp_heap.specs.Values.{term_at}
use Rattle.pp_heap.specs.Stores.{store_of, entries_of, solution}
use Rattle.pp_unify.specs.States.{first_cell}
use Rattle.pp_unify.proofs.Present.{names}
use Rattle.pp_unify.proofs.Decided.{over_head, over_term}
use Rattle.pp_unify.proofs.Givens.{in_place_now}
use Rattle.pp_unify.proofs.FirstCells.{first_renamed}
use Rattle.pp_unify.proofs.bindings.Bindings.first_cell.Goals as goal

pub first_cell-requires-clause-head : goal.first_cell-requires-clause-head
first_cell-requires-clause-head c = over_head c.self.inside.state c.args.self.now c.args.first c.args.cells.now c.self.view_is c.requires.whole c.requires.over

pub returns : goal.returns
returns c =
    let s = c.self.inside.state in
    let t = counted_from c.args.first (term_at c.args.cells.now c.args.at) in
    let among = over_term s c.args.self.now c.args.first c.args.cells.now c.args.at c.self.view_is c.requires.whole c.requires.within c.requires.over in
    c.first_cell.ensures
    ∙ sym (ap first_cell (in_place_now s c.args.self.now t c.self.view_is among) ∙ first_renamed (place nat_eq (names (entries_of s) (store_of s))) (put (solution s) t))
