use Rattle.std.proofs.Common.{sym, ◌∙◌}
use Rattle.pp_algebra.specs.Numbered.{counted_from}
use Rattle.pp_heap.specs.Values.{term_at}
use Rattle.pp_unify.proofs.Decided.{over_head, over_term}
use Rattle.pp_unify.proofs.Givens.{top_variable, place_variable, place_none}
use Rattle.pp_unify.proofs.bindings.Bindings.domain_at.Goals as goal

pub top-requires-clause-head : goal.top-requires-clause-head
top-requires-clause-head c = over_head c.self.inside.state c.args.self.now c.args.first c.args.cells.now c.self.view_is c.requires.whole c.requires.over

pub returns-in-Variable : goal.returns-in-Variable
returns-in-Variable c =
    let s = c.self.inside.state in
    let t = counted_from c.args.first (term_at c.args.cells.now c.args.at) in
    let among = over_term s c.args.self.now c.args.first c.args.cells.now c.args.at c.self.view_is c.requires.whole c.requires.within c.requires.over in
    let v = top_variable s.slots.items _ c.in-Variable.free c.in-Variable.ensures in
    c.domain_of.ensures ∙ sym (place_variable s c.args.self.now t c.self.view_is among c.in-Variable.free v.0)

pub returns-in_default : goal.returns-in_default
returns-in_default c =
    let s = c.self.inside.state in
    let t = counted_from c.args.first (term_at c.args.cells.now c.args.at) in
    let among = over_term s c.args.self.now c.args.first c.args.cells.now c.args.at c.self.view_is c.requires.whole c.requires.within c.requires.over in
    sym (place_none s c.args.self.now t c.self.view_is among c.top.result c.top.ensures c.in_default.not-Variable)
