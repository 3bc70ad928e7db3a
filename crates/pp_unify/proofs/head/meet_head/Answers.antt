use Rattle.std.proofs.Common.{◌+◌, ◌<◌, refl, arith}
use Rattle.pp_heap.specs.Spans.{terms_of}
use Rattle.pp_heap.specs.Values.{value_term}
use Rattle.pp_unify.proofs.HeadSteps.{gone_turned, apart_turned, leaf_next}
use Rattle.pp_unify.proofs.head.meet_head.Goals as goal

pub returns-then-branch-clause-turned : goal.returns-then-branch-clause-turned
returns-then-branch-clause-turned c =
    let a = c.args.state.now in
    let cs = c.args.cells.now in
    let at = c.args.at in
    let v = rw c.if-branch.true at c.in_ok-meet_leaf.ensures.stepped in
    let l : at < at + 1 = omega arith in
    gone_turned a c.meet_leaf.new.state c.args.work.now.items (value_term a.heap.items c.args.value) c.args.first cs at (at + 1) c.requires.good c.requires.head c.requires.within c.requires.all (leaf_next cs at c.requires.head c.requires.within (c.if-is_compound.ensures.no refl)) l v

pub returns-else-branch-clause-turned : goal.returns-else-branch-clause-turned
returns-else-branch-clause-turned c =
    let a = c.args.state.now in
    let x = rw c.if-branch.false at c.in_ok-meet_leaf.ensures.stepped in
    apart_turned a (value_term a.heap.items c.args.value) (terms_of a.heap.items c.args.work.now.items) c.args.first c.args.cells.now c.args.at c.requires.head c.requires.within x
