use Rattle.std.proofs.Common.{◌≡◌, ◌∙◌, All, true, false, ap, sym, arith}
use Rattle.pp_row.specs.Cells.{arity_of}
use Rattle.pp_algebra.specs.Terms.{join}
use Rattle.pp_heap.specs.Values.{cell_at, term_at}
use Rattle.pp_heap.specs.Spans.{IsSpan, span_terms, terms_of}
use Rattle.pp_heap.specs.Sights.{HasSeen}
use Rattle.pp_heap.proofs.Forests.{cell_read}
use Rattle.pp_heap.proofs.Work.{inside_part, part_fits, part_span}
use Rattle.pp_heap.proofs.Seeing.{sofar_some, sofar_found, sofar_more, seen_plain, seen_variable}
use Rattle.pp_heap.proofs.state.State.is_among.Goals as goal
use Rattle.pp_heap.proofs.state.State.is_among.Goals.{in-Var+in_ok-meets+else-branch, in_default}

pub meets-requires-clause-within : goal.meets-requires-clause-within
meets-requires-clause-within c =
    let t = c.args.self.now in
    let s = c.loop-left.left in
    let b = part_span t.heap.items s c.requires.good.linked.forest c.loop-left.invariant.sofar.part (omega (arith, c.loop-left-test.true)) in
    c.requires.good.linked.variables s.at c.in-Var.number (cell_read t.heap.items s.at c.index-cell.result.now c.index-cell.ensures b.within ∙ c.in-Var.is)

pub returns-then-branch-clause-seen : goal.returns-then-branch-clause-seen
returns-then-branch-clause-seen c =
    let t = c.args.self.now in
    let h = t.heap.items in
    let x = c.args.variable in
    let s = c.loop-left.left in
    let ws = c.loop-left.work.items in
    let all = join (span_terms h c.args.span) (terms_of h c.args.work.now.items) in
    let i = c.loop-left.invariant.sofar in
    let b = sofar_some t x c.args.span.at s ws all c.requires.good i (omega (arith, c.loop-left-test.true)) in
    let e = cell_read h s.at c.index-cell.result.now c.index-cell.ensures b.within ∙ c.in-Var.is in
    sofar_found t x c.args.span.at s ws all i b (seen_variable t x c.requires.good s.at c.in-Var.number ws c.meets.new.work.items true b.within e (rw c.if-branch.true at c.in_ok-meets.ensures.seen))

span : (c : goal.After-arity) → IsSpan c.args.self.now.heap.items c.loop-left.left
span c = part_span c.args.self.now.heap.items c.loop-left.left c.requires.good.linked.forest c.loop-left.invariant.sofar.part (omega (arith, c.loop-left-test.true))

arity : (c : goal.After-arity) → c.arity.result ≡ arity_of (cell_at c.args.self.now.heap.items c.loop-left.left.at)
arity c =
    let h = c.args.self.now.heap.items in
    let p = c.loop-left.left.at in
    let e = cell_read h p c.index-cell.result.now c.index-cell.ensures (span c).within in
    let k : c.match-cell.cell ≡ cell_at h p = elim c.match-cell.branch [
      | in-Var+in_ok-meets+else-branch w ↦ cc (w.cell-is, e)
      | in_default w ↦ cc (w.cell-is, e)
    ] in
    c.arity.ensures ∙ ap arity_of k

all : (c : goal.After-arity) → All (IsSpan c.args.self.now.heap.items) c.match-cell.work.items
all c = elim c.match-cell.branch [
  | in-Var+in_ok-meets+else-branch w ↦ rw w.work-is w.in_ok-meets.ensures.all
  | in_default w ↦ rw w.work-is c.loop-left.invariant.all
]

seen : (c : goal.After-arity) → HasSeen c.args.self.now c.args.variable (term_at c.args.self.now.heap.items c.loop-left.left.at) c.loop-left.work.items c.match-cell.work.items false
seen c =
    let t = c.args.self.now in
    let g = c.requires.good in
    let p = c.loop-left.left.at in
    let l = (span c).within in
    let e = cell_read t.heap.items p c.index-cell.result.now c.index-cell.ensures l in
    elim c.match-cell.branch [
      | in-Var+in_ok-meets+else-branch w ↦ rw w.work-is (seen_variable t c.args.variable g p w.in-Var.number c.loop-left.work.items w.meets.new.work.items false l (e ∙ w.in-Var.is) (rw w.if-branch.false at w.in_ok-meets.ensures.seen))
      | in_default w ↦ rw w.work-is (seen_plain t c.args.variable g p c.loop-left.work.items l (λ v k. w.in_default.not-Var v (sym e ∙ k)))
    ]

pub overflow_add-left-in-loop-left : goal.overflow_add-left-in-loop-left
overflow_add-left-in-loop-left c =
    let h = c.args.self.now.heap.items in
    let f = c.requires.good.linked.forest in
    let s = c.loop-left.left in
    omega (arith, c.requires.good.small, part_fits h _ f (inside_part h s.at s.count c.arity.result f (span c) (arity c)))

pub loop-left-preserved : goal.loop-left-preserved
loop-left-preserved c =
    let t = c.args.self.now in
    let h = t.heap.items in
    let s = c.loop-left.left in
    let whole = join (span_terms h c.args.span) (terms_of h c.args.work.now.items) in
    record {
      all = all c;
      sofar = sofar_more t c.args.variable c.args.span.at s.at s.count c.arity.result c.loop-left.work.items c.match-cell.work.items whole c.requires.good c.loop-left.invariant.sofar
          (omega (arith, c.loop-left-test.true)) (arity c) (seen c);
    }
