use Rattle.std.proofs.Common.{◌≡◌, ◌+◌, length, pos, arith, ap, sym, ◌∙◌, subst, get_or, true, false}
use Rattle.std.proofs.Math.ListN.{length-map}
use Rattle.std.specs.Prelude.{not}
use Rattle.pp_row.specs.contracts.cell.CellPartialEq.TheImpl.{eq-value}
use Rattle.pp_algebra.specs.Terms.{count, variables}
use Rattle.pp_algebra.specs.Rows.{domain_at, IsNumbered}
use Rattle.pp_algebra.specs.Least.{rest}
use Rattle.pp_row.specs.declared.cell.Cell.TheVariants.{Int}
use Rattle.pp_row.specs.Columns.{sets_of}
use Rattle.pp_row.specs.Reading.{tree_of}
use Rattle.pp_row.proofs.Next.{next}
use Rattle.pp_order.specs.Bindings.{terms}
use Rattle.pp_row.proofs.InStep.{is_forest, from_start, right_too, count_cell, count_term, nothing_left}
use Rattle.pp_order.proofs.Taking.{ahead_variable, ahead_term, cells_equal, cells_differ}
use Rattle.pp_order.proofs.Walking.{starts, started, no_further, step_variable, other_variable, step_cell, other_cell, at_end, ends_numbered}
use Rattle.pp_order.proofs.walk.covers_term.Goals as goal
use Rattle.pp_order.proofs.walk.covers_term.Goals.{in-Var+in_ok-bind+else-not-branch, in_default+else-ne}

pub loop-i-init : goal.loop-i-init
loop-i-init c =
    let e = from_start c.args.a.now c.cells-left.result.now c.cells-left.ensures.cells in
    let f = from_start c.args.b.now c.cells-right.result.now c.cells-right.ensures.cells in
    record {
      right = omega arith;
      same = ap count e ∙ sym (ap count f);
      bound = c.requires.bound;
      walked = rw (e, f) (starts (domain_at (sets_of c.args.general.now)) (domain_at (sets_of c.args.special.now)) (terms c.args.bound.now.items) _ _);
    }

pub term_from-term-requires-clause-whole : goal.term_from-term-requires-clause-whole
term_from-term-requires-clause-whole c = is_forest c.args.b.now c.cells-right.result.now c.cells-right.ensures.cells c.cells-right.ensures.term

pub term_from-term-requires-clause-within : goal.term_from-term-requires-clause-within
term_from-term-requires-clause-within c =
    let f = is_forest c.args.a.now c.cells-left.result.now c.cells-left.ensures.cells c.cells-left.ensures.term in
    let g = is_forest c.args.b.now c.cells-right.result.now c.cells-right.ensures.cells c.cells-right.ensures.term in
    right_too c.cells-left.result.now c.cells-right.result.now c.loop-i.i c.loop-i.j (Int (pos 0)) f g c.loop-i-test.true c.loop-i.invariant.same c.loop-i.invariant.right

pub bind-requires-clause-next : goal.bind-requires-clause-next
bind-requires-clause-next c =
    let cs = c.cells-left.result.now in
    let ds = c.cells-right.result.now in
    let f = is_forest c.args.a.now cs c.cells-left.ensures.cells c.cells-left.ensures.term in
    let g = is_forest c.args.b.now ds c.cells-right.ensures.cells c.cells-right.ensures.term in
    let l = c.loop-i-test.true in
    let m = right_too cs ds c.loop-i.i c.loop-i.j (Int (pos 0)) f g l c.loop-i.invariant.same c.loop-i.invariant.right in
    let x = c.term_from-term.ensures in
    let a = ahead_variable cs c.loop-i.i (Int (pos 0)) c.in-Var.variable f l c.in-Var.is in
    let b = ahead_term ds c.loop-i.j (c.loop-i.j + length c.term_from-term.result.now) (Int (pos 0)) (tree_of c.term_from-term.result.now) g m x.term x.ends in
    let k = no_further _ _ (terms c.args.bound.now.items) (terms c.loop-i.bound.items) _ _ _ _ c.loop-i.invariant.walked c.in-Var.variable _ _ _ a b c.requires.numbered.0 (started c.args.bound.now.items c.args.a.now c.requires.numbered.0 c.requires.numbered.1) in
    rw length-map at k

pub returns-then-not-branch-clause-apart : goal.returns-then-not-branch-clause-apart
returns-then-not-branch-clause-apart c = λ _.
    let cs = c.cells-left.result.now in
    let ds = c.cells-right.result.now in
    let f = is_forest c.args.a.now cs c.cells-left.ensures.cells c.cells-left.ensures.term in
    let g = is_forest c.args.b.now ds c.cells-right.ensures.cells c.cells-right.ensures.term in
    let l = c.loop-i-test.true in
    let m = right_too cs ds c.loop-i.i c.loop-i.j (Int (pos 0)) f g l c.loop-i.invariant.same c.loop-i.invariant.right in
    let x = c.term_from-term.ensures in
    let a = ahead_variable cs c.loop-i.i (Int (pos 0)) c.in-Var.variable f l c.in-Var.is in
    let b = ahead_term ds c.loop-i.j (c.loop-i.j + length c.term_from-term.result.now) (Int (pos 0)) (tree_of c.term_from-term.result.now) g m x.term x.ends in
    let k = no_further _ _ (terms c.args.bound.now.items) (terms c.loop-i.bound.items) _ _ _ _ c.loop-i.invariant.walked c.in-Var.variable _ _ _ a b c.requires.numbered.0 (started c.args.bound.now.items c.args.a.now c.requires.numbered.0 c.requires.numbered.1) in
    other_variable _ _ (terms c.args.bound.now.items) _ _ _ _ _ _ c.loop-i.bound.items c.bind.new.bound.items c.term_from-term.result c.in-Var.variable c.in_ok-bind.field-0 a b (rw length-map at k) c.loop-i.invariant.walked c.loop-i.invariant.bound c.in_ok-bind.ensures.old c.in_ok-bind.ensures.new (λ h. absurd (cc (h, c.if-not-branch.true)))

pub bounds-right-j : goal.bounds-right-j
bounds-right-j c =
    let f = is_forest c.args.a.now c.cells-left.result.now c.cells-left.ensures.cells c.cells-left.ensures.term in
    let g = is_forest c.args.b.now c.cells-right.result.now c.cells-right.ensures.cells c.cells-right.ensures.term in
    right_too c.cells-left.result.now c.cells-right.result.now c.loop-i.i c.loop-i.j (Int (pos 0)) f g c.loop-i-test.true c.loop-i.invariant.same c.loop-i.invariant.right

pub returns-then-ne-clause-apart : goal.returns-then-ne-clause-apart
returns-then-ne-clause-apart c = λ _.
    let cs = c.cells-left.result.now in
    let ds = c.cells-right.result.now in
    let f = is_forest c.args.a.now cs c.cells-left.ensures.cells c.cells-left.ensures.term in
    let g = is_forest c.args.b.now ds c.cells-right.ensures.cells c.cells-right.ensures.term in
    let l = c.loop-i-test.true in
    let m = right_too cs ds c.loop-i.i c.loop-i.j (Int (pos 0)) f g l c.loop-i.invariant.same c.loop-i.invariant.right in
    let x = get_or cs c.loop-i.i (Int (pos 0)) in
    let y = get_or ds c.loop-i.j (Int (pos 0)) in
    let e : c.ne.result ≡ not (eq-value.it x y) = c.ne.ensures in
    other_cell _ _ (terms c.args.bound.now.items) (terms c.loop-i.bound.items) _ _ _ _ c.loop-i.invariant.walked x y _ _ (next cs c.loop-i.i (Int (pos 0)) f l) (next ds c.loop-i.j (Int (pos 0)) g m) c.in_default.not-Var (cells_differ x y c.ne.result e c.if-ne.true)

pub loop-i-preserved : goal.loop-i-preserved
loop-i-preserved c =
    let cs = c.cells-left.result.now in
    let ds = c.cells-right.result.now in
    let f = is_forest c.args.a.now cs c.cells-left.ensures.cells c.cells-left.ensures.term in
    let g = is_forest c.args.b.now ds c.cells-right.ensures.cells c.cells-right.ensures.term in
    let l = c.loop-i-test.true in
    let i = c.loop-i.invariant in
    let m = right_too cs ds c.loop-i.i c.loop-i.j (Int (pos 0)) f g l i.same i.right in
    elim c.match-left-i.branch [
      | in-Var+in_ok-bind+else-not-branch w ↦ (
          let x = w.term_from-term.ensures in
          let a = ahead_variable cs c.loop-i.i (Int (pos 0)) w.in-Var.variable f l w.in-Var.is in
          let b = ahead_term ds c.loop-i.j (c.loop-i.j + length w.term_from-term.result.now) (Int (pos 0)) (tree_of w.term_from-term.result.now) g m x.term x.ends in
          let k = no_further _ _ (terms c.args.bound.now.items) (terms c.loop-i.bound.items) _ _ _ _ i.walked w.in-Var.variable _ _ _ a b c.requires.numbered.0 (started c.args.bound.now.items c.args.a.now c.requires.numbered.0 c.requires.numbered.1) in
          rw (w.bound-is, w.j-is) (record {
            right = x.within;
            same = ap (λ ts. count (rest ts)) (sym a) ∙ count_term cs ds c.loop-i.i c.loop-i.j (Int (pos 0)) f g l i.same m ∙ sym (ap count x.ends);
            bound = w.in_ok-bind.ensures.bound;
            walked = step_variable _ _ (terms c.args.bound.now.items) _ _ _ _ _ _ c.loop-i.bound.items w.bind.new.bound.items w.term_from-term.result w.in-Var.variable w.in_ok-bind.field-0 a b (rw length-map at k) i.walked i.bound w.in_ok-bind.ensures.old w.in_ok-bind.ensures.new w.if-not-branch.false;
          })
          )
      | in_default+else-ne w ↦ (
          let x = get_or cs c.loop-i.i (Int (pos 0)) in
          let y = get_or ds c.loop-i.j (Int (pos 0)) in
          let e : w.ne.result ≡ not (eq-value.it x y) = w.ne.ensures in
          let h : x ≡ y = cells_equal x y w.ne.result e w.if-ne.false in
          rw (w.bound-is, w.j-is) (record {
            right = omega (arith, m);
            same = count_cell cs ds c.loop-i.i c.loop-i.j (Int (pos 0)) f g l i.same m h;
            bound = i.bound;
            walked = step_cell _ _ (terms c.args.bound.now.items) (terms c.loop-i.bound.items) _ _ _ _ i.walked x y _ _ (next cs c.loop-i.i (Int (pos 0)) f l) (next ds c.loop-i.j (Int (pos 0)) g m) w.in_default.not-Var h;
          })
          )
    ]

pub returns-clause-numbered : goal.returns-clause-numbered
returns-clause-numbered c = λ _ m h.
    let cs = c.cells-left.result.now in
    let f = is_forest c.args.a.now cs c.cells-left.ensures.cells c.cells-left.ensures.term in
    let e = nothing_left cs c.cells-right.result.now c.loop-i.i c.loop-i.j f c.loop-i-test.false c.loop-i.auto.i-end c.loop-i.invariant.same in
    let r = ends_numbered _ _ (terms c.args.bound.now.items) (terms c.loop-i.bound.items) c.args.a.now _ _ _ c.loop-i.invariant.walked e.0 m (subst (λ n. IsNumbered n (variables c.args.a.now) m) (sym (length-map c.args.bound.now.items _)) h) in
    rw length-map at r

pub returns-clause-covers : goal.returns-clause-covers
returns-clause-covers c = λ _ s.
    let cs = c.cells-left.result.now in
    let f = is_forest c.args.a.now cs c.cells-left.ensures.cells c.cells-left.ensures.term in
    let e = nothing_left cs c.cells-right.result.now c.loop-i.i c.loop-i.j f c.loop-i-test.false c.loop-i.auto.i-end c.loop-i.invariant.same in
    at_end _ _ (terms c.args.bound.now.items) (terms c.loop-i.bound.items) _ _ _ _ c.loop-i.invariant.walked e.0 e.1 s
