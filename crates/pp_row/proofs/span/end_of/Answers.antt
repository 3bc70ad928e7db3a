use Rattle.std.proofs.Common.{◌≡◌, ◌+◌, ◌-◌, ◌≤◌, ◌<◌, ℕ, length, arith, refl, ap, ◌∙◌, pos}
use Rattle.pp_row.specs.declared.cell.Cell.TheVariants.{Int}
use Rattle.pp_algebra.specs.Terms.{Trees, none, more, count, join}
use Rattle.pp_algebra.specs.Least.{first, rest}
use Rattle.pp_row.specs.Reading.{from}
use Rattle.pp_row.proofs.Next.{next, opens, count_from}
use Rattle.pp_algebra.proofs.Joined.{count-join}
use Rattle.pp_row.proofs.span.end_of.Goals as goal

closed : (ps r : Trees ℕ) → count ps ≤ 0 → join ps r ≡ r
closed none r h = refl
closed (more p ps) r h = absurd (omega arith)

pub loop-need-init : goal.loop-need-init
loop-need-init c =
    let n = next c.args.cells.now c.args.start (Int (pos 0)) c.requires.whole c.requires.within in
    record { within = omega arith; moved = omega arith; few = omega arith; inside = (more (first (from c.args.cells.now c.args.start)) none, n.some, refl) }

pub loop-need-preserved : goal.loop-need-preserved
loop-need-preserved c =
    let i = c.loop-need.invariant in
    let l : c.loop-need.end < length c.args.cells.now = omega arith in
    let o = opens c.args.cells.now c.loop-need.end (Int (pos 0)) i.inside.0 (rest (from c.args.cells.now c.args.start)) c.requires.whole l i.inside.1 (omega (arith, i.inside.2)) in
    let b = count_from c.args.cells.now (c.loop-need.end + 1) c.requires.whole (omega arith) in
    let j : count o.0 ≤ count (from c.args.cells.now (c.loop-need.end + 1)) = omega (arith, ap count o.1, count-join o.0 (rest (from c.args.cells.now c.args.start))) in
    let q : count o.0 ≡ c.loop-need.need - 1 + c.arity.result = omega (arith, o.2, i.inside.2, c.arity.ensures) in
    record { within = omega arith; moved = omega arith; few = omega (arith, b, j, q); inside = (o.0, o.1, q) }

pub returns-clause-ends : goal.returns-clause-ends
returns-clause-ends c =
    let i = c.loop-need.invariant in
    i.inside.1 ∙ closed i.inside.0 (rest (from c.args.cells.now c.args.start)) (omega (arith, i.inside.2))
