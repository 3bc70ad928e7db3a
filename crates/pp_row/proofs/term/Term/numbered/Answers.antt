use Rattle.std.proofs.Common.{ap, ◌∙◌, arith, rules}
use Rattle.std.specs.Prelude.{nat_eq}
use Rattle.pp_algebra.specs.Canon.{firsts, place}
use Rattle.pp_algebra.specs.Terms.{put, variable, variables}
use Rattle.pp_row.proofs.Renaming.{numbered_more, all_numbered}
use Rattle.pp_row.proofs.term.Term.numbered.Goals as goal

pub loop-i-preserved : goal.loop-i-preserved
loop-i-preserved c =
    let i = c.loop-i.invariant in
    let m = numbered_more c.self.inside.cells.items c.loop-i.cells.items c.loop-i.i c.args.names.now.keys c.loop-i.names.keys c.numbered_cell.new.names.keys c.index.result.now c.in_ok-cells.field-0 c.index.result.now (omega arith) i.names i.cells (search rules) c.in_ok-cells.ensures.names c.in_ok-cells.ensures.cell in
    record { names = m.0; cells = m.1 }

pub invariant_of-result : goal.invariant_of-result
invariant_of-result c =
    let i = c.loop-i.invariant in
    (all_numbered c.self.inside.cells.items c.loop-i.cells.items c.loop-i.i c.args.names.now.keys c.loop-i.names.keys c.self.invariant (omega arith) i.names i.cells).term

pub returns-clause-names : goal.returns-clause-names
returns-clause-names c =
    let i = c.loop-i.invariant in
    let a = all_numbered c.self.inside.cells.items c.loop-i.cells.items c.loop-i.i c.args.names.now.keys c.loop-i.names.keys c.self.invariant (omega arith) i.names i.cells in
    a.names ∙ ap (λ t. firsts nat_eq c.args.names.now.keys (variables t)) c.self.view_is

pub returns-clause-term : goal.returns-clause-term
returns-clause-term c =
    let i = c.loop-i.invariant in
    let a = all_numbered c.self.inside.cells.items c.loop-i.cells.items c.loop-i.i c.args.names.now.keys c.loop-i.names.keys c.self.invariant (omega arith) i.names i.cells in
    a.is ∙ ap (λ t. put (λ v. variable (place nat_eq c.loop-i.names.keys v)) t) c.self.view_is
