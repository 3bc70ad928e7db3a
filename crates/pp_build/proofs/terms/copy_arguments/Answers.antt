use Rattle.std.proofs.Common.{ap, ◌∙◌, arith}
use Rattle.pp_row.specs.Reading.{from}
use Rattle.pp_algebra.specs.Terms.{join}
use Rattle.pp_row.specs.Columns.{trees_of}
use Rattle.pp_build.proofs.Arguments.{some_cells, arguments_from, argument, argument_pushed, arguments_whole}
use Rattle.pp_build.proofs.terms.copy_arguments.Goals as goal
use Rattle.pp_row.proofs.OneTerm.{one_is_forest}

pub loop-start-init : goal.loop-start-init
loop-start-init c = record {
  within = omega (arith, some_cells c.args.cells.now c.requires);
  are = ap (λ ts. join (trees_of ts) (from c.args.cells.now 1)) c.new-terms.ensures.items ∙ arguments_from c.args.cells.now c.requires;
}

pub end_of-end-requires-clause-whole : goal.end_of-end-requires-clause-whole
end_of-end-requires-clause-whole c = one_is_forest c.args.cells.now c.requires

pub copy_term-requires : goal.copy_term-requires
copy_term-requires c =
    let e = c.end_of-end.ensures in
    (argument c.args.cells.now c.loop-start.start c.end_of-end.result c.requires c.loop-start-test.true e.ends e.later e.within).one

pub loop-start-preserved : goal.loop-start-preserved
loop-start-preserved c =
    let e = c.end_of-end.ensures in
    record {
      within = e.within;
      are =
          argument_pushed c.args.cells.now c.loop-start.start c.end_of-end.result _ _ _ _
          (argument c.args.cells.now c.loop-start.start c.end_of-end.result c.requires c.loop-start-test.true e.ends e.later e.within)
          c.in_ok-copy_term.ensures c.in_ok-push.ensures.items c.loop-start.invariant.are;
    }

pub returns : goal.returns
returns c = ap trees_of c.from_vec.ensures ∙ arguments_whole c.args.cells.now c.loop-start.start c.loop-start.terms.items _ c.loop-start-test.false c.loop-start.invariant.are
