use Rattle.std.proofs.Common.{refl, sym, subst, Option, MatchOption}
use Rattle.std.proofs.lemmas.List.Elements.{All-map}
use Rattle.pp_propagation.specs.Stores.{Begins, BeginsNowhere}
use Rattle.pp_propagation.specs.Watchers.{HasRoom}
use Rattle.pp_term.specs.Meanings.{program}
use Rattle.pp_store.proofs.Opening.{on_err}
use Rattle.pp_store.specs.Kept.{Kept}
use Rattle.pp_store.specs.Queries.{query_by}
use Rattle.pp_run.specs.Made.{IsRan}
use Rattle.pp_run.proofs.Running.{nowhere_ran, table_noted, table_ran, table_ran_noted}
use Rattle.pp_run.proofs.run.run_with.Goals as goal

pub returns-in-None-clause-run : goal.returns-in-None-clause-run
returns-in-None-clause-run g c =
    let q = query_by c.args.query.now in
    let none = subst (λ (o : Option Kept). MatchOption o (BeginsNowhere q) (λ s. Begins q s.row)) c.in-None.is c.in_ok-begin.ensures.begins in
    subst (IsRan (program c.args.clauses) q c.args.settings _ _) (sym c.no_run.ensures) (nowhere_ran (program c.args.clauses) c.args.settings _ _ q (All-map HasRoom _ _ c.requires.room) refl none)

pub returns-in_err-fixed-clause-noted : goal.returns-in_err-fixed-clause-noted
returns-in_err-fixed-clause-noted g c =
    let q = query_by c.args.query.now in
    let begun = subst (λ (o : Option Kept). MatchOption o (BeginsNowhere q) (λ s. Begins q s.row)) c.in-Some.is c.in_ok-begin.ensures.begins in
    on_err c.from_residual-in_err-fixed.result _ (table_noted c.in_ok-table.table c.args.clauses c.in_ok-table.ensures c.args.settings _ _ c.args.query.now c.in-Some.store.row c.fix_with.new.store.row begun c.in_err-fixed.ensures.whole)

pub returns-in_err-row-clause-noted : goal.returns-in_err-row-clause-noted
returns-in_err-row-clause-noted g c =
    let q = query_by c.args.query.now in
    let begun = subst (λ (o : Option Kept). MatchOption o (BeginsNowhere q) (λ s. Begins q s.row)) c.in-Some.is c.in_ok-begin.ensures.begins in
    on_err c.from_residual-in_err-row.result _ (table_ran_noted c.in_ok-table.table c.args.clauses c.in_ok-table.ensures c.args.settings _ _ c.args.query.now c.in-Some.store.row c.fix_with.new.store.row begun c.in_ok-fixed.fixed (All-map HasRoom _ _ c.requires.room) c.in_ok-fixed.ensures.run)

pub returns-clause-run : goal.returns-clause-run
returns-clause-run g c =
    let q = query_by c.args.query.now in
    let begun = subst (λ (o : Option Kept). MatchOption o (BeginsNowhere q) (λ s. Begins q s.row)) c.in-Some.is c.in_ok-begin.ensures.begins in
    table_ran c.in_ok-table.table c.args.clauses c.in_ok-table.ensures c.args.settings _ _ c.args.query.now c.in-Some.store.row c.fix_with.new.store.row begun c.in_ok-fixed.fixed c.in_ok-row.row c.in_ok-row.ensures c.in_ok-fixed.ensures.run
