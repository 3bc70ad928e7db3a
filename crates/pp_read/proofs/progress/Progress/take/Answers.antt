use Rattle.std.proofs.Common.{length, refl, subst}
use Rattle.pp_read.specs.Sentences.{IsMade}
use Rattle.pp_read.proofs.Progressing.{after_directive, after_clause, after_query, after_over_clause, after_over_query}
use Rattle.pp_read.proofs.progress.Progress.take.Goals as goal

pub returns-in-Directive : goal.returns-in-Directive
returns-in-Directive c =
    λ names ss s h m q. after_directive names ss c.args.self.now h q s (subst (IsMade names (length c.args.self.now.clauses.items) s) c.in-Directive.is m)

pub returns-in_ok-push-in-Clause : goal.returns-in_ok-push-in-Clause
returns-in_ok-push-in-Clause c =
    λ names ss s h m q. after_clause names ss c.args.self.now h q s c.in-Clause.clause _ (subst (IsMade names (length c.args.self.now.clauses.items) s) c.in-Clause.is m) c.in_ok-push-in-Clause.ensures.items refl refl refl

pub returns-in-Query : goal.returns-in-Query
returns-in-Query c =
    λ names ss s h m q. after_query names ss c.args.self.now h q s c.in-Query.query _ (subst (IsMade names (length c.args.self.now.clauses.items) s) c.in-Query.is m) refl refl refl refl

pub returns-in-OverClause : goal.returns-in-OverClause
returns-in-OverClause c =
    λ names ss s h m q.
    let e = c.pass.ensures in
    after_over_clause names ss c.args.self.now h q s c.in-OverClause.which _ (subst (IsMade names (length c.args.self.now.clauses.items) s) c.in-OverClause.is m) e.clauses e.asked e.passed

pub returns-in-OverQuery : goal.returns-in-OverQuery
returns-in-OverQuery c =
    λ names ss s h m q.
    let e = c.pass-in-OverQuery.ensures in
    after_over_query names ss c.args.self.now h q s c.in-OverQuery.which _ (subst (IsMade names (length c.args.self.now.clauses.items) s) c.in-OverQuery.is m) e.clauses e.asked e.passed
