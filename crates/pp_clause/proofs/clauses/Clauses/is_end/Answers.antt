use Rattle.std.proofs.Common.{◌<◌, ◌≤◌, None, ap, sym, ◌∙◌, length, subst, refl, rules}
use Rattle.std.proofs.lemmas.Option.{slice_get_read}
use Rattle.pp_term.specs.Meanings.{predicate_of, program}
use Rattle.pp_clause.specs.Predicates.{Names}
use Rattle.pp_clause.specs.Table.{tops}
use Rattle.pp_clause.proofs.Groups.{named, unnamed}
use Rattle.pp_clause.proofs.Places.{answer, left_out_none}
use Rattle.pp_clause.proofs.clauses.Clauses.is_end.Goals as goal

pub returns-then-predicate-len : goal.returns-then-predicate-len
returns-then-predicate-len c t p h =
    let s = c.self.inside in
    let gs = s.groups.items in
    let g = c.index.result.now in
    let l : c.args.predicate < length gs = search rules in
    let e = named s.clauses.items gs c.args.predicate p g c.self.invariant.groups (subst (λ cs. Names cs c.args.predicate p) (sym c.self.view_is) h) (slice_get_read gs (length gs) c.args.predicate g refl l c.index.ensures) in
    answer c.args.first c.args.self.now p c.args.from None g.1 (ap (λ f. f.1) e ∙ ap (λ cs. tops (program cs (predicate_of p))) c.self.view_is) (c.is_end.ensures t)

pub returns-else-predicate-len : goal.returns-else-predicate-len
returns-else-predicate-len c t p h =
    let s = c.self.inside in
    let l : length s.groups.items ≤ c.args.predicate = search rules in
    let e = unnamed s.clauses.items s.groups.items c.args.predicate p c.self.invariant.groups (subst (λ cs. Names cs c.args.predicate p) (sym c.self.view_is) h) l in
    left_out_none c.args.first (program c.args.self.now (predicate_of p)) c.args.from (length (program c.args.self.now (predicate_of p))) (ap (λ cs. program cs (predicate_of p)) (sym c.self.view_is) ∙ e)
