use Rattle.std.proofs.Common.{◌<◌, ◌≤◌, ap, sym, ◌∙◌, length, subst, refl, rules}
use Rattle.std.proofs.lemmas.Option.{slice_get_read}
use Rattle.pp_term.specs.Meanings.{predicate_of, program}
use Rattle.pp_clause.specs.Predicates.{Names}
use Rattle.pp_clause.proofs.Groups.{named, unnamed, length-same}
use Rattle.pp_clause.proofs.clauses.Clauses.count_at.Goals as goal

pub returns-then-predicate-len : goal.returns-then-predicate-len
returns-then-predicate-len c = λ p h.
    let s = c.self.inside in
    let gs = s.groups.items in
    let g = c.index.result.now in
    let l : c.args.predicate < length gs = search rules in
    let e = named s.clauses.items gs c.args.predicate p g c.self.invariant.groups (subst (λ cs. Names cs c.args.predicate p) (sym c.self.view_is) h) (slice_get_read gs (length gs) c.args.predicate g refl l c.index.ensures) in
    c.len-then-predicate-len.ensures.len ∙ length-same s.clauses.items p g e ∙ ap (λ cs. length (program cs (predicate_of p))) c.self.view_is

pub returns-else-predicate-len : goal.returns-else-predicate-len
returns-else-predicate-len c = λ p h.
    let s = c.self.inside in
    let l : length s.groups.items ≤ c.args.predicate = search rules in
    let e = unnamed s.clauses.items s.groups.items c.args.predicate p c.self.invariant.groups (subst (λ cs. Names cs c.args.predicate p) (sym c.self.view_is) h) l in
    sym (ap (λ cs. length (program cs (predicate_of p))) (sym c.self.view_is) ∙ ap length e)
