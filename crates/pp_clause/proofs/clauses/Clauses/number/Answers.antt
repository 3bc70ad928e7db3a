use Rattle.std.proofs.Common.{◌<◌, ◌∙◌, ap, sym, length, arith, subst, refl}
use Rattle.std.specs.Prelude.{slice_get}
use Rattle.std.proofs.lemmas.Option.{slice_get_read}
use Rattle.pp_term.specs.Meanings.{predicate_of, program}
use Rattle.pp_clause.specs.Places.{IsClauseAt}
use Rattle.pp_clause.specs.Predicates.{Names}
use Rattle.pp_clause.proofs.Groups.{named, group_there, length-same}
use Rattle.pp_clause.proofs.Places.{clause_at}
use Rattle.pp_clause.proofs.clauses.Clauses.number.Goals as goal

pub index-requires : goal.index-requires
index-requires c =
    let s = c.self.inside in
    let p = c.requires.0 in
    let h = subst (λ cs. Names cs c.args.predicate p) (sym c.self.view_is) c.requires.1 in
    let w = subst (λ cs. c.args.place < length (program cs (predicate_of p))) (sym c.self.view_is) c.requires.2 in
    omega (arith, group_there s.clauses.items s.groups.items c.args.predicate c.args.place p c.self.invariant.groups h w)

pub number-requires : goal.number-requires
number-requires c =
    let s = c.self.inside in
    let gs = s.groups.items in
    let g = c.index.result.now in
    let p = c.requires.0 in
    let h = subst (λ cs. Names cs c.args.predicate p) (sym c.self.view_is) c.requires.1 in
    let w = subst (λ cs. c.args.place < length (program cs (predicate_of p))) (sym c.self.view_is) c.requires.2 in
    let l = group_there s.clauses.items gs c.args.predicate c.args.place p c.self.invariant.groups h w in
    let e = named s.clauses.items gs c.args.predicate p g c.self.invariant.groups h (slice_get_read gs (length gs) c.args.predicate g refl l c.index.ensures) in
    omega (arith, w, length-same s.clauses.items p g e)

pub returns-clause-within : goal.returns-clause-within
returns-clause-within c =
    let s = c.self.inside in
    let gs = s.groups.items in
    let g = c.index.result.now in
    let p = c.requires.0 in
    let h = subst (λ cs. Names cs c.args.predicate p) (sym c.self.view_is) c.requires.1 in
    let w = subst (λ cs. c.args.place < length (program cs (predicate_of p))) (sym c.self.view_is) c.requires.2 in
    let l = group_there s.clauses.items gs c.args.predicate c.args.place p c.self.invariant.groups h w in
    let e = named s.clauses.items gs c.args.predicate p g c.self.invariant.groups h (slice_get_read gs (length gs) c.args.predicate g refl l c.index.ensures) in
    let r = clause_at p s.clauses.items c.args.place c.number.result c.self.invariant.formed (ap (λ f. slice_get f.0 c.args.place) (sym e) ∙ c.number.ensures) in
    subst (λ cs. c.number.result < length cs) c.self.view_is r.1.within

pub returns-clause-clause : goal.returns-clause-clause
returns-clause-clause c = λ p k.
    let s = c.self.inside in
    let gs = s.groups.items in
    let g = c.index.result.now in
    let q = c.requires.0 in
    let w = subst (λ cs. c.args.place < length (program cs (predicate_of q))) (sym c.self.view_is) c.requires.2 in
    let l = group_there s.clauses.items gs c.args.predicate c.args.place q c.self.invariant.groups (subst (λ cs. Names cs c.args.predicate q) (sym c.self.view_is) c.requires.1) w in
    let h = subst (λ cs. Names cs c.args.predicate p) (sym c.self.view_is) k in
    let e = named s.clauses.items gs c.args.predicate p g c.self.invariant.groups h (slice_get_read gs (length gs) c.args.predicate g refl l c.index.ensures) in
    let r = clause_at p s.clauses.items c.args.place c.number.result c.self.invariant.formed (ap (λ f. slice_get f.0 c.args.place) (sym e) ∙ c.number.ensures) in
    (r.0, subst (λ cs. IsClauseAt cs p c.args.place c.number.result r.0) c.self.view_is r.1)
