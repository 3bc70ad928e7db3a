use Rattle.std.proofs.Common.{arith, sym, ap, ◌∙◌, subst}
use Rattle.pp_term.specs.declared.query.Query.{Query}
use Rattle.pp_store.specs.Naming.{AreCandidates}
use Rattle.pp_store.proofs.Candidates.{candidates_are}
use Rattle.pp_store.proofs.goals.GoalIndex.naming.Goals as goal

pub gather-requires : goal.gather-requires
gather-requires c = record { within = λ v i. (let l = c.requires.within v i in omega (arith, l, ap (λ (q : Query). q.vars) c.self.view_is, c.self.invariant.count)) }

pub returns : goal.returns
returns c =
    subst (λ q. AreCandidates q c.args.variables.now c.in_ok-from_slice.field-0.items) c.self.view_is
    (subst (AreCandidates c.self.inside.query.now c.args.variables.now) (sym (c.in_ok-from_slice.ensures.items ∙ c.as_slice.ensures.keys))
    (candidates_are c.self.inside.query.now c.self.inside.asked.items c.self.inside.naming c.args.variables.now c.in_ok-numbers.numbers.keys c.sort.new.self.keys c.self.invariant c.in_ok-numbers.ensures c.in_ok-sort.ensures.sorted c.in_ok-sort.ensures.unique c.in_ok-sort.ensures.reordered.2))
