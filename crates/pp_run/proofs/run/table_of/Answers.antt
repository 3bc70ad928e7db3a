use Rattle.std.proofs.Common.{◌≡◌, ◌++◌, ◌∷◌, [], All, ap, sym, ◌∙◌, subst, append_assoc, rules}
use Rattle.std.proofs.lemmas.List.Elements.{All-tail}
use Rattle.pp_term.specs.WellFormed.{IsClause}
use Rattle.pp_run.proofs.run.table_of.Goals as goal

pub loop-clause-preserved : goal.loop-clause-preserved
loop-clause-preserved c =
    let s = c.in-Some.ensures.steps in
    let left = c.next.new.self.rest.items in
    let t : c.loop-clause.clause-iterator.rest.items ≡ c.in-Some.clause ∷ left = search rules in
    record {
      table =
          ap (λ table. table ++ left) c.in_ok-add.ensures.added
          ∙ append_assoc c.loop-clause.table (c.in-Some.clause ∷ []) left
          ∙ ap (λ later. c.loop-clause.table ++ later) (sym t)
          ∙ c.loop-clause.invariant.table;
      formed = All-tail IsClause c.in-Some.clause left (subst (All IsClause) t c.loop-clause.invariant.formed);
    }
