use Rattle.std.proofs.Common.{◌≡◌, ap, sym, subst, false, length, arith, ◌<◌, MatchOption}
use Rattle.pp_clause.specs.declared.first.First.TheVariants.{Free}
use Rattle.pp_clause.specs.Firsts.{same_first}
use Rattle.pp_clause.specs.Index.{Ascends, IsNextIn, places_of, earlier}
use Rattle.pp_clause.specs.Table.{AreOut, IsNextTop}
use Rattle.pp_clause.proofs.Tops.{ascends, earlier_both, both_lists, eq_same, small}
use Rattle.pp_clause.proofs.index.Index.indexed.Goals as goal

pub next_in-requires : goal.next_in-requires
next_in-requires c = subst Ascends (sym c.places.ensures) (ascends c.args.first 0 c.args.self.now)

pub next_in-requires-2 : goal.next_in-requires-2
next_in-requires-2 c = subst Ascends (sym c.places-2.ensures) (ascends Free 0 c.args.self.now)

pub returns-clause-place : goal.returns-clause-place
returns-clause-place c =
    let ts = c.args.self.now in
    let f = c.args.first in
    let a = subst (λ xs. IsNextIn xs c.args.from c.next_in.result) c.places.ensures c.next_in.ensures in
    let b = subst (λ xs. IsNextIn xs c.args.from c.next_in-2.result) c.places-2.ensures c.next_in-2.ensures in
    let apart : same_first f Free ≡ false = sym (subst (λ d. false ≡ d f Free) eq_same c.if-eq.ensures) in
    subst (λ o. MatchOption o (AreOut f ts c.args.from (length ts)) (IsNextTop f ts c.args.from)) (sym c.earlier.ensures)
    (both_lists f ts c.args.from apart (earlier c.next_in.result c.next_in-2.result) (earlier_both (places_of f 0 ts) (places_of Free 0 ts) c.args.from c.next_in.result c.next_in-2.result a b))

pub returns-clause-small : goal.returns-clause-small
returns-clause-small c =
    let ts = c.args.self.now in
    let l : length ts < 4294967296 = omega (arith, c.self.invariant.0, ap length c.self.view_is) in
    small c.args.first ts c.args.from (AreOut c.args.first ts c.args.from (length ts)) c.earlier.result l (returns-clause-place c)
