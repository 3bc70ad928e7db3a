-- A machine as its clauses and the place where it stands.
use Rattle.std.specs.Prelude.{List, refl}
use Rattle.std.specs.Coded.{Coded, code_by, coded×, coded_list}
use Rattle.pp_term.specs.declared.clause.Clause.{Clause}
use Rattle.pp_term.specs.contracts.clause.Clause as clause
use Rattle.pp_walk.specs.Places.{Place, place_code}
use Rattle.pp_resolve.specs.declared.engine.Engine.{Engine}
use Rattle.pp_resolve.specs.Engines.{place_of}

pub record Searching : Type 0 where
  pub clauses : List Clause
  pub place : Place

abbrev pub searching_of : Engine → Searching
searching_of e = record { clauses = e.clauses.now; place = place_of e }

abbrev pub searching_code : Coded Searching
searching_code = code_by (List Clause × Place) (coded× (coded_list clause.the_row.coded) place_code)
    (λ s. (s.clauses, s.place)) (λ p. record { clauses = p.0; place = p.1 }) (λ _. refl)
