use Rattle.pp_roundtrip.proofs.TextNames.{no_other_atoms, names_of_texts}
use Rattle.pp_roundtrip.proofs.laws.read_names_are_printed.Goals as goal

pub returns-clause-needed : goal.returns-clause-needed
returns-clause-needed c = no_other_atoms

pub returns-clause-met : goal.returns-clause-met
returns-clause-met c = names_of_texts
