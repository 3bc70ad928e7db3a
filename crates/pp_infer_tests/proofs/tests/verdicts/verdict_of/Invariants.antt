use Rattle.pp_infer_tests.proofs.tests.verdicts.verdict_of.Given as goal

abbrev pub ghosts-inferred : goal.ghosts-inferred
ghosts-inferred g a = record { name = a.blank.name; parts = a.blank.parts }
