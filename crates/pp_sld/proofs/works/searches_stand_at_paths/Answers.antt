use Rattle.pp_sld.proofs.Standing.{root_stands, went_stands, chose_stands, back_stands, stands_at_leaves, stands_at_choice}
use Rattle.pp_sld.proofs.works.searches_stand_at_paths.Goals as goal

pub returns-clause-root : goal.returns-clause-root
returns-clause-root c = root_stands

pub returns-clause-built_in : goal.returns-clause-built_in
returns-clause-built_in c = went_stands

pub returns-clause-alternative : goal.returns-clause-alternative
returns-clause-alternative c = chose_stands

pub returns-clause-back : goal.returns-clause-back
returns-clause-back c = back_stands

pub returns-clause-leaves : goal.returns-clause-leaves
returns-clause-leaves c = stands_at_leaves

pub returns-clause-choice : goal.returns-clause-choice
returns-clause-choice c = stands_at_choice
