use Rattle.pp_roundtrip.proofs.Facts.{read_as_fact}
use Rattle.pp_roundtrip.proofs.ReadBack.{read_alone, read_among, own_names}
use Rattle.pp_roundtrip.proofs.laws.printed_terms_are_read_back.Goals as goal

pub returns-clause-alone : goal.returns-clause-alone
returns-clause-alone c = read_alone

pub returns-clause-among : goal.returns-clause-among
returns-clause-among c = read_among

pub returns-clause-variables : goal.returns-clause-variables
returns-clause-variables c = own_names

pub returns-clause-fact : goal.returns-clause-fact
returns-clause-fact c = read_as_fact
