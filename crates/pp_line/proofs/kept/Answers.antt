use Rattle.clap.specs.Words.{found_of}
use Rattle.pp_line.proofs.Read.{kept_is}
use Rattle.pp_line.proofs.kept.Goals as goal

pub returns : goal.returns
returns c = kept_is (found_of c.args.matches.now) c.args.name.now c.get_raw.result c.get_raw.ensures
