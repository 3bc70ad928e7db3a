use Rattle.std.proofs.Common.{◌≡◌, map}
use Rattle.std.specs.Prelude.{nat_eq}
use Rattle.pp_algebra.specs.Terms.{put}
use Rattle.pp_algebra.specs.Canon.{firsts}
use Rattle.pp_build.specs.Renumbered.{variables_in, placed}
use Rattle.pp_build.proofs.renumber.number_terms.Given as goal

abbrev pub invariant-loop-term : goal.invariant-loop-term
invariant-loop-term l = record {
  seen : l.seen.keys ≡ firsts nat_eq l.initial.seen.keys (variables_in l.yielded);
  terms : l.numbered.items ≡ map (put (placed l.seen.keys)) l.yielded;
}
