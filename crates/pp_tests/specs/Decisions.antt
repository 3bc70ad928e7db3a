-- What the plain values of built-ins stand for in the definitions of search.
use Rattle.pp_sld.specs.BuiltIns as builtins
use Rattle.pp_tests.specs.declared.built_in.Test.{Test}
use Rattle.pp_tests.specs.declared.built_in.Test.TheVariants.{Less, AtMost, Equal, Differ, Plus, Times, Indomain}
use Rattle.pp_tests.specs.declared.built_in.Decision.{Decision}
use Rattle.pp_tests.specs.declared.built_in.Decision.TheVariants.{Wait, Fail, Hold, Bind, Split}

abbrev pub test_of : Test → builtins.Test
test_of Less = builtins.less
test_of AtMost = builtins.at_most
test_of Equal = builtins.equal
test_of Differ = builtins.differ
test_of Plus = builtins.plus
test_of Times = builtins.times
test_of Indomain = builtins.indomain

abbrev pub decision_of : Decision → builtins.Decision
decision_of Wait = builtins.wait
decision_of Fail = builtins.fail
decision_of Hold = builtins.hold
decision_of (Bind i n) = builtins.bind i n
decision_of Split = builtins.split
