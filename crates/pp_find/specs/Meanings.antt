-- What findings and verdicts stand for in the definitions of search.
use Rattle.std.specs.Prelude.{◌≡◌, Bool, Option, Some, None}
use Rattle.pp_algebra.specs.Terms.{count}
use Rattle.pp_algebra.specs.Rows.{Row}
use Rattle.pp_sld.specs.Lattice.{Fits}
use Rattle.pp_sld.specs.Findings as sld
use Rattle.pp_sld.specs.Verdicts as verdicts
use Rattle.pp_find.specs.declared.finding.Sole.{Sole}
use Rattle.pp_find.specs.declared.finding.Sole.TheVariants as soles
use Rattle.pp_find.specs.declared.finding.Finding.{Finding}
use Rattle.pp_find.specs.declared.finding.Finding.TheVariants.{Most, Unique, Consistent}
use Rattle.pp_find.specs.declared.verdict.Verdict.{Verdict}
use Rattle.pp_find.specs.declared.verdict.Verdict.TheVariants.{Fail, Same, Nothing, Unfinished, Narrow}

abbrev pub sole_by : Sole → sld.Sole
sole_by soles.None = sld.no_row
sole_by (soles.One r) = sld.one_row r
sole_by soles.Two = sld.two_rows

abbrev pub sole_to : sld.Sole → Sole
sole_to sld.no_row = soles.None
sole_to (sld.one_row r) = soles.One r
sole_to sld.two_rows = soles.Two

abbrev pub finding_by : Finding → sld.Finding
finding_by (Most g h) = sld.finds_most g h
finding_by (Unique s b) = sld.finds_unique (sole_by s) b
finding_by (Consistent a b) = sld.finds_consistent a b

abbrev pub finding_to : sld.Finding → Finding
finding_to (sld.finds_most g h) = Most g h
finding_to (sld.finds_unique s b) = Unique (sole_to s) b
finding_to (sld.finds_consistent a b) = Consistent a b

abbrev pub verdict_to : verdicts.Verdict → Verdict
verdict_to verdicts.fail = Fail
verdict_to verdicts.same = Same
verdict_to verdicts.nothing = Nothing
verdict_to verdicts.unfinished = Unfinished
verdict_to (verdicts.narrow r) = Narrow r

abbrev pub joined : Finding → Finding → Finding
joined a b = finding_to (sld.join_finding (finding_by a) (finding_by b))

abbrev pub none_yet : verdicts.Mode → Finding
none_yet m = finding_to (sld.empty m)

abbrev pub FitsIn : verdicts.Mode → Row → Finding → Type 0
FitsIn m call a = Fits m call (finding_by a)

abbrev pub settled_by : Row → Finding → Bool
settled_by call a = sld.settled call (finding_by a)

abbrev pub outcome_by : Row → Finding → Verdict
outcome_by call a = verdict_to (sld.outcome call (finding_by a))

-- rows of as many columns, where both are there
abbrev pub AreAlike : Option Row → Option Row → Type 0
AreAlike None p = Unit {0}
AreAlike (Some r) None = Unit {0}
AreAlike (Some r) (Some q) = count r.columns ≡ count q.columns

abbrev pub PartsAlike : Finding → Finding → Type 0
PartsAlike (Most g h) (Most k l) = AreAlike g k × AreAlike h l
PartsAlike (Most g h) (Unique t c) = Unit {0}
PartsAlike (Most g h) (Consistent a c) = Unit {0}
PartsAlike (Unique s b) y = Unit {0}
PartsAlike (Consistent a b) y = Unit {0}

abbrev pub verdict_by : Verdict → verdicts.Verdict
verdict_by Fail = verdicts.fail
verdict_by Same = verdicts.same
verdict_by (Narrow r) = verdicts.narrow r
verdict_by Nothing = verdicts.nothing
verdict_by Unfinished = verdicts.unfinished
