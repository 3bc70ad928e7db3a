-- Worked examples of words: which ask for a command, and which are answered by the usage line.
use Rattle.std.specs.Prelude.{true, false, [], ◌∷◌, codes}
use Rattle.pp_language.specs.declared.command.CommandKind.TheVariants.{Run, Alone, Make}
use Rattle.pp_language.specs.declared.command.Command.{Command}
use Rattle.pp_language.specs.Commands.{AreWordsOf, AreNoWords}

-- the command alone has the defaults
abbrev pub plain_alone : Command
plain_alone = record { kind = Alone; settings = record { depth = 1000; turns = 10000; workers = 4; ahead = 1 }; trace = false }

abbrev pub AloneIsPlain : Type 0
AloneIsPlain = AreWordsOf (codes "alone" ∷ []) plain_alone

-- a value stands in the option's word or in the next one
abbrev pub BothSpellings : Type 0
BothSpellings =
    AreWordsOf (codes "run" ∷ codes "--workers=64" ∷ codes "--ahead" ∷ codes "8" ∷ []) (record { kind = Run; settings = record { depth = 1000; turns = 10000; workers = 64; ahead = 8 }; trace = false })

abbrev pub ZerosMayLead : Type 0
ZerosMayLead =
    AreWordsOf (codes "alone" ∷ codes "--depth" ∷ codes "007" ∷ []) (record { kind = Alone; settings = record { depth = 7; turns = 10000; workers = 4; ahead = 1 }; trace = false })

-- the number stands anywhere among the options
abbrev pub NumberStandsLast : Type 0
NumberStandsLast =
    AreWordsOf (codes "make" ∷ codes "--workers" ∷ codes "2" ∷ codes "10" ∷ []) (record { kind = Make 10; settings = record { depth = 1000; turns = 10000; workers = 2; ahead = 1 }; trace = false })

abbrev pub TraceIsTold : Type 0
TraceIsTold =
    AreWordsOf (codes "alone" ∷ codes "--trace" ∷ codes "--turns=2" ∷ []) (record { kind = Alone; settings = record { depth = 1000; turns = 2; workers = 4; ahead = 1 }; trace = true })

-- no word; values out of range; an option of another command; an option twice; a word that is no option; a number that lacks, is out of
-- range, or is not asked for
abbrev pub OthersAreNoWords : Type 0
OthersAreNoWords =
    AreNoWords []
    × AreNoWords (codes "run" ∷ codes "--workers" ∷ codes "0" ∷ [])
    × AreNoWords (codes "run" ∷ codes "--workers" ∷ codes "65" ∷ [])
    × AreNoWords (codes "alone" ∷ codes "--workers" ∷ codes "2" ∷ [])
    × AreNoWords (codes "run" ∷ codes "--depth" ∷ codes "5" ∷ codes "--depth" ∷ codes "5" ∷ [])
    × AreNoWords (codes "run" ∷ codes "--" ∷ [])
    × AreNoWords (codes "make" ∷ [])
    × AreNoWords (codes "make" ∷ codes "0" ∷ [])
    × AreNoWords (codes "make" ∷ codes "1000" ∷ [])
    × AreNoWords (codes "alone" ∷ codes "extra" ∷ [])

-- a trace of what is generated, an option without its value, eight digits, a sign, the empty word, an option cut short, a list in which
-- the command isn't first
abbrev pub MoreAreNoWords : Type 0
MoreAreNoWords =
    AreNoWords (codes "make" ∷ codes "10" ∷ codes "--trace" ∷ [])
    × AreNoWords (codes "alone" ∷ codes "--depth" ∷ [])
    × AreNoWords (codes "alone" ∷ codes "--depth=00000001" ∷ [])
    × AreNoWords (codes "alone" ∷ codes "--depth=+5" ∷ [])
    × AreNoWords (codes "alone" ∷ [] ∷ [])
    × AreNoWords (codes "alone" ∷ codes "--dep" ∷ codes "5" ∷ [])
    × AreNoWords (codes "--depth=5" ∷ codes "alone" ∷ [])
