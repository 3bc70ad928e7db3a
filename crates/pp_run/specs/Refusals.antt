-- Why a text is refused.
use Rattle.std.specs.Prelude.{ℕ, ◌⊎◌}
use Rattle.pp_language.specs.declared.which.Which.{Which}
use Rattle.pp_language.specs.Texts.{Text}
use Rattle.pp_language.specs.Faults.{IsSyntaxFault}
use Rattle.pp_language.specs.Limits.{IsTooLong, Passes}

-- some sentence is the first fault
abbrev pub HasSyntaxFault : Text → Type 0
HasSyntaxFault text = (sentence : ℕ) × IsSyntaxFault text sentence

-- the text is too long, or passes a limit
abbrev pub PassesLimit : Text → Type 0
PassesLimit text = IsTooLong text ⊎ ((which : Which) × Passes text which)
