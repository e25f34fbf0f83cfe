-- The program's command line, and what words on it say.
use Rattle.std.specs.Prelude.{◌≡◌, ℕ, ◌<◌, ◌^◌, true, Option, Some, None, List, [], ◌∷◌, pos, codes}
use Rattle.std.specs.Str.Parse.{IsNumeral, digits_value, without_leading_plus}
use Rattle.clap.specs.Simple.{new_shape}
use Rattle.clap.specs.Words.{App, Row, Rule, Text, first_of, matches_of, new_rule, one_of, with_rule}
use Rattle.clap.specs.declared.builder.action.ArgAction.TheVariants.{Set}
use Rattle.clap.specs.declared.builder.value_parser.ValueParser.{ValueParser}
use Rattle.clap.specs.declared.builder.value_parser.ValueParser.TheVariants as parser
use Rattle.chm.specs.Refusals.{IsCapacity}
use Rattle.bulk_tasks.specs.Plans.{AreWorkers}
use Rattle.steal_pool.specs.Limits.{most_workers}
use Rattle.mapcli_core.specs.Options.{OptionsView}

-- an option that takes a number, with the text of its default
abbrev pub number_rule : Text → ValueParser → Text → Rule
number_rule name numbers default = record (new_rule name) {
  long = Some name;
  action = Some Set;
  value_names = 1;
  parser = Some numbers;
  defaults = default ∷ [];
}

abbrev pub workers_rule : Rule
workers_rule = number_rule (codes "workers") (parser.Signed (pos 1) (pos most_workers)) (codes "4")

abbrev pub capacity_rule : Rule
capacity_rule = number_rule (codes "capacity") (parser.Signed (pos 1) (pos 4096)) (codes "16")

abbrev pub salt_rule : Rule
salt_rule = number_rule (codes "salt") (parser.Signed (pos 0) (pos 4294967295)) (codes "0")

abbrev pub file_rule : Rule
file_rule = record (new_rule (codes "FILE")) { action = Some Set; required = true }

-- a command of this name that has a version, and no arguments yet
abbrev pub versioned : Text → App
versioned name = record { top = record (new_shape name) { has_version = true }; subs = [] }

-- the options workers, capacity and salt, with their ranges and defaults, and FILE
abbrev pub program : App
program =
    with_rule (with_rule (with_rule (with_rule (versioned (codes "mapcli")) workers_rule) capacity_rule) salt_rule)
    file_rule

-- there is a text, decimal digits after a plus at most, of this number
abbrev pub SaysNumber : Option Text → ℕ → Type 0
SaysNumber None n = ⊥
SaysNumber (Some text) n = IsNumeral 10 (without_leading_plus text) × (n ≡ digits_value 10 (without_leading_plus text))

-- the matches of a command line say these options and this FILE
pub record AreRead (rows : List Row) (options : OptionsView) (path : Text) : Type 0 where
  pub workers : SaysNumber (one_of (codes "workers") rows) options.workers
  pub capacity : SaysNumber (one_of (codes "capacity") rows) options.capacity
  pub salt : SaysNumber (one_of (codes "salt") rows) options.salt.0
  pub file : first_of (codes "FILE") rows ≡ Some path

-- the program's name, and the words after it
abbrev pub command_line : List Text → List Text
command_line words = codes "mapcli" ∷ words

-- the words after the program's name say these options and this FILE
abbrev pub AreSaid : List Text → OptionsView → Text → Type 0
AreSaid words = AreRead (matches_of program (command_line words))

-- the options are in their ranges
pub record AreInRange (o : OptionsView) : Type 0 where
  pub workers : AreWorkers o.workers
  pub capacity : IsCapacity o.capacity
  pub salt : o.salt.0 < 2 ^ 32

-- the matches of a command line say options in their ranges, and a FILE
pub record AreWhole (rows : List Row) : Type 0 where
  pub options : OptionsView
  pub path : Text
  pub read : AreRead rows options path
  pub in_range : AreInRange options
