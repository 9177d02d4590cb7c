-- The commands as clap knows them, and what a line says of the one that it matched.
use Rattle.std.specs.Prelude.{◌≡◌, ◌⊎◌, ℕ, ◌≤◌, ◌<◌, ◌^◌, pos, Bool, List, Option, Some}
use Rattle.std.specs.Prelude.{None, true, false, codes}
use Rattle.std.specs.Prelude.{string_bytes}
use Rattle.std.specs.Str.Parse.{IsNumeral, digits_value, without_leading_plus}
use Rattle.clap.specs.Words.{App, Rule, Row, Text, new_app, new_rule, with_rule, with_subcommand, first_of, one_of}
use Rattle.clap.specs.Words.{Kinds, IsAmong, fault_of, subcommand_of}
use Rattle.clap.specs.declared.error.kind.ErrorKind.{ErrorKind}
use Rattle.clap.specs.declared.error.kind.ErrorKind.TheVariants.{DisplayHelp, DisplayVersion, OutOfMemory}
use Rattle.clap.specs.declared.builder.ArgAction.TheVariants.{Set}
use Rattle.clap.specs.declared.builder.value_parser.ValueParser.TheVariants.{Signed, Unsigned}
use Rattle.cue_command_line.specs.declared.words.Line.{Line}
use Rattle.cue_command_line.specs.declared.words.Line.TheVariants.{Form, Serve, Show, Script}
use Rattle.cue_command_line.specs.declared.words.LineFault.{LineFault}
use Rattle.cue_command_line.specs.declared.words.LineFault.TheVariants.{Help, Usage, Memory}

-- DIR, the folder of the store; it must be there
abbrev pub dir_rule : Rule
dir_rule = record (new_rule (codes "DIR")) { required = true; action = Some Set }

-- --port, a number of 16 bits; it must be there
abbrev pub port_rule : Rule
port_rule =
    record (new_rule (codes "port")) {
      long = Some (codes "port");
      required = true;
      action = Some Set;
      parser = Some (Signed (pos 0) (pos 65535));
    }

-- --turns, a number of 64 bits; it must be there
abbrev pub turns_rule : Rule
turns_rule =
    record (new_rule (codes "turns")) {
      long = Some (codes "turns");
      required = true;
      action = Some Set;
      parser = Some (Unsigned 0 18446744073709551615);
    }

-- the command form, with its folder
abbrev pub form_app : App
form_app = with_rule (new_app (codes "form")) dir_rule

-- the command serve, with its folder, port and turns
abbrev pub serve_app : App
serve_app = with_rule (with_rule (with_rule (new_app (codes "serve")) dir_rule) port_rule) turns_rule

-- the command show, with its folder
abbrev pub show_app : App
show_app = with_rule (new_app (codes "show")) dir_rule

-- the command script, which reads standard input
abbrev pub script_app : App
script_app = new_app (codes "script")

-- a command line without commands, which says its version
abbrev pub bare_app : App
bare_app = let bare = new_app (codes "cuectl") in record bare { top = record bare.top { has_version = true } }

-- all commands
abbrev pub cuectl_app : App
cuectl_app =
    with_subcommand (with_subcommand (with_subcommand
    (with_subcommand bare_app form_app.top) serve_app.top) show_app.top) script_app.top

-- the decimal number that stands after an option
pub record IsNumberIn (id : Text) (rows : List Row) (n : ℕ) : Type 0 where
  pub text : Text
  pub stands : one_of id rows ≡ Some text
  pub numeral : IsNumeral 10 (without_leading_plus text)
  pub value : n ≡ digits_value 10 (without_leading_plus text)

-- the port that stands there, one that can be listened on
abbrev pub IsPortIn : List Row → ℕ → Type 0
IsPortIn rows port = IsNumberIn (codes "port") rows port × (1 ≤ port) × (port < 2 ^ 16)

-- the number of turns that stands there
abbrev pub AreTurnsIn : List Row → ℕ → Type 0
AreTurnsIn rows turns = IsNumberIn (codes "turns") rows turns × (turns < 2 ^ 64)

-- the folder that stands there
abbrev pub IsDirIn : List Row → Text → Type 0
IsDirIn rows dir = first_of (codes "DIR") rows ≡ Some dir

-- the line is the command that was matched, with what stands there
abbrev pub IsLine : Text × List Row → Line → Type 0
IsLine found (Form dir) = (found.0 ≡ codes "form") × IsDirIn found.1 (string_bytes dir)
IsLine found (Serve dir port turns) = (found.0 ≡ codes "serve") × IsDirIn found.1 (string_bytes dir)
    × IsPortIn found.1 port × AreTurnsIn found.1 turns
IsLine found (Show dir) = (found.0 ≡ codes "show") × IsDirIn found.1 (string_bytes dir)
IsLine found Script = found.0 ≡ codes "script"

-- and there is such a command
abbrev pub IsLineOf : Option (Text × List Row) → Line → Type 0
IsLineOf (Some found) line = IsLine found line
IsLineOf None line = ⊥

-- the words name the command serve with the port 0
abbrev pub HasPortZero : Option (Text × List Row) → Type 0
HasPortZero (Some found) = (found.0 ≡ codes "serve") × IsNumberIn (codes "port") found.1 0
HasPortZero None = ⊥

-- it is the text that was asked for
abbrev pub IsHelp : LineFault → Type 0
IsHelp (Help text) = Unit {0}
IsHelp Usage = ⊥
IsHelp Memory = ⊥

-- the help or the version is asked for
abbrev pub AsksForText : Kinds → Type 0
AsksForText kinds = IsAmong DisplayHelp kinds ⊎ IsAmong DisplayVersion kinds

-- neither the help nor the version is asked for
abbrev pub asks_for_none : ErrorKind → Bool
asks_for_none DisplayHelp = false
asks_for_none DisplayVersion = false
asks_for_none _ = true

-- clap stops for another reason than the help and the version
pub record IsRefused (kinds : Kinds) : Type 0 where
  pub kind : ErrorKind
  pub among : IsAmong kind kinds
  pub other : asks_for_none kind ≡ true

-- the words are no command: clap stops for another reason, none is named, or the port is 0
abbrev pub IsNoCommand : List Text → Type 0
IsNoCommand words =
    IsRefused (fault_of cuectl_app words) ⊎ (subcommand_of cuectl_app words ≡ None)
    ⊎ HasPortZero (subcommand_of cuectl_app words)

-- what the program makes of an error of clap
abbrev pub IsFaultOf : ErrorKind → LineFault → Type 0
IsFaultOf kind (Help text) = (kind ≡ DisplayHelp) ⊎ (kind ≡ DisplayVersion)
IsFaultOf kind Usage = (asks_for_none kind ≡ true) × (kind ≡ OutOfMemory → ⊥)
IsFaultOf kind Memory = Unit {0}
