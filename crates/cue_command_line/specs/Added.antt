-- Helper: a command that is put into another one.
use Rattle.std.specs.Prelude.{◌≡◌}
use Rattle.clap.specs.Words.{AddsSubcommand, app_of, shape_of, with_subcommand}
use Rattle.clap.specs.declared.builder.command.Command.{Command}

-- wherever it is put, it is a command there as it is here
abbrev pub FitsAnywhere : Command → Type 0
FitsAnywhere sub =
    (old new : Command) → AddsSubcommand old sub new → app_of new ≡ with_subcommand (app_of old) (shape_of sub)
