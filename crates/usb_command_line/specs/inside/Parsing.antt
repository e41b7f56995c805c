-- What the functions that read the command line say to each other.
use Rattle.std.specs.Prelude.{◌⊎◌, List, Option, codes}
use Rattle.clap.specs.Words.{Row, Text}
use Rattle.usb_command_line.specs.CommandLine.{IsNamed}

-- one of the program's subcommands was found
abbrev pub NamesCommand : Option (Text × List Row) → Type 0
NamesCommand found =
    IsNamed (codes "show") found ⊎ (IsNamed (codes "check") found
    ⊎ (IsNamed (codes "build") found ⊎ (IsNamed (codes "explain") found ⊎ (IsNamed (codes "enumerate") found ⊎ IsNamed (codes "capture") found))))
