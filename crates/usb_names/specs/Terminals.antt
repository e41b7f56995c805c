-- Types of terminals by wTerminalType: of audio (USB Audio, Terminal Types 1.0, 2.1 to 2.7) and of video (UVC 1.5, B).
-- The names are those of src/terminal.rt.
use Rattle.std.specs.Prelude.{ℕ, List, map}
use Rattle.usb_names.specs.declared.terminal.TheConstants.{AUDIO_TERMINALS, VIDEO_TERMINALS}
use Rattle.usb_names.specs.Named.{Named, of_constant}

unfoldable pub audio_terminals : List (Named ℕ)
audio_terminals = map of_constant AUDIO_TERMINALS

unfoldable pub video_terminals : List (Named ℕ)
video_terminals = map of_constant VIDEO_TERMINALS
