use Rattle.std.proofs.Common.{◌≡◌, ◌++◌, drop, false}
use Rattle.std.specs.List.{list_any}
use Rattle.usb_file_data.specs.File.{is_long_string}
use Rattle.usb_device.specs.Images.{image_bytes}
use Rattle.usb_device.specs.FileImages.{language_pieces}
use Rattle.usb_device.proofs.file_image.add_languages.Given as goal

-- what is written, and what is to be written of the languages and the texts that are left
abbrev pub invariant-loop-language : goal.invariant-loop-language
invariant-loop-language l = record {
  written : l.pieces.items ++ image_bytes (language_pieces l.named (drop l.language-index l.languages) l.left) ≡ l.fn.pieces.items ++ image_bytes (language_pieces l.named l.languages l.texts);
  short : list_any is_long_string l.left ≡ false;
}
