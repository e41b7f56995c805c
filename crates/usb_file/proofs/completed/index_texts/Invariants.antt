use Rattle.std.proofs.Common.{◌≡◌, map, take}
use Rattle.usb_file.specs.Completed.{index_text}
use Rattle.usb_file.proofs.completed.index_texts.Given as goal

abbrev pub invariant-loop-index : goal.invariant-loop-index
invariant-loop-index l = l.texts ≡ map index_text (take l.index-index l.indices)
