use Rattle.std.proofs.Common.{◌≡◌, ◌++◌, map, take}
use Rattle.std.specs.List.{flat_map}
use Rattle.usb_listing.specs.Table.{written_field}
use Rattle.usb_text.specs.Characters.{two_bytes}
use Rattle.usb_listing.proofs.string_listing.put_numbers.Given as goal

abbrev pub invariant-loop-number : goal.invariant-loop-number
invariant-loop-number l = l.page ≡ l.initial.page ++ flat_map written_field (map two_bytes (take l.number-index l.numbers))
