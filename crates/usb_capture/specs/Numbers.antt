-- Numbers in the byte order of the host that wrote them.
use Rattle.std.specs.Prelude.{ℕ, ◌+◌, ◌*◌, List, slice_index}
use Rattle.usb_capture.specs.declared.order.ByteOrder.{ByteOrder}
use Rattle.usb_capture.specs.declared.order.ByteOrder.TheVariants.{Little, Big}

-- the number of 32 bits at this place; a byte that isn't there is 0
unfoldable pub number_at : ByteOrder → List ℕ → ℕ → ℕ
number_at Little b at = slice_index b at + 256 * slice_index b (at + 1) + 65536 * slice_index b (at + 2) + 16777216 * slice_index b (at + 3)
number_at Big b at = slice_index b (at + 3) + 256 * slice_index b (at + 2) + 65536 * slice_index b (at + 1) + 16777216 * slice_index b at

-- the numbers of 16 and of 64 bits at this place
abbrev pub short_at : ByteOrder → List ℕ → ℕ → ℕ
short_at Little b at = slice_index b at + 256 * slice_index b (at + 1)
short_at Big b at = slice_index b (at + 1) + 256 * slice_index b at

abbrev pub long_at : ByteOrder → List ℕ → ℕ → ℕ
long_at Little b at = number_at Little b at + 4294967296 * number_at Little b (at + 4)
long_at Big b at = number_at Big b (at + 4) + 4294967296 * number_at Big b at
