-- Where bytes are in an image.
use Rattle.std.specs.Prelude.{ℕ, ◌+◌, ◌≤◌, List, length, take, drop}
use Rattle.usb_device.specs.declared.piece.Piece.{Piece}
use Rattle.usb_device.specs.declared.piece.Place.{Place}
use Rattle.usb_device.specs.Images as images

-- the bytes that are there
abbrev pub bytes_at : List ℕ → Place → List ℕ
bytes_at image p = take p.count (drop p.start image)

abbrev pub IsPlace : List ℕ → Place → Type 0
IsPlace image p = p.start + p.count ≤ length image

-- a piece, whose bytes are lent
abbrev pub piece_of : Piece → images.Piece
piece_of p = record { kind = p.kind; index = p.index; number = p.number; body = p.body.now }
