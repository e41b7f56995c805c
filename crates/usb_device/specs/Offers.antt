-- What a device offers to its host: all that its answers depend on beside its state.
use Rattle.std.specs.Prelude.{ℕ, ◌==◌, ◌&&◌, nat_lt, nat_le, Bool, List, [], ◌∷◌, length, map, Option, None, Some}
use Rattle.usb_set.specs.declared.tree.Configuration.{Configuration}
use Rattle.usb_set.specs.declared.tree.Endpoint.{Endpoint}
use Rattle.usb_set.specs.declared.tree.Setting.{Setting}
use Rattle.usb_file_data.specs.declared.file.DescriptorFile.{DescriptorFile}
use Rattle.usb_device.specs.Descriptors.{descriptor}
use Rattle.usb_device.specs.Images.{Piece, piece_in, pieces_of, find_in, descriptor_in}

-- an endpoint: bEndpointAddress and bmAttributes (USB 2.0, 9.6.6)
pub record EndpointOffer : Type 0 where
  pub address : ℕ
  pub attributes : ℕ

-- a setting: bInterfaceNumber and bAlternateSetting (9.6.5)
pub record SettingOffer : Type 0 where
  pub number : ℕ
  pub alternate : ℕ
  pub endpoints : List EndpointOffer

-- a set: bConfigurationValue and bmAttributes (9.6.3)
pub record SetOffer : Type 0 where
  pub value : ℕ
  pub attributes : ℕ
  pub settings : List SettingOffer

-- bMaxPacketSize0, the descriptor of each type and index, in each language where it is a string, and the sets
pub record Offer : Type 0 where
  pub packet : ℕ
  pub descriptor : ℕ → ℕ → ℕ → Option (List ℕ)
  pub sets : List SetOffer

-- By a descriptor file.

abbrev pub endpoint_offer : Endpoint → EndpointOffer
endpoint_offer e = record { address = e.address; attributes = e.attributes }

abbrev pub setting_offer : Setting → SettingOffer
setting_offer t = record { number = t.number; alternate = t.alternate; endpoints = map endpoint_offer t.endpoints }

abbrev pub set_offer : Configuration → SetOffer
set_offer c = record { value = c.value; attributes = c.attributes; settings = map setting_offer c.settings }

abbrev pub offer_of : DescriptorFile → Offer
offer_of f = record { packet = f.device.packet; descriptor = descriptor f; sets = map set_offer f.sets }

-- By an image, which any bytes are.

-- each two bytes are an endpoint
unfoldable pub endpoints_in : List ℕ → List EndpointOffer
endpoints_in [] = []
endpoints_in (address ∷ []) = []
endpoints_in (address ∷ attributes ∷ rest) = record { address = address; attributes = attributes } ∷ endpoints_in rest

abbrev pub setting_in : Piece → SettingOffer
setting_in p = record { number = p.index; alternate = p.number; endpoints = endpoints_in p.body }

abbrev pub set_in : Piece → SetOffer
set_in p = record { value = p.index; attributes = p.number; settings = map setting_in (pieces_of p.body) }

-- the pieces of a piece, if there is one
abbrev pub pieces_in : Option (List ℕ) → List Piece
pieces_in None = []
pieces_in (Some b) = pieces_of b

abbrev pub sets_in : List Piece → List SetOffer
sets_in ps = map set_in (pieces_in (find_in ps 129 0 0))

-- bMaxPacketSize0, which the head tells
unfoldable pub packet_in : List ℕ → ℕ
packet_in b = (piece_in b).number

-- whether the bytes begin with the head: version 1 of the format, and packets of 1 to 64 bytes (9.6.1)
abbrev pub has_head : List ℕ → Bool
has_head b =
    nat_le 8 (length b) && ((piece_in b).kind == 0) && ((piece_in b).index == 1) && nat_lt 0 (packet_in b) && nat_le (packet_in b) 64

abbrev pub offer_in : List ℕ → Offer
offer_in b = record { packet = packet_in b; descriptor = descriptor_in (pieces_of b); sets = sets_in (pieces_of b) }
