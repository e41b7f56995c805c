-- What requests can name, as it is read in an image.
use Rattle.std.specs.Prelude.{List, map}
use Rattle.usb_device.specs.declared.sets.Endpoint.{Endpoint}
use Rattle.usb_device.specs.declared.sets.Endpoints.{Endpoints}
use Rattle.usb_device.specs.declared.sets.Setting.{Setting}
use Rattle.usb_device.specs.declared.sets.Settings.{Settings}
use Rattle.usb_device.specs.declared.sets.Set.{Set}
use Rattle.usb_device.specs.declared.sets.Sets.{Sets}
use Rattle.usb_device.specs.Images.{pieces_of}
use Rattle.usb_device.specs.Offers.{EndpointOffer, SettingOffer, SetOffer, endpoints_in, set_in, setting_in}

abbrev pub endpoint_of : Endpoint → EndpointOffer
endpoint_of e = record { address = e.address; attributes = e.attributes }

-- the endpoints that are still to come
abbrev pub endpoints_left : Endpoints → List EndpointOffer
endpoints_left e = endpoints_in e.bytes.now

abbrev pub setting_of : Setting → SettingOffer
setting_of t = record { number = t.number; alternate = t.alternate; endpoints = endpoints_left t.endpoints }

abbrev pub settings_left : Settings → List SettingOffer
settings_left t = map setting_in (pieces_of t.pieces.now)

abbrev pub set_of : Set → SetOffer
set_of c = record { value = c.value; attributes = c.attributes; settings = settings_left c.settings }

abbrev pub sets_left : Sets → List SetOffer
sets_left c = map set_in (pieces_of c.pieces.now)
