-- The settings and endpoints that a device said, as the code goes through them.
use Rattle.std.specs.Prelude.{ℕ, ◌&&◌, Bool, List, drop, length, nat_le, nat_lt, slice_index}
use Rattle.usb_device.specs.Offers.{EndpointOffer, SettingOffer}
use Rattle.usb_capture.specs.declared.said_settings.endpoints.Endpoint.{Endpoint}
use Rattle.usb_capture.specs.declared.said_settings.endpoints.Endpoints.{Endpoints}
use Rattle.usb_capture.specs.declared.said_settings.settings.Setting.{Setting}
use Rattle.usb_capture.specs.declared.said_settings.settings.Settings.{Settings}
use Rattle.usb_capture.specs.DeviceStates.{endpoints_said, settings_said}

abbrev pub endpoints_in : List ℕ → List EndpointOffer
endpoints_in b = endpoints_said (length b) b

abbrev pub settings_in : List ℕ → List SettingOffer
settings_in b = settings_said (length b) b

-- the endpoint whose descriptor is the first of these (9.6.6)
abbrev pub endpoint_at : List ℕ → EndpointOffer
endpoint_at b = record { address = slice_index b 2; attributes = slice_index b 3 }

-- the setting whose descriptor is the first of these (9.6.5)
abbrev pub setting_at : List ℕ → SettingOffer
setting_at b = record { number = slice_index b 2; alternate = slice_index b 3; endpoints = endpoints_in (drop (slice_index b 0) b) }

abbrev pub endpoint_of : Endpoint → EndpointOffer
endpoint_of e = record { address = e.address; attributes = e.attributes }

-- those that are still to come
abbrev pub endpoints_left : Endpoints → List EndpointOffer
endpoints_left e = endpoints_in e.descriptors.now

abbrev pub setting_of : Setting → SettingOffer
setting_of t = record { number = t.number; alternate = t.alternate; endpoints = endpoints_left t.endpoints }

abbrev pub settings_left : Settings → List SettingOffer
settings_left t = settings_in t.descriptors.now

-- whether all bytes of the first descriptor are there
abbrev pub has_descriptor : List ℕ → Bool
has_descriptor b = nat_lt 1 (slice_index b 0) && nat_le (slice_index b 0) (length b)
