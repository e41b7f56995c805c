-- Requests that a device may carry out or refuse, by its descriptors and its state.
use Rattle.std.specs.Prelude.{ℕ, ◌%◌, ◌==◌, ◌&&◌, ◌||◌, nat_lt, Bool, true, false, not, List, slice_index, if◌then◌else◌}
use Rattle.std.specs.List.{list_any}
use Rattle.usb_fields.specs.declared.setup.Setup.{Setup}
use Rattle.usb_fields.specs.declared.setup.Class.{Class}
use Rattle.usb_fields.specs.declared.setup.Class.TheVariants as classes
use Rattle.usb_fields.specs.declared.setup.Recipient.{Recipient}
use Rattle.usb_fields.specs.declared.setup.Recipient.TheVariants.{Device, Interface, Endpoint, Other, Reserved}
use Rattle.usb_fields.specs.Setup.{class_of, recipient_of}
use Rattle.usb_file_data.specs.declared.file.DescriptorFile.{DescriptorFile}
use Rattle.usb_device.specs.declared.state.State.{State}
use Rattle.usb_device.specs.Offers.{EndpointOffer, Offer, SettingOffer, offer_of}
use Rattle.usb_device.specs.Requests.{is_interface, names_alternate, names_endpoint_zero, selected_settings}
use Rattle.usb_device.specs.States.{has_address, is_configured}

abbrev pub is_endpoint : Recipient → Bool
is_endpoint Device = false
is_endpoint Interface = false
is_endpoint Endpoint = true
is_endpoint Other = false
is_endpoint Reserved = false

abbrev pub is_standard : Class → Bool
is_standard classes.Standard = true
is_standard classes.Class = false
is_standard classes.Vendor = false
is_standard classes.Reserved = false

-- whether the setting is another one of the interface
abbrev pub is_other_setting : ℕ → ℕ → SettingOffer → Bool
is_other_setting number alternate t = (t.number == number) && not (t.alternate == alternate)

-- SET_INTERFACE of the only setting of an interface: a device may refuse it (9.4.10).
abbrev pub may_set : Offer → State → Setup → Bool
may_set o s q =
    is_interface (recipient_of q.request_type) && is_configured s && names_alternate o s q.index q.value
    && not (list_any (is_other_setting q.index q.value) (selected_settings o s))

-- whether the endpoint has this address, and is isochronous: bits 1..0 of bmAttributes are 1 (9.6.6)
abbrev pub is_isochronous_at : ℕ → EndpointOffer → Bool
is_isochronous_at address e = (e.address == address) && (e.attributes % 4 == 1)

-- whether the setting is the one that was chosen for its interface, and has that endpoint
abbrev pub has_isochronous : List ℕ → ℕ → SettingOffer → Bool
has_isochronous alternates address t =
    (slice_index alternates t.number == t.alternate) && list_any (is_isochronous_at address) t.endpoints

-- wIndex is the address of an isochronous endpoint in a chosen setting of the selected set
abbrev pub names_isochronous : Offer → State → ℕ → Bool
names_isochronous o s index = nat_lt index 256 && list_any (has_isochronous s.alternates index) (selected_settings o s)

-- ENDPOINT_HALT, feature 0: it is for bulk and interrupt endpoints; endpoint zero may have it (9.4.5).
abbrev pub may_halt : Offer → State → Setup → Bool
may_halt o s q =
    is_endpoint (recipient_of q.request_type) && (q.value == 0)
    && ((has_address s && names_endpoint_zero q.index) || (is_configured s && names_isochronous o s q.index))

-- by bRequest: SET_INTERFACE, CLEAR_FEATURE and SET_FEATURE
abbrev pub by_code : Offer → State → Setup → Bool
by_code o s q = if q.request == 11 then may_set o s q else if (q.request == 1) || (q.request == 3) then may_halt o s q else false

-- whether a device that offers this may carry out the request, and may refuse it
abbrev pub is_either_to : Offer → State → Setup → Bool
is_either_to o s q = by_code o s q && (q.length == 0) && is_standard (class_of q.request_type)

-- a device with these descriptors
abbrev pub is_either : DescriptorFile → State → Setup → Bool
is_either f s q = is_either_to (offer_of f) s q
