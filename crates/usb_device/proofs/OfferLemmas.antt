-- An image offers what the file offers that it was written of.
use Rattle.std.proofs.Common.{◌≡◌, ◌<◌, ◌≤◌, ℕ, true, length, drop, fold, slice_index_or, arith, List, [], ◌∷◌, ◌++◌, map, refl, ap, ◌∙◌}
use Rattle.std.specs.List.{flat_map}
use Rattle.usb_set.specs.declared.tree.Configuration.{Configuration}
use Rattle.usb_set.specs.declared.tree.Endpoint.{Endpoint}
use Rattle.usb_set.specs.declared.tree.Setting.{Setting}
use Rattle.usb_file_data.specs.declared.file.DescriptorFile.{DescriptorFile}
use Rattle.usb_fields.specs.Device.{device_bytes}
use Rattle.usb_file_data.specs.File.{named_indices, whole_set}
use Rattle.usb_device.specs.Images.{Piece, descriptor_in, image_bytes, pieces_of}
use Rattle.usb_device.specs.Descriptors.{descriptor}
use Rattle.usb_device.specs.Accepted.{Accepted}
use Rattle.usb_device.specs.Conformance.{is_free, is_free_to}
use Rattle.usb_device.specs.Step.{acked, served}
use Rattle.usb_device.specs.View.{acked_by, acked_over, served_by, served_over}
use Rattle.usb_fields.specs.declared.packet.Speed.{Speed}
use Rattle.usb_device.specs.Offers.{SettingOffer, endpoint_offer, endpoints_in, has_head, offer_in, offer_of, packet_in, set_in, set_offer, setting_in, setting_offer, sets_in}
use Rattle.usb_fields.specs.Setup.{class_of}
use Rattle.usb_device.specs.Requests.{addresses_in, answer, answer_of, answer_to, interface_addresses}
use Rattle.usb_device.specs.States.{without_halt}
use Rattle.std.proofs.lemmas.List.Sums.{fold-append}
use Rattle.usb_device.specs.FileImages.{endpoint_bytes, file_pieces, image_of, indexed, keyed, other_pieces, set_piece, setting_piece, string_pieces}
use Rattle.std.proofs.lemmas.Bool.Decides.{nat_tests}
use Rattle.usb_device.proofs.AcceptedLemmas.{packet_some}
use Rattle.usb_device.proofs.Replies.{packet_fits}
use Rattle.usb_device.proofs.PieceLemmas.{read_back, read_piece}
use Rattle.usb_device.proofs.FoundLemmas.{offers_descriptor}

endpoints_back : (es : List Endpoint) → endpoints_in (flat_map endpoint_bytes es) ≡ map endpoint_offer es
unfolding endpoints_in
endpoints_back [] = refl
endpoints_back (e ∷ es) = ap (λ rest. endpoint_offer e ∷ rest) (endpoints_back es)

settings_back : (ts : List Setting) → map setting_in (map setting_piece ts) ≡ map setting_offer ts
settings_back [] = refl
settings_back (t ∷ ts) = λ i. record { number = t.number; alternate = t.alternate; endpoints = endpoints_back t.endpoints i } ∷ settings_back ts i

set_back : (c : Configuration) → set_in (set_piece c) ≡ set_offer c
set_back c =
    ap (λ ps. record { value = c.value; attributes = c.attributes; settings = map setting_in ps }) (read_back (map setting_piece c.settings))
    ∙ ap (λ ts. record { value = c.value; attributes = c.attributes; settings = ts }) (settings_back c.settings)

sets_back : (cs : List Configuration) → map set_in (map set_piece cs) ≡ map set_offer cs
sets_back [] = refl
sets_back (c ∷ cs) = λ i. set_back c i ∷ sets_back cs i

sets_found : (f : DescriptorFile) → sets_in (file_pieces f) ≡ map set_offer f.sets
sets_found f = ap (map set_in) (read_back (map set_piece f.sets)) ∙ sets_back f.sets

pub head_back : (f : DescriptorFile) → packet_in (image_of f) ≡ f.device.packet
unfolding image_of packet_in
head_back f =
    ap (λ (p : Piece). p.number) (read_piece (record { kind = 0; index = 1; number = f.device.packet; body = [] })
    (image_bytes ((keyed 129 0 (image_bytes (map set_piece f.sets)) ∷ keyed 1 0 (device_bytes f.device) ∷ (indexed 2 0 (map whole_set f.sets) ++ other_pieces f.other)) ++ string_pieces (named_indices f) f.strings)))

pub same_offer : (f : DescriptorFile) → offer_in (image_of f) ≡ offer_of f
unfolding image_of
same_offer f =
    ap (λ ps. record { packet = packet_in (image_of f); descriptor = descriptor_in ps; sets = sets_in ps }) (read_back (file_pieces f))
    ∙ (λ i. record { packet = head_back f i; descriptor = λ kind index language. offers_descriptor f kind index language i; sets = sets_found f i })

-- so a device answers over the image as over the file
pub same_answers : (f : DescriptorFile) → answer_to (offer_in (image_of f)) ≡ answer f
unfolding answer answer_to
same_answers f = λ i s q. answer_of (class_of q.request_type) (same_offer f i) s q

-- and hands out the same descriptors
pub same_descriptor : (f : DescriptorFile) (kind index language : ℕ) → descriptor_in (pieces_of (image_of f)) kind index language ≡ descriptor f kind index language
same_descriptor f kind index language = λ i. (same_offer f i).descriptor kind index language

-- so each transaction is the same
pub same_served : (f : DescriptorFile) → served_over (image_of f) ≡ served_by f
same_served f = λ i d sent ready. served (same_answers f i) (head_back f i) d sent ready

pub same_acked : (f : DescriptorFile) → acked_over (image_of f) ≡ acked_by f
same_acked f = λ i d. acked (same_answers f i) (head_back f i) d

pub same_free : (f : DescriptorFile) → is_free_to (offer_in (image_of f)) ≡ is_free f
same_free f = λ i d q. is_free_to (same_offer f i) d q

-- and an image of which there is a device begins with a head
pub has_head_back : (f : DescriptorFile) (speed : Speed) → Accepted f speed → has_head (image_of f) ≡ true
unfolding image_of
has_head_back f speed accepted =
    let some = packet_some f accepted.rules in
    let fits = packet_fits f accepted.rules in
    let head = head_back f in
    grind (arith, nat_tests)

-- Endpoints, two bytes each.

endpoint_next : (b : List ℕ) → 2 ≤ length b → endpoints_in b ≡ record { address = slice_index_or b 0 0; attributes = slice_index_or b 1 0 } ∷ endpoints_in (drop 2 b)
unfolding endpoints_in
endpoint_next [] long = absurd (let no : ⊥ = omega (arith, long) in no)
endpoint_next (x ∷ []) long = absurd (let no : ⊥ = omega (arith, long) in no)
endpoint_next (x ∷ y ∷ b) long = refl

pub endpoint_step : (b rest : List ℕ) → 2 ≤ length b → rest ≡ drop 2 b → endpoints_in b ≡ record { address = slice_index_or b 0 0; attributes = slice_index_or b 1 0 } ∷ endpoints_in rest
endpoint_step b rest long is = rw is (endpoint_next b long)

pub endpoint_none : (b : List ℕ) → length b < 2 → endpoints_in b ≡ []
unfolding endpoints_in
endpoint_none [] short = refl
endpoint_none (x ∷ []) short = refl
endpoint_none (x ∷ y ∷ b) short = absurd (let no : ⊥ = omega (arith, short) in no)

-- the halts without those of one setting more
pub halts_more : (halts number : ℕ) (t : SettingOffer) (ts : List SettingOffer) →
    fold without_halt halts (interface_addresses (t ∷ ts) number) ≡ fold without_halt (fold without_halt halts (addresses_in number t)) (interface_addresses ts number)
halts_more halts number t ts = fold-append without_halt halts (addresses_in number t) (interface_addresses ts number)
