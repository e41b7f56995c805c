-- The device's table of requests keeps what the laws ask of a table.
use Rattle.std.proofs.Common.{◌≡◌, ℕ, ◌+◌, ◌*◌, ◌/◌, ◌%◌, ◌<◌, ◌≤◌, ◌==◌, ◌&&◌, ◌||◌, not, Bool, true, false, if◌then◌else◌, nat_lt, List, [], ◌∷◌, length, take, refl, arith, subst, length-take, Option, Some, None, fold, slice_set, slice_index}
use Rattle.std.specs.List.{list_any}
use Rattle.std.proofs.lemmas.Bool.Decides.{nat_tests}
use Rattle.usb_fields.specs.declared.setup.Setup.{Setup}
use Rattle.usb_fields.specs.declared.setup.Class.{Class}
use Rattle.usb_fields.specs.declared.setup.Class.TheVariants as classes
use Rattle.usb_fields.specs.declared.setup.Direction.{Direction}
use Rattle.usb_fields.specs.declared.setup.Direction.TheVariants as directions
use Rattle.usb_fields.specs.declared.setup.Recipient.{Recipient}
use Rattle.usb_fields.specs.declared.setup.Recipient.TheVariants.{Device, Interface, Endpoint, Other, Reserved}
use Rattle.usb_fields.specs.Setup.{direction_of, class_of, recipient_of}
use Rattle.usb_file_data.specs.declared.file.DescriptorFile.{DescriptorFile}
use Rattle.usb_device.specs.Offers.{Offer, offer_of}
use Rattle.usb_device.specs.declared.state.State.{State}
use Rattle.usb_device.specs.States.{first_alternates, has_address, is_configured, halt_of, without_halt}
use Rattle.usb_device.specs.Requests.{Outcome, Bytes, Done, Refused, Takes, when, bytes_in, gives, tells, does, is_device, is_interface, names_interface, names_alternate, names_endpoint, names_endpoint_zero, selected_settings, interface_addresses, shown_attributes, one_if, can_wake, has_value, changed_halts, status_of, status_of_endpoint, feature_of, set_configuration, set_interface, row, answer_of, answer}
use Rattle.usb_device.specs.Step.{is_set_address}
use Rattle.usb_bus.specs.Beside.{IsTable}

-- what an answer keeps, by its kind
abbrev pub Kept : State → Setup → Outcome → Type 0
Kept s q (Bytes b) = (0 < q.length) × (direction_of q.request_type ≡ directions.In) × (length b ≤ q.length)
Kept s q (Done t) =
    (q.length ≡ 0) × (is_set_address q ≡ false → t.address ≡ s.address) × (is_set_address q ≡ true → (q.value < 128) × (t ≡ record s { address = q.value }))
Kept s q Refused = Unit {0}
Kept s q (Takes judge) = (0 < q.length) × (direction_of q.request_type ≡ directions.Out)

if_kept : (s : State) (q : Setup) (c : Bool) (a b : Outcome) → (c ≡ true → Kept s q a) → (c ≡ false → Kept s q b) → Kept s q (if c then a else b)
if_kept s q true a b x y = x refl
if_kept s q false a b x y = y refl

pub when_kept : (s : State) (q : Setup) (c : Bool) (a : Outcome) → (c ≡ true → Kept s q a) → Kept s q (when c a)
when_kept s q true a x = x refl
when_kept s q false a x = tt

-- no SET_ADDRESS
other_code : (q : Setup) (k : ℕ) → (q.request == k) ≡ true → (k == 5) ≡ false → is_set_address q ≡ true → ⊥
other_code q k e d i = grind (arith, nat_tests)

bytes_in_kept : (s : State) (q : Setup) (b : List ℕ) (d : Direction) → direction_of q.request_type ≡ d → 0 < q.length → length b ≤ q.length → Kept s q (bytes_in d b)
bytes_in_kept s q b directions.In e some few = (some, e, few)
bytes_in_kept s q b directions.Out e some few = tt

gives_kept : (s : State) (q : Setup) (o : Option (List ℕ)) → (is_set_address q ≡ true → ⊥) → Kept s q (gives s q o)
gives_kept s q None other = tt
gives_kept s q (Some b) other =
    if_kept s q (q.length == 0) (Done s) (bytes_in (direction_of q.request_type) (take q.length b))
    (λ e. (grind (arith, nat_tests), (λ i. refl), (λ i. absurd (other i))))
    (λ e. (let some : 0 < q.length = grind (arith, nat_tests) in
    bytes_in_kept s q (take q.length b) (direction_of q.request_type) refl some (simp length-take (omega arith))))

tells_kept : (s : State) (q : Setup) (x : ℕ) (b : List ℕ) → Kept s q (tells q (x ∷ b))
tells_kept s q x b =
    when_kept s q (q.length == length (x ∷ b)) (bytes_in (direction_of q.request_type) (x ∷ b))
    (λ e. (let same : q.length ≡ length (x ∷ b) = grind (arith, nat_tests) in
    bytes_in_kept s q (x ∷ b) (direction_of q.request_type) refl (omega arith) (omega arith)))

does_kept : (s : State) (q : Setup) (t : State) → t.address ≡ s.address → (is_set_address q ≡ true → ⊥) → Kept s q (does q t)
does_kept s q t e other =
    when_kept s q (q.length == 0) (Done t)
    (λ z. (grind (arith, nat_tests), (λ i. e), (λ i. absurd (other i))))

goes_kept : (s : State) (q : Setup) → is_set_address q ≡ true → q.value < 128 → Kept s q (does q (record s { address = q.value }))
goes_kept s q is small =
    when_kept s q (q.length == 0) (Done (record s { address = q.value }))
    (λ z. (grind (arith, nat_tests), (λ i. absurd (cc)), (λ i. (small, refl))))

-- a standard request 5 to the device is SET_ADDRESS
standard_by : (first second third : Bool) →
    (if first then classes.Standard else if second then classes.Class else if third then classes.Vendor else classes.Reserved) ≡ classes.Standard →
    first ≡ true
standard_by true second third e = refl
standard_by false true third e = absurd (cc)
standard_by false false true e = absurd (cc)
standard_by false false false e = absurd (cc)

device_by : (first second third fourth : Bool) →
    is_device (if first then Device else if second then Interface else if third then Endpoint else if fourth then Other else Reserved) ≡ true →
    first ≡ true
device_by true second third fourth e = refl
device_by false true third fourth e = e
device_by false false true fourth e = e
device_by false false false true e = e
device_by false false false false e = e

set_by : (q : Setup) → (q.request == 5) ≡ true → class_of q.request_type ≡ classes.Standard → is_device (recipient_of q.request_type) ≡ true →
    is_set_address q ≡ true
set_by q code standard device =
    let n = q.request_type in
    let kind : (n / 32 % 4 == 0) ≡ true = standard_by (n / 32 % 4 == 0) (n / 32 % 4 == 1) (n / 32 % 4 == 2) standard in
    let part : (n % 32 == 0) ≡ true = device_by (n % 32 == 0) (n % 32 == 1) (n % 32 == 2) (n % 32 == 3) device in
    let no_kind : n / 32 % 4 ≡ 0 = grind (arith, nat_tests) in
    let no_part : n % 32 ≡ 0 = grind (arith, nat_tests) in
    let low : n % 128 ≡ 0 = omega arith in
    grind (arith, nat_tests)

first_by : (a b : Bool) (v : ℕ) (c : Bool) → (a && b && nat_lt v 128 && c) ≡ true → a ≡ true
first_by a b v c e = grind (arith, nat_tests)

below_by : (a b : Bool) (v : ℕ) (c : Bool) → (a && b && nat_lt v 128 && c) ≡ true → v < 128
below_by a b v c e = grind (arith, nat_tests)

module _ (o : Offer) (s : State) (q : Setup) where
  status_endpoint_kept : Kept s q (status_of_endpoint o s q)
  status_endpoint_kept =
      if_kept s q (names_endpoint_zero q.index) (when (has_address s) (tells q (0 ∷ 0 ∷ [])))
      (when (is_configured s && names_endpoint o s q.index) (tells q (halt_of s.halts q.index ∷ 0 ∷ [])))
      (λ e. when_kept s q (has_address s) (tells q (0 ∷ 0 ∷ [])) (λ i. tells_kept s q 0 (0 ∷ [])))
      (λ e. when_kept s q (is_configured s && names_endpoint o s q.index) (tells q (halt_of s.halts q.index ∷ 0 ∷ []))
      (λ i. tells_kept s q (halt_of s.halts q.index) (0 ∷ [])))

  status_kept : (r : Recipient) → Kept s q (status_of r o s q)
  status_kept Device =
      when_kept s q (has_address s && (q.index == 0)) (tells q ((shown_attributes o s / 64 % 2 + 2 * one_if s.wakeup) ∷ 0 ∷ []))
      (λ e. tells_kept s q (shown_attributes o s / 64 % 2 + 2 * one_if s.wakeup) (0 ∷ []))
  status_kept Interface =
      when_kept s q (is_configured s && names_interface o s q.index) (tells q (0 ∷ 0 ∷ [])) (λ e. tells_kept s q 0 (0 ∷ []))
  status_kept Endpoint = status_endpoint_kept
  status_kept Other = tt
  status_kept Reserved = tt

  feature_kept : (on : Bool) (r : Recipient) → (is_set_address q ≡ true → ⊥) → Kept s q (feature_of r on o s q)
  feature_kept on Device other =
      when_kept s q (has_address s && (q.value == 1) && (q.index == 0) && list_any can_wake o.sets) (does q (record s { wakeup = on }))
      (λ e. does_kept s q (record s { wakeup = on }) refl other)
  feature_kept on Interface other = tt
  feature_kept on Endpoint other =
      when_kept s q (is_configured s && (q.value == 0) && not (names_endpoint_zero q.index) && names_endpoint o s q.index)
      (does q (record s { halts = changed_halts on s.halts q.index }))
      (λ e. does_kept s q (record s { halts = changed_halts on s.halts q.index }) refl other)
  feature_kept on Other other = tt
  feature_kept on Reserved other = tt

  configuration_kept : (is_set_address q ≡ true → ⊥) → Kept s q (set_configuration o s q)
  configuration_kept other =
      when_kept s q
      (is_device (recipient_of q.request_type) && has_address s && (q.index == 0) && nat_lt q.value 256
      && ((q.value == 0) || list_any (has_value q.value) o.sets))
      (does q (record s { selected = q.value; alternates = first_alternates; halts = 0 }))
      (λ e. does_kept s q (record s { selected = q.value; alternates = first_alternates; halts = 0 }) refl other)

  interface_kept : (is_set_address q ≡ true → ⊥) → Kept s q (set_interface o s q)
  interface_kept other =
      let next : State = record s {
        alternates = slice_set s.alternates q.index q.value;
        halts = fold without_halt s.halts (interface_addresses (selected_settings o s) q.index);
      } in
      when_kept s q (is_interface (recipient_of q.request_type) && is_configured s && names_alternate o s q.index q.value) (does q next)
      (λ e. does_kept s q next refl other)

  row_kept : class_of q.request_type ≡ classes.Standard → Kept s q (row o s q)
  row_kept standard =
      if_kept s q (q.request == 0) _ _ (λ e. when_kept s q (q.value == 0) _ (λ i. status_kept (recipient_of q.request_type)))
      (λ n0. if_kept s q (q.request == 1) _ _ (λ e. feature_kept false (recipient_of q.request_type) (other_code q 1 e refl))
      (λ n1. if_kept s q (q.request == 3) _ _ (λ e. feature_kept true (recipient_of q.request_type) (other_code q 3 e refl))
      (λ n3. if_kept s q (q.request == 5) _ _
      (λ e. when_kept s q (is_device (recipient_of q.request_type) && not (is_configured s) && nat_lt q.value 128 && (q.index == 0))
      (does q (record s { address = q.value }))
      (λ i. goes_kept s q (set_by q e standard (first_by (is_device (recipient_of q.request_type)) (not (is_configured s)) q.value (q.index == 0) i))
      (below_by (is_device (recipient_of q.request_type)) (not (is_configured s)) q.value (q.index == 0) i)))
      (λ n5. if_kept s q (q.request == 6) _ _
      (λ e. when_kept s q (is_device (recipient_of q.request_type)) _
      (λ i. gives_kept s q (o.descriptor (q.value / 256) (q.value % 256) q.index) (other_code q 6 e refl)))
      (λ n6. if_kept s q (q.request == 8) _ _ (λ e. when_kept s q _ _ (λ i. tells_kept s q s.selected []))
      (λ n8. if_kept s q (q.request == 9) _ _ (λ e. configuration_kept (other_code q 9 e refl))
      (λ n9. if_kept s q (q.request == 10) _ _ (λ e. when_kept s q _ _ (λ i. tells_kept s q (slice_index s.alternates q.index) []))
      (λ n10. if_kept s q (q.request == 11) _ _ (λ e. interface_kept (other_code q 11 e refl))
      (λ n11. tt)))))))))

  answer_of_kept : (c : Class) → class_of q.request_type ≡ c → Kept s q (answer_of c o s q)
  unfolding answer_of
  answer_of_kept classes.Standard e = row_kept e
  answer_of_kept classes.Class e = tt
  answer_of_kept classes.Vendor e = tt
  answer_of_kept classes.Reserved e = tt

answer_kept : (f : DescriptorFile) (s : State) (q : Setup) → Kept s q (answer f s q)
unfolding answer
answer_kept f s q = answer_of_kept (offer_of f) s q (class_of q.request_type) refl

-- the table of requests is one that the laws are about
pub table_kept : (f : DescriptorFile) → IsTable (answer f)
table_kept f =
    record {
      answering = λ s q. record {
        bytes = λ b e. (let kept = subst (λ a. Kept s q a) e (answer_kept f s q) in (kept.0, kept.1));
        takes = λ judge e. subst (λ a. Kept s q a) e (answer_kept f s q);
        done = λ t e. (subst (λ a. Kept s q a) e (answer_kept f s q)).0;
        stays = λ t e. (subst (λ a. Kept s q a) e (answer_kept f s q)).1;
      };
      fits = λ s q b e. (subst (λ a. Kept s q a) e (answer_kept f s q)).2;
      goes = λ s q t e. (subst (λ a. Kept s q a) e (answer_kept f s q)).2;
    }
