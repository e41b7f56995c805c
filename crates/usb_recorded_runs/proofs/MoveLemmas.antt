-- Which states the requests to a device lead to.
use Rattle.std.proofs.Common.{◌≡◌, ◌⊎◌, inl, inr, ◌*◌, ◌+◌, ◌/◌, ◌%◌, ◌==◌, ◌&&◌, ◌||◌, nat_lt, ℕ, Bool, true, false, not, if◌then◌else◌, List, [], ◌∷◌, length, take, refl, sym, ◌∙◌, ap}
use Rattle.std.specs.Prelude.{Option, Some, None, fold, slice_index, slice_set}
use Rattle.std.specs.List.{list_any}
use Rattle.std.proofs.lemmas.Bool.{and_from, and_parts, or_left, or_right}
use Rattle.usb_fields.specs.declared.setup.Class.{Class}
use Rattle.usb_fields.specs.declared.setup.Class.TheVariants as classes
use Rattle.usb_fields.specs.declared.setup.Direction.{Direction}
use Rattle.usb_fields.specs.declared.setup.Direction.TheVariants as directions
use Rattle.usb_fields.specs.declared.setup.Recipient.{Recipient}
use Rattle.usb_fields.specs.declared.setup.Recipient.TheVariants.{Device, Interface, Endpoint, Other, Reserved}
use Rattle.usb_fields.specs.declared.setup.Setup.{Setup}
use Rattle.usb_fields.specs.Setup.{class_of, direction_of, recipient_of}
use Rattle.usb_file_data.specs.declared.file.DescriptorFile.{DescriptorFile}
use Rattle.usb_device.specs.declared.state.State.{State}
use Rattle.usb_device.specs.Descriptors.{descriptor}
use Rattle.usb_device.specs.Freedoms.{is_standard}
use Rattle.usb_device.specs.Offers.{Offer, SetOffer, offer_of}
use Rattle.usb_device.specs.Requests.{Outcome, Bytes, Done, Refused, Takes, answer, answer_of, answer_to, bytes_in, can_wake, changed_halts, does, feature_of, get_configuration, get_descriptor, get_interface, gives, has_value, interface_addresses, is_device, is_interface, names_alternate, names_endpoint, names_endpoint_zero, one_if, row, selected_settings, set_address, set_configuration, set_interface, shown_attributes, status_of, status_of_endpoint, tells, when}
use Rattle.usb_device.specs.States.{first_alternates, halt_of, has_address, is_configured, without_halt}
use Rattle.usb_device.specs.Step.{carried_out, is_set_address}
use Rattle.usb_bus.specs.Beside.{IsTable}
use Rattle.usb_capture.specs.DeviceStates.{changes_state}

-- ---- the rows of the table

module _ (f : DescriptorFile) (s : State) (q : Setup) where
  -- The state stays, or its address changes, or the request is one of those that change more of a device that has an address.
  abbrev Moves : State → Type 0
  Moves next = (next ≡ s) ⊎ ((next ≡ record s { address = q.value }) ⊎ ((changes_state q ≡ true) × (has_address s ≡ true)))

  abbrev Leads : Outcome → Type 0
  Leads (Bytes bytes) = Unit {0}
  Leads (Done next) = Moves next
  Leads Refused = Unit {0}
  Leads (Takes judge) = Unit {0}

  if_leads : (c : Bool) (a b : Outcome) → (c ≡ true → Leads a) → Leads b → Leads (if c then a else b)
  if_leads true a b x y = x refl
  if_leads false a b x y = y

  when_leads : (c : Bool) (a : Outcome) → (c ≡ true → Leads a) → Leads (when c a)
  when_leads true a x = x refl
  when_leads false a x = tt

  bytes_lead : (d : Direction) (b : List ℕ) → Leads (bytes_in d b)
  bytes_lead directions.In b = tt
  bytes_lead directions.Out b = tt

  gives_leads : (o : Option (List ℕ)) → Leads (gives s q o)
  gives_leads None = tt
  gives_leads (Some b) =
      if_leads (q.length == 0) (Done s) (bytes_in (direction_of q.request_type) (take q.length b)) (λ e. inl refl)
      (bytes_lead (direction_of q.request_type) (take q.length b))

  tells_leads : (b : List ℕ) → Leads (tells q b)
  tells_leads b = when_leads (q.length == length b) (bytes_in (direction_of q.request_type) b) (λ e. bytes_lead (direction_of q.request_type) b)

  does_leads : (next : State) → Moves next → Leads (does q next)
  does_leads next moves = when_leads (q.length == 0) (Done next) (λ e. moves)

  status_endpoint_leads : Leads (status_of_endpoint (offer_of f) s q)
  status_endpoint_leads =
      if_leads (names_endpoint_zero q.index) (when (has_address s) (tells q (0 ∷ 0 ∷ [])))
      (when (is_configured s && names_endpoint (offer_of f) s q.index) (tells q (halt_of s.halts q.index ∷ 0 ∷ [])))
      (λ e. when_leads (has_address s) (tells q (0 ∷ 0 ∷ [])) (λ e. tells_leads (0 ∷ 0 ∷ [])))
      (when_leads (is_configured s && names_endpoint (offer_of f) s q.index) (tells q (halt_of s.halts q.index ∷ 0 ∷ []))
      (λ e. tells_leads (halt_of s.halts q.index ∷ 0 ∷ [])))

  status_leads : (r : Recipient) → Leads (status_of r (offer_of f) s q)
  status_leads Device = when_leads _ _ (λ e. tells_leads ((shown_attributes (offer_of f) s / 64 % 2 + 2 * one_if s.wakeup) ∷ 0 ∷ []))
  status_leads Interface = when_leads _ _ (λ e. tells_leads (0 ∷ 0 ∷ []))
  status_leads Endpoint = status_endpoint_leads
  status_leads Other = tt
  status_leads Reserved = tt

  first_of_four : (a b c d : Bool) → (a && b && c && d) ≡ true → a ≡ true
  first_of_four a b c d e = (and_parts a b (and_parts (a && b) c (and_parts (a && b && c) d e).0).0).0

  has_one : is_configured s ≡ true → has_address s ≡ true
  has_one e = (and_parts (has_address s) (not (s.selected == 0)) e).0

  module _ (changes : changes_state q ≡ true) where
    feature_leads : (on : Bool) (r : Recipient) → Leads (feature_of r on (offer_of f) s q)
    feature_leads on Device =
        when_leads _ _ (λ e.
        does_leads (record s { wakeup = on })
        (inr (inr (changes, first_of_four (has_address s) (q.value == 1) (q.index == 0) (list_any can_wake (offer_of f).sets) e))))
    feature_leads on Interface = tt
    feature_leads on Endpoint =
        when_leads _ _ (λ e.
        does_leads (record s { halts = changed_halts on s.halts q.index })
        (inr (inr (
          changes,
          has_one
              (first_of_four (is_configured s) (q.value == 0) (not (names_endpoint_zero q.index)) (names_endpoint (offer_of f) s q.index) e),
        ))))
    feature_leads on Other = tt
    feature_leads on Reserved = tt

    configuration_leads : Leads (set_configuration (offer_of f) s q)
    configuration_leads =
        when_leads _ _ (λ e.
        let first = first_of_four (is_device (recipient_of q.request_type) && has_address s) (q.index == 0) (nat_lt q.value 256)
        ((q.value == 0) || list_any (has_value q.value) (offer_of f).sets) e in
        does_leads (record s { selected = q.value; alternates = first_alternates; halts = 0 })
        (inr (inr (changes, (and_parts (is_device (recipient_of q.request_type)) (has_address s) first).1))))

    interface_leads : Leads (set_interface (offer_of f) s q)
    interface_leads =
        let next : State = record s {
          alternates = slice_set s.alternates q.index q.value;
          halts = fold without_halt s.halts (interface_addresses (selected_settings (offer_of f) s) q.index);
        } in
        when_leads (is_interface (recipient_of q.request_type) && is_configured s && names_alternate (offer_of f) s q.index q.value) (does q next) (λ e.
        let first = (and_parts (is_interface (recipient_of q.request_type) && is_configured s) (names_alternate (offer_of f) s q.index q.value) e).0 in
        does_leads next (inr (inr (changes, has_one (and_parts (is_interface (recipient_of q.request_type)) (is_configured s) first).1))))

  row_leads : is_standard (class_of q.request_type) ≡ true → Leads (row (offer_of f) s q)
  row_leads standard =
      let clears : Bool = q.request == 1 in
      let sets : Bool = q.request == 3 in
      let configures : Bool = q.request == 9 in
      let chooses : Bool = q.request == 11 in
      let changes : (clears || sets || configures || chooses) ≡ true → changes_state q ≡ true =
      λ e. and_from (is_standard (class_of q.request_type)) (clears || sets || configures || chooses) standard e in
      if_leads (q.request == 0) _ _ (λ e. when_leads (q.value == 0) _ (λ e. status_leads (recipient_of q.request_type)))
      (if_leads (q.request == 1) _ _ (λ e.
      feature_leads (changes (or_left (clears || sets || configures) chooses (or_left (clears || sets) configures (or_left clears sets e)))) false
      (recipient_of q.request_type))
      (if_leads (q.request == 3) _ _ (λ e.
      feature_leads (changes (or_left (clears || sets || configures) chooses (or_left (clears || sets) configures (or_right clears sets e)))) true
      (recipient_of q.request_type))
      (if_leads (q.request == 5) _ _ (λ e.
      when_leads (is_device (recipient_of q.request_type) && not (is_configured s) && nat_lt q.value 128 && (q.index == 0))
      (does q (record s { address = q.value })) (λ e. does_leads (record s { address = q.value }) (inr (inl refl))))
      (if_leads (q.request == 6) _ _ (λ e.
      when_leads (is_device (recipient_of q.request_type)) _ (λ e. gives_leads (descriptor f (q.value / 256) (q.value % 256) q.index)))
      (if_leads (q.request == 8) _ _ (λ e. when_leads _ _ (λ e. tells_leads (s.selected ∷ [])))
      (if_leads (q.request == 9) _ _ (λ e.
      configuration_leads (changes (or_left (clears || sets || configures) chooses (or_right (clears || sets) configures e))))
      (if_leads (q.request == 10) _ _ (λ e. when_leads _ _ (λ e. tells_leads (slice_index s.alternates q.index ∷ [])))
      (if_leads (q.request == 11) _ _ (λ e. interface_leads (changes (or_right (clears || sets || configures) chooses e))) tt))))))))

  answer_of_leads : (c : Class) → class_of q.request_type ≡ c → Leads (answer_of c (offer_of f) s q)
  unfolding answer_of
  answer_of_leads classes.Standard e = row_leads (ap is_standard e)
  answer_of_leads classes.Class e = tt
  answer_of_leads classes.Vendor e = tt
  answer_of_leads classes.Reserved e = tt

  answer_leads : Leads (answer f s q)
  unfolding answer
  answer_leads = answer_of_leads (class_of q.request_type) refl

-- ---- the state after a request

module _ (f : DescriptorFile) (table : IsTable (answer f)) (s : State) (q : Setup) where
  -- Another request than SET_ADDRESS leaves the state as it is, or changes it in a device that has an address, which stays.
  abbrev pub Keeps : State → Type 0
  Keeps next = (next ≡ s) ⊎ ((changes_state q ≡ true) × (has_address s ≡ true) × (next.address ≡ s.address))

  pub next_kept : is_set_address q ≡ false → Keeps (carried_out s (answer f s q))
  next_kept other = of (answer f s q) refl (answer_leads f s q)
    where
      done : (next : State) → next.address ≡ s.address → Moves f s q next → Keeps next
      done next stays (inl same) = inl same
      done next stays (inr (inl goes)) =
          let value : q.value ≡ s.address = sym (ap (λ u. u.address) goes) ∙ stays in inl (goes ∙ ap (λ a. record s { address = a }) value)
      done next stays (inr (inr changes)) = inr (changes.0, changes.1, stays)

      of : (o : Outcome) → answer f s q ≡ o → Leads f s q o → Keeps (carried_out s o)
      of (Bytes bytes) e leads = inl refl
      of (Done next) e leads = done next ((table.answering s q).stays next e other) leads
      of Refused e leads = inl refl
      of (Takes judge) e leads = inl refl

  -- and SET_ADDRESS changes the address, or is refused.
  pub next_gone : is_set_address q ≡ true → (carried_out s (answer f s q) ≡ s) ⊎ (carried_out s (answer f s q) ≡ record s { address = q.value })
  next_gone gives = of (answer f s q) refl
    where
      of : (o : Outcome) → answer f s q ≡ o → (carried_out s o ≡ s) ⊎ (carried_out s o ≡ record s { address = q.value })
      of (Bytes bytes) e = inl refl
      of (Done next) e = inr (table.goes s q next e gives).1
      of Refused e = inl refl
      of (Takes judge) e = inl refl

-- ---- answers by what is offered

module _ (s : State) (q : Setup) (other : (q.request == 6) ≡ false) where
  abbrev r : Recipient
  r = recipient_of q.request_type

  -- no descriptors, and these sets
  abbrev of_sets : List SetOffer → Offer
  of_sets sets = record { packet = 0; descriptor = λ type index language. None; sets = sets }

  same_status : (r : Recipient) (o : Offer) → status_of r o s q ≡ status_of r (of_sets o.sets) s q
  same_status Device o = refl
  same_status Interface o = refl
  same_status Endpoint o = refl
  same_status Other o = refl
  same_status Reserved o = refl

  same_feature : (on : Bool) (r : Recipient) (o : Offer) → feature_of r on o s q ≡ feature_of r on (of_sets o.sets) s q
  same_feature on Device o = refl
  same_feature on Interface o = refl
  same_feature on Endpoint o = refl
  same_feature on Other o = refl
  same_feature on Reserved o = refl

  -- the row, by the answers to GET_STATUS, CLEAR_FEATURE and SET_FEATURE, and whether it is that of GET_DESCRIPTOR
  abbrev row_where : Offer → Outcome → Outcome → Outcome → Bool → Outcome
  row_where o status cleared set reads =
      if q.request == 0 then when (q.value == 0) status
      else if q.request == 1 then cleared
      else if q.request == 3 then set
      else if q.request == 5 then set_address o s q
      else if reads then get_descriptor o s q
      else if q.request == 8 then get_configuration o s q
      else if q.request == 9 then set_configuration o s q
      else if q.request == 10 then get_interface o s q
      else if q.request == 11 then set_interface o s q
      else Refused

  row_less : (o : Offer) → row o s q ≡ row_where o (status_of r o s q) (feature_of r false o s q) (feature_of r true o s q) false
  row_less o = ap (row_where o (status_of r o s q) (feature_of r false o s q) (feature_of r true o s q)) other

  row_by : (o : Offer) (status cleared set : Outcome) → row_where o status cleared set false ≡ row_where (of_sets o.sets) status cleared set false
  row_by o status cleared set = refl

  same_row : (o : Offer) → row o s q ≡ row (of_sets o.sets) s q
  same_row o =
      let p = of_sets o.sets in
      row_less o
      ∙ ap (λ x. row_where o x (feature_of r false o s q) (feature_of r true o s q) false) (same_status r o)
      ∙ ap (λ x. row_where o (status_of r p s q) x (feature_of r true o s q) false) (same_feature false r o)
      ∙ ap (λ x. row_where o (status_of r p s q) (feature_of r false p s q) x false) (same_feature true r o)
      ∙ row_by o (status_of r p s q) (feature_of r false p s q) (feature_of r true p s q) ∙ sym (row_less p)

  same_of : (c : Class) (o : Offer) → answer_of c o s q ≡ answer_of c (of_sets o.sets) s q
  unfolding answer_of
  same_of classes.Standard o = same_row o
  same_of classes.Class o = refl
  same_of classes.Vendor o = refl
  same_of classes.Reserved o = refl

  -- An answer that gives no descriptor is that of each device that offers the same sets.
  pub same_answer : (f : DescriptorFile) (o : Offer) → o.sets ≡ (offer_of f).sets → answer_to o s q ≡ answer f s q
  unfolding answer answer_to
  same_answer f o same =
      same_of (class_of q.request_type) o ∙ ap (λ sets. answer_of (class_of q.request_type) (of_sets sets) s q) same
      ∙ sym (same_of (class_of q.request_type) (offer_of f))
