-- Requests whose answers aren't compared, and transfers in which no other answer is found.
use Rattle.std.proofs.Common.{◌≡◌, ◌==◌, ◌&&◌, ◌||◌, nat_lt, ℕ, Bool, false, not, List, refl, ap}
use Rattle.std.specs.List.{AllByRecursion}
use Rattle.std.proofs.lemmas.Bool.{and_right, or_from}
use Rattle.usb_fields.specs.declared.setup.Setup.{Setup}
use Rattle.usb_capture.specs.declared.control_transfer.ControlTransfer.{ControlTransfer}
use Rattle.usb_capture.specs.DeviceStates.{answers_otherwise, asks_for_status, changes_feature, differs_in, is_compared, is_of_setting, state_known}
use Rattle.usb_capture.specs.Findings.{asked_of, has_other_configuration, reads_configuration, refuses_status, said}
use Rattle.usb_capture.specs.TransferFindings.{is_found}
use Rattle.usb_recorded_runs.specs.Answers.{found_otherwise}

-- ---- requests

second_false : (a b c d e : Bool) → b ≡ false → (a && b && c && d && e) ≡ false
second_false a b c d e none = ap (λ x. x && c && d && e) (and_right a b none)

second_of_four : (a b c d : Bool) → b ≡ false → (a && b && c && d) ≡ false
second_of_four a b c d none = ap (λ x. x && c && d) (and_right a b none)

-- bRequest of the requests whose answers are compared
abbrev pub is_compared_code : ℕ → Bool
is_compared_code request = request == 0 || request == 1 || request == 3 || request == 8 || request == 10 || request == 11

module _ (q : Setup) where
  not_of_status : (q.request == 0) ≡ false → asks_for_status q ≡ false
  not_of_status e =
      second_false ((q.request_type == 128 && q.index == 0) || q.request_type == 129 || q.request_type == 130) (q.request == 0) (q.value == 0)
      (nat_lt q.index 256) (q.length == 2) e

  not_of_feature : (q.request == 1) ≡ false → (q.request == 3) ≡ false → changes_feature q ≡ false
  not_of_feature clears sets =
      let of : Bool = (q.request_type == 0 && q.value == 1 && q.index == 0) || (q.request_type == 2 && q.value == 0 && nat_lt q.index 256) in
      ap (λ b. b && q.length == 0 && of) (or_from (q.request == 1) (q.request == 3) clears sets)

  not_of_setting : (q.request == 10) ≡ false → (q.request == 11) ≡ false → is_of_setting q ≡ false
  not_of_setting gets sets =
      let asks : Bool = q.request_type == 129 && q.request == 10 && q.value == 0 && q.length == 1 in
      let chooses : Bool = q.request_type == 1 && q.request == 11 && nat_lt q.value 256 && q.length == 0 in
      and_right (nat_lt q.index 256) (asks || chooses)
      (or_from asks chooses (second_of_four (q.request_type == 129) (q.request == 10) (q.value == 0) (q.length == 1) gets)
      (second_of_four (q.request_type == 1) (q.request == 11) (nat_lt q.value 256) (q.length == 0) sets))

  not_of_configuration : (q.request == 8) ≡ false → reads_configuration q ≡ false
  not_of_configuration e = second_false (q.request_type == 128) (q.request == 8) (q.value == 0) (q.index == 0) (q.length == 1) e

  pub uncompared : is_compared_code q.request ≡ false → is_compared q ≡ false
  uncompared e = of (q.request == 0) (q.request == 1) (q.request == 3) (q.request == 8) (q.request == 10) (q.request == 11) refl refl refl refl refl refl e
    where
      of : (status clears sets configuration gets chooses : Bool) → (q.request == 0) ≡ status → (q.request == 1) ≡ clears → (q.request == 3) ≡ sets
          → (q.request == 8) ≡ configuration → (q.request == 10) ≡ gets → (q.request == 11) ≡ chooses
          → (status || clears || sets || configuration || gets || chooses) ≡ false → is_compared q ≡ false
      of false false false false false false a b c d g h e =
          or_from (asks_for_status q || changes_feature q || is_of_setting q) (reads_configuration q)
          (or_from (asks_for_status q || changes_feature q) (is_of_setting q)
          (or_from (asks_for_status q) (changes_feature q) (not_of_status a) (not_of_feature b c)) (not_of_setting g h)) (not_of_configuration d)
      of status clears sets configuration gets chooses a b c d g h e = absurd (let w : ⊥ = cc in w)

-- ---- findings

-- where a transfer shows no other answer
pub none_otherwise : (earlier : List ControlTransfer) (t : ControlTransfer) → answers_otherwise earlier t ≡ false
    → AllByRecursion (λ finding. is_found finding earlier t ≡ false) found_otherwise
none_otherwise earlier t same =
    let last : (a : Bool) → (a && answers_otherwise earlier t) ≡ false = λ a. and_right a (answers_otherwise earlier t) same in (
      last (reads_configuration t.setup && not (has_other_configuration (λ asked. said asked earlier) t)),
      (last (asks_for_status t.setup && not (refuses_status t)), (last (changes_feature t.setup), (last (is_of_setting t.setup), tt))),
    )

pub uncompared_free : (earlier : List ControlTransfer) (t : ControlTransfer) → is_compared_code t.setup.request ≡ false
    → AllByRecursion (λ finding. is_found finding earlier t ≡ false) found_otherwise
uncompared_free earlier t other =
    none_otherwise earlier t (ap (λ b. b && differs_in (λ asked. said asked earlier) (state_known (asked_of t) earlier) t) (uncompared t.setup other))
