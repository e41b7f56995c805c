-- The rows of class descriptors have names, and their fields names and bytes.
use Rattle.std.proofs.Common.{◌≡◌, refl, Bool, true, false, ℕ, List, Option, None, Some, IfSome, IsTrue, if◌then◌else◌}
use Rattle.std.specs.List.{list_all}
use Rattle.std.proofs.lemmas.List.Folds.{list_all-append}
use Rattle.usb_names.specs.declared.codes.ClassCodes.{ClassCodes}
use Rattle.usb_names.specs.Classes.{class_has_names, class_row, classes}
use Rattle.usb_names.specs.Rows.{application_rows, audio_rows, cdc_data_rows, class_rows, communications_rows, first_row, further_video_rows, hid_rows, hub_rows, mass_storage_rows, newer_audio_rows, other_rows, rows_behind, rows_of_class, smart_card_rows, standard_rows, video_rows}
use Rattle.usb_names.specs.Shown.{Row, is_row}
use Rattle.usb_names.proofs.RowLemmas.{found_passes}

abbrev AreRows : List Row → Type 0
AreRows rows = list_all is_row rows ≡ true

abbrev AllRows : Type 0
AllRows =
    AreRows standard_rows × AreRows newer_audio_rows × AreRows audio_rows × AreRows communications_rows × AreRows hid_rows × AreRows mass_storage_rows × AreRows hub_rows × AreRows cdc_data_rows × AreRows smart_card_rows × AreRows video_rows × AreRows further_video_rows × AreRows application_rows × AreRows other_rows

all_rows : AllRows
unfolding standard_rows newer_audio_rows audio_rows communications_rows hid_rows mass_storage_rows hub_rows cdc_data_rows smart_card_rows video_rows further_video_rows application_rows other_rows
all_rows = (refl, refl, refl, refl, refl, refl, refl, refl, refl, refl, refl, refl, refl)

either : (b : Bool) (xs ys : List Row) → list_all is_row (if b then xs else ys) ≡ (if b then list_all is_row xs else list_all is_row ys)
either true xs ys = refl
either false xs ys = refl

same : (b x : Bool) → (if b then x else x) ≡ x
same true x = refl
same false x = refl

all_of_class : (class : ℕ) → AreRows (class_rows class)
all_of_class class =
    let all = all_rows in
    simp (either, list_all-append is_row, all.1, all.2, all.3, all.4, all.5, all.6, all.7, all.8, all.9, all.10, all.11, same) refl

all_of_interface : (interface : Option ClassCodes) → AreRows (rows_of_class interface)
all_of_interface None = refl
all_of_interface (Some codes) = all_of_class codes.class

all_behind : (interface : Option ClassCodes) (type : ℕ) → AreRows (rows_behind interface type)
all_behind interface type =
    let all = all_rows in simp (either, list_all-append is_row, all.0, all_of_interface interface, all.12, same) refl

pub row_passes : (interface : Option ClassCodes) (type : ℕ) (body : List ℕ)
    → IfSome (first_row (rows_behind interface type) interface type body) (λ row. IsTrue (is_row row))
row_passes interface type body = found_passes is_row _ (rows_behind interface type) (all_behind interface type)

all_classes : list_all class_has_names classes ≡ true
unfolding classes
all_classes = refl

pub class_passes : (class : ℕ) → IfSome (class_row class) (λ row. IsTrue (class_has_names row))
class_passes class = found_passes class_has_names _ classes all_classes
