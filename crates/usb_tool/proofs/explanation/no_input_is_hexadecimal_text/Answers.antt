use Rattle.std.proofs.Common.{◌≡◌, ℕ, List, slice_index, ap}
use Rattle.usb_set.specs.declared.tree.SetKind.{SetKind}
use Rattle.usb_set.specs.declared.tree.SetKind.TheVariants as kinds
use Rattle.usb_set.specs.Descriptors.{type_number}
use Rattle.usb_file_data.specs.declared.file.Input.TheVariants as inputs
use Rattle.usb_hex.specs.Hexadecimal.{IsApart}
use Rattle.usb_hex.proofs.Apart.{apart}
use Rattle.usb_tool.specs.Explains.{NoInputIsHexadecimal}
use Rattle.usb_tool.proofs.explanation.no_input_is_hexadecimal_text.Goals as goal

second : (b : List ℕ) (kind : SetKind) → IsApart b → slice_index b 1 ≡ type_number kind → ⊥
second b kinds.Configuration apart is = apart.configuration is
second b kinds.OtherSpeed apart is = apart.other_speed is

none : NoInputIsHexadecimal
none (inputs.Set set) b bytes layout text = second b set.kind (apart b bytes text) (ap (λ (s : List ℕ). slice_index s 1) layout.bytes)
none (inputs.File file) b bytes layout text = (apart b bytes text).device (ap (λ (s : List ℕ). slice_index s 0) layout.bytes)
none (inputs.Dump file) b bytes layout text = (apart b bytes text).device (ap (λ (s : List ℕ). slice_index s 0) layout.bytes)

pub returns : goal.returns
returns c = none
