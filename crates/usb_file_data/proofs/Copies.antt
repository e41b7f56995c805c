-- A copy is its original.
use Rattle.std.proofs.Common.{◌≡◌, rules, Result, Ok, Err}
use Rattle.std.proofs.lemmas.List.Elements.{same_from_all_zip}
use Rattle.std.specs.Prelude.{IfOk}
use Rattle.std.specs.Result.{MatchResult}
use Rattle.usb_set.specs.declared.tree.Configuration.{Configuration}
use Rattle.usb_set.specs.contracts.tree.ConfigurationClone.TheImpl as configuration
use Rattle.usb_file_data.specs.declared.file.DescriptorFile.{DescriptorFile}
use Rattle.usb_file_data.specs.declared.file.Other.{Other}
use Rattle.usb_file_data.specs.declared.file.Strings.{Strings}
use Rattle.usb_file_data.specs.contracts.file.DescriptorFileClone.TheImpl as file
use Rattle.usb_file_data.specs.contracts.file.OtherClone.TheImpl as other
use Rattle.usb_file_data.specs.contracts.file.StringsClone.TheImpl as strings

copied_configuration : (c d : Configuration) → (configuration.is_clone-value).it c d → d ≡ c
copied_configuration c d h = search (rules, same_from_all_zip)

pub copied_other : (o p : Other) → (other.is_clone-value).it o p → p ≡ o
copied_other o p h = search (rules, copied_configuration, same_from_all_zip)

copied_strings : (s t : Strings) → (strings.is_clone-value).it s t → t ≡ s
copied_strings s t h = search (rules, same_from_all_zip)

pub copied_file : (f g : DescriptorFile) → (file.is_clone-value).it f g → g ≡ f
copied_file f g h = search (rules, copied_configuration, copied_other, copied_strings, same_from_all_zip)

-- what holds of each copy holds where one is given
pub if_copied : {T E : Type 0} (r : Result T E) (P Q : T → Type 0) (N : E → Type 0) → MatchResult r P N → ((x : T) → P x → Q x) → IfOk r Q
if_copied (Ok x) P Q N h all = all x h
if_copied (Err e) P Q N h all = tt
