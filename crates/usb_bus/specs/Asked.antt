-- What a host reads of a device with these descriptors, by what it asks for.
use Rattle.std.specs.Prelude.{ℕ, List, [], ◌∷◌, map, Option, Some, None, if◌then◌else◌, unwrap_or}
use Rattle.std.specs.List.{flat_map}
use Rattle.usb_file_data.specs.declared.file.DescriptorFile.{DescriptorFile}
use Rattle.usb_file_data.specs.declared.file.Strings.{Strings}
use Rattle.usb_file_data.specs.File.{named_indices, units_of}
use Rattle.usb_host.specs.Terms.{is_asked}
use Rattle.usb_host.specs.declared.choice.Choice.{Choice}

-- all but the strings, with the other speed where it is asked for (USB 2.0, 9.6.1 to 9.6.4)
abbrev pub without_strings : Choice → DescriptorFile → DescriptorFile
without_strings choice f = record { device = f.device; sets = f.sets; other = if choice.other_speed then f.other else None; strings = None }

-- language by language, the string of each of these indices
abbrev pub texts_of : DescriptorFile → List ℕ → List ℕ → List (List ℕ)
texts_of f named languages = flat_map (λ language. map (λ index. unwrap_or (units_of f index language) []) named) languages

-- the languages and these strings, where there are any (9.6.7)
abbrev pub strings_of : DescriptorFile → List ℕ → Option Strings → Option Strings
strings_of f named None = None
strings_of f [] (Some s) = None
strings_of f (index ∷ more) (Some s) = Some (record { languages = s.languages; texts = texts_of f (index ∷ more) s.languages })

-- What is asked for: without the other speed there are strings of those indices alone that the device descriptor and its own sets
-- name.
abbrev pub asked_of : Choice → DescriptorFile → DescriptorFile
asked_of choice f =
    let g = without_strings choice f in
    record g { strings = if is_asked choice.strings then strings_of f (named_indices g) f.strings else None }
