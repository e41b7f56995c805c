-- The file that is made of a dump: a text in each place that names a string.
use Rattle.std.specs.Prelude.{◌≡◌, ◌⊎◌, ℕ, List, [], ◌∷◌, ◌++◌, map, codes, Some}
use Rattle.std.specs.Fmt.{decimal}
use Rattle.usb_file_data.specs.declared.file.DescriptorFile.{DescriptorFile}
use Rattle.usb_file_data.specs.File.{File, named_indices}
use Rattle.usb_file_data.specs.Inputs.{Dump}

-- the units of the text for an index: the word and the index
abbrev pub index_text : ℕ → List ℕ
index_text index = codes "string " ++ decimal index

-- the dump with such a text for each index that it names, in one language, 0409 hexadecimal (9.6.7)
abbrev pub completed : DescriptorFile → DescriptorFile
completed f = record f { strings = Some (record { languages = 1033 ∷ []; texts = map index_text (named_indices f) }) }

-- the bytes are those of the file, or of a dump of which it is made
abbrev pub IsCompleted : DescriptorFile → List ℕ → Type 0
IsCompleted f b = File f b ⊎ ((dump : DescriptorFile) × Dump dump b × (f ≡ completed dump))
