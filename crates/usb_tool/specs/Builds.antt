-- What `build` makes of its input: the bytes of the file that it lists, as they are or as hexadecimal text.
use Rattle.std.specs.Prelude.{◌≡◌, ℕ, ◌+◌, ◌==◌, if◌then◌else◌, Bool, true, false, List, [], ◌∷◌, ◌++◌}
use Rattle.std.specs.Io.KnownBytes.{Keeps}
use Rattle.hex.specs.Hex.{encode_lower}
use Rattle.usb_file_data.specs.declared.file.DescriptorFile.{DescriptorFile}
use Rattle.usb_file_data.specs.File.{File}
use Rattle.usb_listing.specs.declared.laws.TheConstants.{LISTING_LIMIT}
use Rattle.usb_listing.specs.declared.fault.ListWhy.{ListWhy}
use Rattle.usb_listing.specs.Comments.{uncommented, CommentedFaulty}
use Rattle.usb_listing.specs.Listing.{file_lines}
use Rattle.usb_listing.specs.Listings.{ListFaulty}
use Rattle.usb_text.specs.Output.{Held}
use Rattle.usb_tool.specs.Endings.{AppendsNone, Fails, Left, Refusal, Refuses, Reported}
use Rattle.usb_command_line.specs.declared.building.Building.{Building}
use Rattle.usb_tool.specs.declared.fault.ToolFault.{ToolFault}
use Rattle.usb_tool.specs.declared.fault.ToolFault.TheVariants as faults

-- what of a text is read as a listing: all of it, or what is left without comments, empty lines and carriage returns
abbrev pub listed_text : Bool → List ℕ → List ℕ
listed_text true text = uncommented text
listed_text false text = text

-- the fault is that of the first line at fault
abbrev pub FaultyBy : Bool → List ℕ → ℕ → ListWhy → Type 0
FaultyBy true = CommentedFaulty
FaultyBy false = ListFaulty

-- the bytes are those of the file that the text lists
pub record ListsBytes (comments : Bool) (text b : List ℕ) : Type 0 where
  pub file : DescriptorFile
  pub listing : listed_text comments text ≡ file_lines file
  pub layout : File file b

-- the last column of a line of hexadecimal text that has one, and the column of the next byte
abbrev pub is_last : ℕ → Bool
is_last column = column == 15

abbrev pub column_after : ℕ → ℕ
column_after column = if is_last column then 0 else column + 1

-- what is after the byte in a column: a line feed in the last one and where no byte follows, and else a space
abbrev pub part_after : ℕ → List ℕ → ℕ
part_after column [] = 10
part_after column (byte ∷ rest) = if is_last column then 10 else 32

-- bytes as hexadecimal text, the first one in this column: two lower-case digits each, 16 bytes a line
unfoldable pub hex_from : ℕ → List ℕ → List ℕ
hex_from column [] = []
hex_from column (byte ∷ rest) = encode_lower (byte ∷ []) ++ part_after column rest ∷ hex_from (column_after column) rest

abbrev pub hex_text : List ℕ → List ℕ
hex_text = hex_from 0

-- what is written of them
abbrev pub written_as : Bool → List ℕ → List ℕ
written_as true b = hex_text b
written_as false b = b

-- it is reported, with status 0
pub record TellsBuilt (o : Building) (text output : List ℕ) (status : ℕ) : Type 0 where
  pub bytes : List ℕ
  pub listed : ListsBytes o.comments text bytes
  pub written : output ≡ written_as o.hex bytes
  pub ended : status ≡ 0

-- a line is at fault, and nothing was written
abbrev pub RefusesListing : Bool → Refusal
RefusesListing comments text held holds (faults.List fault) = FaultyBy comments text fault.line fault.why × Keeps held holds
RefusesListing comments text held holds fault = ⊥

-- all was read, and the bytes of the file that it lists were written
abbrev pub Built : Building → Left → Left → Held → Held → ℕ → Type 0
Built o = Reported LISTING_LIMIT (TellsBuilt o)

-- how `build` fails: a prefix of that was written where a write failed, and else nothing
abbrev pub BuildFails : Building → Left → Left → Held → Held → ToolFault → Type 0
BuildFails o = Fails LISTING_LIMIT (Refuses AppendsNone (TellsBuilt o) (RefusesListing o.comments))
