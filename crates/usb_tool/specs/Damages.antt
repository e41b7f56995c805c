-- What `--damage` and its value say.
use Rattle.std.specs.Prelude.{◌≡◌, ◌==◌, ◌&&◌, nat_lt, ℕ, List, [], ◌∷◌, ◌++◌, Option, Some, None, if◌then◌else◌, option_map, option_and_then}
use Rattle.std.specs.Borrow.{Bor}
use Rattle.std.specs.List.{slice_split}
use Rattle.usb_tool.specs.OptionValues.{number_of}
use Rattle.usb_bus.specs.declared.wire.change.BitChange.{BitChange}
use Rattle.usb_tool.specs.declared.settings.SettingsFault.{SettingsFault}
use Rattle.usb_tool.specs.declared.settings.SettingsFault.TheVariants as faults

-- the parts of a text between characters of this code
abbrev pub parts_at : ℕ → List ℕ → List (List ℕ)
parts_at code text = slice_split (λ b. b == code) text

-- what each part says, one after another, where each says something
unfoldable pub all_said : {A : Type 0} → (A → Option (List BitChange)) → List A → Option (List BitChange)
all_said says [] = Some []
all_said says (part ∷ parts) = option_and_then (λ first. option_map (λ rest. first ++ rest) (all_said says parts)) (says part)

-- the number of a transaction, counted from 1
abbrev pub transaction_said : List ℕ → Option ℕ
transaction_said text = option_and_then (λ n. if n == 0 then None else Some n) (number_of 64 text)

-- the number of a packet in it, counted from 1: there are at most three
abbrev pub packet_said : List ℕ → Option ℕ
packet_said text = option_and_then (λ n. if nat_lt 0 n && nat_lt n 4 then Some n else None) (number_of 8 text)

-- the change of one bit in this packet
abbrev pub bit_said : ℕ → ℕ → List ℕ → Option (List BitChange)
bit_said transaction packet text =
    option_map (λ bit. record { transaction = transaction; packet = packet; bit = bit } ∷ []) (number_of 32 text)

-- those of bits with a `,` between them, which is 44 in ASCII
abbrev pub bits_said : ℕ → ℕ → List ℕ → Option (List BitChange)
bits_said transaction packet text = all_said (bit_said transaction packet) (parts_at 44 text)

-- those of an entry of these parts: a transaction, a packet in it, and bits in that
abbrev pub entry_said : List (List ℕ) → Option (List BitChange)
entry_said (first ∷ second ∷ bits ∷ []) =
    option_and_then (λ transaction. option_and_then (λ packet. bits_said transaction packet bits) (packet_said second)) (transaction_said first)
entry_said parts = None

-- those of a text: its entries have a `;` between them, which is 59, and an entry's parts a `:`, which is 58
abbrev pub damages_of : List ℕ → Option (List BitChange)
damages_of text = all_said (λ entry. entry_said (parts_at 58 entry)) (parts_at 59 text)

-- why this is refused: it says nothing, or memory is wanting
abbrev pub RefusesSaid : Option (List BitChange) → SettingsFault → Type 0
RefusesSaid said faults.Damages = said ≡ None
RefusesSaid said faults.Memory = Unit {0}
RefusesSaid said fault = ⊥

abbrev pub RefusesDamages : List ℕ → SettingsFault → Type 0
RefusesDamages text = RefusesSaid (damages_of text)

-- what is said was added to these changes
abbrev pub AddsSaid : Option (List BitChange) → List BitChange → List BitChange → Type 0
AddsSaid None old new = ⊥
AddsSaid (Some more) old new = new ≡ old ++ more

-- those of the option: none where it is absent
abbrev pub damage_said : Option (Bor (List ℕ)) → Option (List BitChange)
damage_said None = Some []
damage_said (Some text) = damages_of text.now
