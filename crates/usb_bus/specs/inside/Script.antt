-- The script of an enumeration in which nothing is lost: each request, and the reply to it (USB 2.0, 9.1.2 and 9.4).
use Rattle.std.specs.Prelude.{ℕ, suc, ◌&&◌, Bool, true, false, List, [], ◌∷◌, length, take, Option, Some, None}
use Rattle.usb_fields.specs.declared.setup.Setup.{Setup as SetupPacket}
use Rattle.usb_host.specs.declared.choice.Terms.{Terms}
use Rattle.usb_fields.specs.Device.{device_bytes, qualifier_bytes}
use Rattle.usb_fields.specs.Units.{units_bytes}
use Rattle.usb_set.specs.declared.tree.SetKind.{SetKind}
use Rattle.usb_set.specs.declared.tree.SetKind.TheVariants as kinds
use Rattle.usb_set.specs.declared.tree.Configuration.{Configuration}
use Rattle.usb_set.specs.Descriptors.{type_number}
use Rattle.usb_file_data.specs.declared.file.DescriptorFile.{DescriptorFile}
use Rattle.usb_file_data.specs.declared.file.Other.{Other}
use Rattle.usb_file_data.specs.declared.file.Strings.{Strings}
use Rattle.usb_file_data.specs.File.{whole_set, named_indices}
use Rattle.usb_host.specs.declared.reply.Reply.{Reply}
use Rattle.usb_host.specs.declared.reply.Reply.TheVariants.{Bytes, Done, Refused}
use Rattle.usb_device.specs.declared.state.State.{State}
use Rattle.usb_device.specs.States.{first_alternates}
use Rattle.usb_host.specs.Read.{get_descriptor, set_address, set_configuration, may_have_second}
use Rattle.usb_host.specs.Order.{first_value, index_due, language_due}

-- a request, the address it goes to, the packet size that the host takes there, and the reply to it
pub record Exchange : Type 0 where
  pub address : ℕ
  pub packet : ℕ
  pub request : SetupPacket
  pub reply : Reply

-- an exchange of these
abbrev pub exchange : ℕ → ℕ → SetupPacket → Reply → Exchange
exchange address packet q r = record { address = address; packet = packet; request = q; reply = r }

-- the replies alone
abbrev pub replies_in : List Exchange → List Reply
replies_in [] = []
replies_in (x ∷ xs) = x.reply ∷ replies_in xs

-- the device in the Address state (9.1.1.4)
abbrev pub addressed_state : ℕ → State
addressed_state address = record { address = address; selected = 0; alternates = first_alternates; halts = 0; wakeup = false }

-- with this address, and packets of this size
module _ (address packet : ℕ) where
  -- each set from this index on: its prefix, and the whole of it; and what comes after them
  abbrev pub set_script : SetKind → ℕ → List Configuration → List Exchange → List Exchange
  set_script kind i [] more = more
  set_script kind i (c ∷ cs) more =
      exchange address packet (get_descriptor (type_number kind) i 0 9) (Bytes (take 9 (whole_set c)))
      ∷ exchange address packet (get_descriptor (type_number kind) i 0 (length (whole_set c))) (Bytes (whole_set c))
      ∷ set_script kind (suc i) cs more

  -- strings from number k on
  abbrev pub text_script : List ℕ → List ℕ → ℕ → List (List ℕ) → List Exchange → List Exchange
  text_script languages named k [] more = more
  text_script languages named k (t ∷ ts) more =
      exchange address packet (get_descriptor 3 (index_due named k) (language_due languages named k) 255) (Bytes (units_bytes t))
      ∷ text_script languages named (suc k) ts more

  -- the language list and the strings, if there are any
  abbrev pub string_script : Option Strings → List ℕ → List Exchange → List Exchange
  string_script None named more = more
  string_script (Some s) named more =
      exchange address packet (get_descriptor 3 0 0 255) (Bytes (units_bytes s.languages)) ∷ text_script s.languages named 0 s.texts more

  -- the qualifier and the sets of the other speed; a device without one refuses to give a qualifier (9.6.2)
  abbrev pub other_script : Option Other → List Exchange → List Exchange
  other_script None more = exchange address packet (get_descriptor 6 0 0 10) Refused ∷ more
  other_script (Some o) more =
      exchange address packet (get_descriptor 6 0 0 10) (Bytes (qualifier_bytes o.qualifier)) ∷ set_script kinds.OtherSpeed 0 o.sets more

  -- the configuration
  abbrev pub last_script : DescriptorFile → List Exchange
  last_script f = exchange address packet (set_configuration (first_value f.sets)) Done ∷ []

  -- from the strings on
  abbrev pub named_script : DescriptorFile → List Exchange
  named_script f = string_script f.strings (named_indices f) (last_script f)

  -- from the second speed on, where the host asks for one
  abbrev pub second_script : Bool → DescriptorFile → List Exchange
  second_script true f = other_script f.other (named_script f)
  second_script false f = named_script f

  -- all of it, for these descriptors
  abbrev pub script : Terms → DescriptorFile → List Exchange
  script terms f =
      exchange 0 8 (get_descriptor 1 0 0 8) (Bytes (take 8 (device_bytes f.device)))
      ∷ exchange 0 packet (set_address address) Done
      ∷ exchange address packet (get_descriptor 1 0 0 18) (Bytes (device_bytes f.device))
      ∷ set_script kinds.Configuration 0 f.sets (second_script (terms.choice.other_speed && may_have_second terms.speed f.device) f)
