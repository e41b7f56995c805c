-- Sets whose extras are all raw, as before the types of some got a meaning: their layout, and the sets that they are now.
use Rattle.std.specs.Prelude.{◌≡◌, ℕ, ◌+◌, ◌≤◌, List, length, map, Bool, true, false, nat_lt, ◌==◌, ◌||◌}
use Rattle.std.specs.List.{list_any}
use Rattle.usb_fields.specs.Bytes.{AreBytes}
use Rattle.usb_set.specs.declared.extra.Extra.{Extra}
use Rattle.usb_set.specs.declared.extra.Extra.TheVariants as extras
use Rattle.usb_set.specs.declared.tree.Endpoint.{Endpoint}
use Rattle.usb_set.specs.declared.tree.Setting.{Setting}
use Rattle.usb_set.specs.declared.tree.Configuration.{Configuration}
use Rattle.usb_set.specs.Descriptors.{extra_of, raw_descriptor}
use Rattle.usb_set.specs.Faults.{least_length}
use Rattle.usb_set.specs.Owners.{extras_of}
use Rattle.usb_set.specs.Layout.{set_bytes, has_long_descriptor}

-- whether the extra is of a type of its own
abbrev pub is_no_raw : Extra → Bool
is_no_raw (extras.Raw r) = false
is_no_raw x = true

-- whether it is raw and has one of the four types that such a set reads
abbrev pub is_read_raw : Extra → Bool
is_read_raw (extras.Raw r) = (r.kind == 2) || (r.kind == 4) || (r.kind == 5) || (r.kind == 7)
is_read_raw x = false

-- The layout of a set whose extras are all raw: a descriptor of a type that only extras have is kept raw, of any length.
pub record RawLayout (c : Configuration) (b : List ℕ) : Type 0 where
  pub bytes : b ≡ set_bytes c (length b)
  pub fits : AreBytes b
  pub within_255 : has_long_descriptor c ≡ false
  pub all_raw : list_any is_no_raw (extras_of c) ≡ false
  pub raws_are_raw : list_any is_read_raw (extras_of c) ≡ false
  pub short : length b ≤ 65535

-- the extra, lifted: a raw descriptor is what its type says, and any other extra stays
abbrev pub lift_extra : Extra → Extra
lift_extra (extras.Raw r) = extra_of (raw_descriptor r)
lift_extra x = x

-- an endpoint with each of its extras lifted
abbrev pub lift_endpoint : Endpoint → Endpoint
lift_endpoint e = record e { extras = map lift_extra e.extras }

-- a setting with its own extras and those of its endpoints lifted
abbrev pub lift_setting : Setting → Setting
lift_setting s = record s { extras = map lift_extra s.extras; endpoints = map lift_endpoint s.endpoints }

-- a set with all its extras lifted
abbrev pub lift : Configuration → Configuration
lift c = record c { extras = map lift_extra c.extras; settings = map lift_setting c.settings }

-- whether it is a raw descriptor that is too short for the fields of its type
abbrev pub is_cut : Extra → Bool
is_cut (extras.Raw r) = nat_lt (2 + length r.body) (least_length r.kind)
is_cut x = false
