-- How many transactions a host asks for, whatever is answered.
use Rattle.std.specs.Prelude.{ℕ, suc, ◌+◌, ◌-◌, ◌*◌, length}
use Rattle.usb_fields.specs.Bytes.{AreBytes}
use Rattle.usb_fields.specs.Packets.{Reply, DataReply}
use Rattle.usb_set.specs.declared.tree.SetKind.{SetKind}
use Rattle.usb_set.specs.declared.tree.SetKind.TheVariants as kinds
use Rattle.usb_host.specs.Transfer.{left}
use Rattle.usb_host.specs.Limits.{LimitView}
use Rattle.usb_host.specs.Place.{Place, First, Address, Device, Header, Set, Qualifier, Languages, Text, Configure, Reported, Stopped}
use Rattle.usb_host.specs.Order.{sets_of, declared_sets}
use Rattle.usb_host.specs.Steps.{HostPhase, ResetDue, Reading, Ended, HostView}

-- The most steps of progress that reads can take, at packets of 8 bytes: wLength / 8 + 3 each. From the language list
-- on these are it, 126 times 255 strings, and the configuration.
abbrev pub strings_cost : ℕ
strings_cost = 34 + 126 * 255 * 34 + 3

-- after the sets of a kind: the qualifier and 255 sets of the other speed, each with its header
abbrev pub cost_after : SetKind → ℕ
cost_after kinds.Configuration = 4 + 255 * 8198 + strings_cost
cost_after kinds.OtherSpeed = strings_cost

-- from a place on
abbrev pub cost : Place → ℕ
cost First = 4 + 3 + 5 + 255 * 8198 + cost_after kinds.Configuration
cost (Address first) = 3 + 5 + 255 * 8198 + cost_after kinds.Configuration
cost (Device first) = 5 + 255 * 8198 + cost_after kinds.Configuration
cost (Header kind f) = (declared_sets kind f - length (sets_of kind f)) * 8198 + cost_after kind
cost (Set kind f total) = 8194 + (declared_sets kind f - suc (length (sets_of kind f))) * 8198 + cost_after kind
cost (Qualifier f) = cost_after kinds.Configuration
cost (Languages f named) = strings_cost
cost (Text f s named) = (length s.languages * length named - length s.texts) * 34 + 3
cost (Configure f) = 3
cost (Reported f) = 0
cost (Stopped trouble) = 0

-- of the next read at a place
abbrev pub price : Place → ℕ
price First = 4
price (Address first) = 3
price (Device first) = 5
price (Header kind f) = 4
price (Set kind f total) = 8194
price (Qualifier f) = 4
price (Languages f named) = 34
price (Text f s named) = 34
price (Configure f) = 3
price (Reported f) = 0
price (Stopped trouble) = 0

-- what one attempt asks for at most, with this limit of NAKs
abbrev pub most_in_attempt : ℕ → ℕ
most_in_attempt naks = 5273453 * (naks + 3)

-- what a host asks for at most
abbrev pub most : LimitView → ℕ
most limits = limits.attempts * most_in_attempt limits.naks

-- what may still be asked for in this attempt
abbrev pub left_in_attempt : ℕ → HostPhase → ℕ
left_in_attempt naks ResetDue = 0
left_in_attempt naks (Reading place t k) = left t + (cost place - price place) * (naks + 3)
left_in_attempt naks (Ended place) = 0

-- what a host may still ask for: in this attempt, and in those that are left
abbrev pub left_to_ask : HostView → ℕ
left_to_ask v = (v.limits.attempts - v.resets) * most_in_attempt v.limits.naks + left_in_attempt v.limits.naks v.phase

-- the numbers in an answer are bytes
abbrev pub BringsBytes : Reply → Type 0
BringsBytes (DataReply toggle bytes) = AreBytes bytes
BringsBytes answer = Unit {0}
