-- The bytes that came, as far as they count: those of the parts of a file, in its order.
use Rattle.std.specs.Prelude.{ℕ, List, [], ◌∷◌, ◌++◌, Option}
use Rattle.usb_fields.specs.Packets.{Reply as Answer}
use Rattle.usb_set.specs.declared.tree.Configuration.{Configuration}
use Rattle.usb_host.specs.declared.choice.Terms.{Terms}
use Rattle.usb_host.specs.declared.why.Why.TheVariants.{Stalled}
use Rattle.usb_host.specs.declared.reply.Reply.{Reply}
use Rattle.usb_host.specs.declared.reply.Reply.TheVariants as replied
use Rattle.usb_host.specs.Transfer.{HeardView, Goes, Brings, Completes, Fails, taken}
use Rattle.usb_host.specs.Place.{Place, Device, Set, Qualifier, Languages, Text}
use Rattle.usb_host.specs.Order.{bytes_lead, done_leads, refused_leads, counted, next}
use Rattle.usb_host.specs.Steps.{HostPhase, Reading}

-- Of a whole reply, the bytes that count: the first read and fronts of sets are no part of a file, and of a string that is
-- passed over its stand-in is.
abbrev pub part_of : Terms → Place → Reply → List ℕ
part_of terms (Device first) (replied.Bytes b) = b
part_of terms (Set kind f total) (replied.Bytes b) = b
part_of terms (Qualifier f) (replied.Bytes b) = b
part_of terms (Languages f named) (replied.Bytes b) =
    counted terms.choice.strings (Languages f named) (bytes_lead terms (Languages f named) b) b
part_of terms (Text f s named) (replied.Bytes b) =
    counted terms.choice.strings (Text f s named) (bytes_lead terms (Text f s named) b) b
part_of terms place (replied.Bytes b) = []
part_of terms place replied.Done = counted terms.choice.strings place (done_leads place) []
part_of terms place replied.Refused = counted terms.choice.strings place (refused_leads terms place) []

-- what came since the last bus reset: what counts of the reads that have completed, and the bytes of the current one
pub record Came : Type 0 where
  pub whole : List ℕ
  pub read : List ℕ

-- after a bus reset
abbrev pub no_bytes : Came
no_bytes = record { whole = []; read = [] }

-- what came then, where this was received at a place: of a read that failed nothing counts, but a stand-in
abbrev pub came_by : Terms → Place → HeardView → Came → Came
came_by terms place Goes c = c
came_by terms place (Brings bytes) c = record c { read = c.read ++ bytes }
came_by terms place Completes c = record { whole = c.whole ++ part_of terms place (replied.Bytes c.read); read = [] }
came_by terms place (Fails Stalled) c = record { whole = c.whole ++ part_of terms place replied.Refused; read = [] }
came_by terms place (Fails why) c = record c { read = [] }

-- and after an answer, where there may be a current read
abbrev pub came_in : Terms → HostPhase → Answer → Came → Came
came_in terms (Reading place transfer kept) answer c = came_by terms place (taken transfer answer).received c
came_in terms phase answer c = c

module _ (set_of : List ℕ → Option Configuration) (terms : Terms) where
  -- where replies lead to, one after another
  abbrev pub reached : Place → List Reply → Place
  reached place [] = place
  reached place (r ∷ rs) = reached (next set_of terms place r) rs

  -- the bytes that count of all replies
  abbrev pub parts_of : Place → List Reply → List ℕ
  parts_of place [] = []
  parts_of place (r ∷ rs) = part_of terms place r ++ parts_of (next set_of terms place r) rs
