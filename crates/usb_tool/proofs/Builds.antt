-- On what `build` makes of its input.
use Rattle.std.proofs.Common.{◌≡◌, ◌≢◌, ◌∙◌, ℕ, Bool, List, Result, Ok, Err, inl, inr, refl, sym}
use Rattle.std.specs.Prelude.{IfErr, IfOk, IsErrAnd}
use Rattle.usb_listing.specs.Listings.{IsBytesOf}
use Rattle.usb_listing.specs.declared.fault.ListFault.{ListFault}
use Rattle.usb_listing.specs.declared.fault.ListWhy.{ListWhy}
use Rattle.usb_listing.specs.declared.fault.ListWhy.TheVariants as lists
use Rattle.usb_listing.specs.declared.laws.TheConstants.{LISTING_LIMIT}
use Rattle.usb_text.specs.Output.{Held}
use Rattle.usb_text.proofs.Pages.{keeps_refl}
use Rattle.usb_tool.specs.Builds.{BuildFails, FaultyBy, ListsBytes, RefusesListing, TellsBuilt, listed_text, written_as}
use Rattle.usb_tool.specs.Endings.{AppendsNone, Left, ReadsAll, Refuses}
use Rattle.usb_tool.specs.Faults.{fault_of_list, list_fault_by_why}
use Rattle.usb_command_line.specs.declared.building.Building.{Building}
use Rattle.usb_tool.specs.declared.fault.ToolFault.{ToolFault}
use Rattle.usb_tool.proofs.Reading.{when_err}

-- a text that lists no file
pub not_built : (o : Building) (from to : Left) (held : Held) (text : List ℕ) (read : ReadsAll LISTING_LIMIT from to text)
    (e : ListFault) (r : Result ℕ ToolFault) → IsErrAnd r (λ fault. fault ≡ fault_of_list e) → (e.why ≢ lists.Memory → FaultyBy o.comments text e.line e.why)
    → IfErr r (BuildFails o from to held held)
not_built o from to held text read e r is shown =
    when_err r _ _ is (inr (record { bytes = text; read = read; refused = by e.why refl }))
  where
    by : (why : ListWhy) → e.why ≡ why → Refuses AppendsNone (TellsBuilt o) (RefusesListing o.comments) text held held (list_fault_by_why why e)
    by lists.Memory same = inl (keeps_refl held)
    by why same = (shown (λ memory. let clash = sym same ∙ memory in cc), keeps_refl held)

-- bytes that were read of a listing
pub bytes_listed : {B E : Type 0} (items : B → List ℕ) (r : Result B E) (comments : Bool) (text : List ℕ)
    → IfOk r (λ b. IsBytesOf (listed_text comments text) (items b)) → IfOk r (λ b. ListsBytes comments text (items b))
bytes_listed items (Err e) comments text h = tt
bytes_listed items (Ok b) comments text h = record { file = h.file; listing = h.lists.lines; layout = h.bytes }

-- what is reported of them
pub built_reported : (o : Building) (text b : List ℕ) → ListsBytes o.comments text b → TellsBuilt o text (written_as o.hex b) 0
built_reported o text b listed = record { bytes = b; listed = listed; written = refl; ended = refl }
