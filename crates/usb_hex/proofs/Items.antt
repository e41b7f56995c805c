-- How the items of a text go on.
use Rattle.std.proofs.Common.{◌≡◌, ℕ, ◌++◌, List, [], Option, Some, None, append_assoc, append-nil, length, subst, sym}
use Rattle.std.proofs.lemmas.List.{length-append}
use Rattle.usb_hex.specs.declared.hex_text.Form.{Form}
use Rattle.usb_hex.specs.HexText.{in_line}
use Rattle.usb_hex.specs.HexText.{Reads, bytes_of, ends, goes_on, item}
use Rattle.usb_hex.specs.Hexadecimal.{ReadsText}

-- the bytes of what is left go on those of the text
pub record Leads (form : Form) (text rest done : List ℕ) : Type 0 where
  pub on : (more left : List ℕ) → Reads form (length done) rest more left → ReadsText form text (done ++ more) left

pub leads_from : (form : Form) (text : List ℕ) → Leads form text (in_line form text) []
leads_from form text = record { on = λ more left read. read }

pub leads_on : (form : Form) (text rest done tail : List ℕ) (byte : Option ℕ) → item form (length done) rest ≡ Some (byte, tail)
    → Leads form text rest done → Leads form text tail (done ++ bytes_of byte)
leads_on form text rest done tail byte is leads = record {
  on = λ more left read.
      let P : List ℕ → Type 0 = λ bytes. ReadsText form text bytes left in
      let Q : ℕ → Type 0 = λ count. Reads form count tail more left in
      subst P (sym (append_assoc done (bytes_of byte) more))
      (leads.on (bytes_of byte ++ more) left (goes_on is (subst Q (length-append done (bytes_of byte)) read)));
}

pub leads_to : (form : Form) (text rest done : List ℕ) → item form (length done) rest ≡ None → Leads form text rest done → ReadsText form text done rest
leads_to form text rest done is leads =
    let P : List ℕ → Type 0 = λ bytes. ReadsText form text bytes rest in
    subst P (append-nil done) (leads.on [] rest (ends is))
