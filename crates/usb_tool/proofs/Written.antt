-- On what is written of a text before the writer is flushed.
use Rattle.std.proofs.Common.{◌≡◌, ◌∙◌, ℕ, List, [], ◌∷◌, ◌++◌, Option, Some, None, IfSome, Result, Ok, Err, ap, sym, subst}
use Rattle.std.proofs.lemmas.Fmt.{contents_after_writes}
use Rattle.std.specs.Fmt.{WritesText, with_newline}
use Rattle.std.specs.Prelude.{IfErr, OnErr, OnOk}
use Rattle.std.specs.Io.KnownBytes.{Appends, Keeps}
use Rattle.arrayvec.specs.ArrayString.{ArrayString}
use Rattle.usb_text.specs.Output.{AppendsFront, AppendsLess, Held}
use Rattle.usb_text.proofs.Pages.{appends_kept, front_whole, keeps_refl, less_is_front}
use Rattle.usb_tool.specs.Outcomes.{ReportsLine}
use Rattle.usb_tool.specs.inside.Telling.{IsCutShort}
use Rattle.usb_tool.specs.declared.fault.ToolFault.{ToolFault}
use Rattle.usb_tool.specs.declared.fault.ToolFault.TheVariants as faults

-- a text that was written and then flushed
pub flushed : {T : Type 0} (r : Result T ToolFault) (text : List ℕ) (a b c : Held) → Appends a b text → Keeps b c → OnOk r (Appends a c text)
flushed (Ok v) text a b c whole kept = appends_kept a b c text whole kept
flushed (Err fault) text a b c whole kept = tt

-- a text that was written, after which the flush failed
pub not_flushed : {T : Type 0} (r : Result T ToolFault) (text : List ℕ) (a b c : Held) → Appends a b text → Keeps b c
    → IfErr r (λ fault. fault ≡ faults.Write) → IfErr r (IsCutShort text a c)
not_flushed (Ok v) text a b c whole kept why = tt
not_flushed (Err fault) text a b c whole kept why = subst (IsCutShort text a c) (sym why) (front_whole a b c text whole kept)

-- ---- lines of standard error

-- a text that was written as far as the writer takes it
pub front_written : {T E : Type 0} (r : Result T E) (text : List ℕ) (a b : Held) → OnOk r (Appends a b text) → OnErr r (AppendsLess a b text)
    → AppendsFront a b text
front_written (Ok v) text a b whole less = front_whole a b b text whole (keeps_refl b)
front_written (Err e) text a b whole less = less_is_front a b text less

-- and so the line that an empty buffer was given before, with its line feed
pub line_written : {T E : Type 0} (r : Result T E) (line : Option (List ℕ)) (text : List ℕ) (empty full : ArrayString) (a b : Held)
    → empty.bytes ≡ [] → WritesText (λ (s : ArrayString) bytes (t : ArrayString). t.bytes ≡ s.bytes ++ bytes) empty (with_newline line) full → text ≡ full.bytes
    → OnOk r (Appends a b text) → OnErr r (AppendsLess a b text) → IfSome line (λ l. ReportsLine l a b)
line_written r None text empty full a b none writes is whole less = tt
line_written r (Some l) text empty full a b none writes is whole less =
    let all = is ∙ (contents_after_writes _ (λ (s : ArrayString). s.bytes) (λ _ _ _ more. more) empty _ full writes ∙ ap (λ s. s ++ (l ++ 10 ∷ [])) none) in
    subst (AppendsFront a b) all (front_written r text a b whole less)
