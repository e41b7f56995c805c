-- The part of a file that comes next after a prefix of it.
use Rattle.std.proofs.Common.{◌≡◌, ℕ, ◌<◌, true, false, ltb, List, length, Option, Some, None, refl, ap, ◌∙◌, arith}
use Rattle.std.proofs.lemmas.Bool.{lt-ltb, le-ltb, cond-true, cond-false}
use Rattle.usb_set.specs.declared.tree.SetKind.TheVariants as kinds
use Rattle.usb_file_data.specs.declared.file.DescriptorFile.{DescriptorFile}
use Rattle.usb_file_data.specs.declared.file.Other.{Other}
use Rattle.usb_file_data.specs.declared.file.Strings.{Strings}
use Rattle.usb_file_data.specs.File.{named_indices}
use Rattle.usb_file_data.specs.Front.{AllSets}
use Rattle.usb_file_data.specs.FileFaults.{a_set, a_qualifier, begins_qualifier}
use Rattle.usb_file.specs.inside.Reading.{next_string, next_after_main, next_part}

pub due_main : (f : DescriptorFile) (rest : List ℕ) → length f.sets < f.device.configurations → next_part f rest ≡ a_set kinds.Configuration
due_main f rest below = cond-true (ltb (length f.sets) f.device.configurations) _ _ (lt-ltb _ _ below)

pub due_after : (f : DescriptorFile) (rest : List ℕ) (o : Option Other) (s : Option Strings) → length f.sets ≡ f.device.configurations → f.other ≡ o → f.strings ≡ s
    → next_part f rest ≡ next_after_main f o s rest
due_after f rest o s full is_other is_strings =
    cond-false (ltb (length f.sets) f.device.configurations) _ _ (le-ltb _ _ (omega (arith, full)))
    ∙ ap (λ x. next_after_main f x f.strings rest) is_other ∙ ap (λ x. next_after_main f o x rest) is_strings

pub due_other : (f : DescriptorFile) (rest : List ℕ) (o : Other) → length f.sets ≡ f.device.configurations → f.other ≡ Some o
    → length o.sets < o.qualifier.configurations → next_part f rest ≡ a_set kinds.OtherSpeed
due_other f rest o full is_other below =
    due_after f rest (Some o) f.strings full is_other refl ∙ cond-true (ltb (length o.sets) o.qualifier.configurations) _ _ (lt-ltb _ _ below)

pub due_qualifier : (f : DescriptorFile) (rest : List ℕ) → length f.sets ≡ f.device.configurations → f.other ≡ None → f.strings ≡ None
    → begins_qualifier rest ≡ true → next_part f rest ≡ a_qualifier
due_qualifier f rest full no_other no_strings begins = due_after f rest None None full no_other no_strings ∙ cond-true (begins_qualifier rest) _ _ begins

-- after all sets come the strings
pub due_strings : (f : DescriptorFile) (rest : List ℕ) → AllSets f f.other → (f.other ≡ None → f.strings ≡ None → begins_qualifier rest ≡ false)
    → next_part f rest ≡ next_string (length (named_indices f)) f.strings
due_strings f rest all unless = cases f.other f.strings refl refl all unless
  where
    cases : (o : Option Other) (s : Option Strings) → f.other ≡ o → f.strings ≡ s → AllSets f o → (o ≡ None → s ≡ None → begins_qualifier rest ≡ false)
        → next_part f rest ≡ next_string (length (named_indices f)) s
    cases None None eo es all unless = due_after f rest None None all eo es ∙ cond-false (begins_qualifier rest) _ _ (unless refl refl)
    cases None (Some s) eo es all unless = due_after f rest None (Some s) all eo es
    cases (Some o) s eo es all unless =
        due_after f rest (Some o) s all.0 eo es ∙ cond-false (ltb (length o.sets) o.qualifier.configurations) _ _ (le-ltb _ _ (omega (arith, all.1)))
