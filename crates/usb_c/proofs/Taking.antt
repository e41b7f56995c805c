-- On bytes that `show` and `check` don't take.
use Rattle.std.proofs.Common.{◌≡◌, ℕ, Bool, true, false, List, length, ap, refl, sym, subst}
use Rattle.usb_file_data.specs.declared.file.DescriptorFile.{DescriptorFile}
use Rattle.usb_file_data.specs.Inputs.{Dump, DeviceRefused, InputRefused, is_one_set}
use Rattle.usb_file_data.specs.FileFaults.{FileFaulty, ReadRefused}
use Rattle.usb_file_data.specs.declared.fault.FileFault.{FileFault}
use Rattle.usb_file_data.specs.declared.fault.FileWhy.{FileWhy}
use Rattle.usb_file_data.specs.declared.fault.FileWhy.TheVariants as files
use Rattle.usb_file_data.specs.declared.fault.InputFault.{InputFault}
use Rattle.usb_file_data.specs.declared.fault.InputFault.TheVariants as faults
use Rattle.usb_c.specs.inside.Refusals.{file_by, refused_input}
use Rattle.usb_c.specs.Texts.{CheckFaulty, ShowFaulty, Refuses}
use Rattle.usb_c.specs.inside.Taking.{CheckRefused, ShowRefused}
use Rattle.usb_c.proofs.InputFaults.{input_refuses, set_refuses}

-- bytes that are no input are no set and no file
read_by : (b : List ℕ) (at : ℕ) (why : FileWhy) → DeviceRefused b at why → ReadRefused b at why
read_by b at files.Memory h = h
read_by b at why h = h.0

pub refused_without : (b : List ℕ) (e : InputFault) → InputRefused b e → ShowRefused false b e
refused_without b (faults.File fault) h = (h.0, read_by b fault.at fault.why h.1)
refused_without b e h = h

-- a dump ends where the language list of a file comes next
pub dump_ends : (b : List ℕ) (f : DescriptorFile) → Dump f b → FileFaulty b (length b) files.Truncated
    → ShowRefused false b (faults.File (record { at = length b; why = files.Truncated }))
dump_ends b f dump h = (ap is_one_set dump.bytes, h)

file_shows_by : (b : List ℕ) (e : FileFault) (why : FileWhy) → e.why ≡ why → is_one_set b ≡ false → ReadRefused b e.at why
    → Refuses (ShowFaulty false) b (file_by why e)
file_shows_by b e files.Memory is none h = tt
file_shows_by b e why is none h = ((none, subst (FileFaulty b e.at) (sym is) h), refl)

-- bytes that `show` doesn't take are reported with the fault that they show, or as out of memory
pub show_refuses : (any : Bool) (b : List ℕ) (e : InputFault) → ShowRefused any b e → Refuses (ShowFaulty any) b (refused_input e)
show_refuses true b e h = input_refuses b e h
show_refuses false b (faults.Set fault) h = set_refuses (ShowFaulty false) b fault (λ shown. (h.0, shown)) fault.why refl h.1
show_refuses false b (faults.Trailing at) h = (h, refl)
show_refuses false b (faults.File fault) h = file_shows_by b fault fault.why refl h.0 h.1

file_checks_by : (b : List ℕ) (e : FileFault) (why : FileWhy) → e.why ≡ why → ReadRefused b e.at why
    → Refuses (CheckFaulty false) b (file_by why e)
file_checks_by b e files.Memory is h = tt
file_checks_by b e why is h = (subst (FileFaulty b e.at) (sym is) h, refl)

-- the same of `check`
pub check_refuses : (any : Bool) (b : List ℕ) (e : InputFault) → CheckRefused any b e → Refuses (CheckFaulty any) b (refused_input e)
check_refuses true b e h = input_refuses b e h
check_refuses false b (faults.Set fault) h = absurd h
check_refuses false b (faults.Trailing at) h = absurd h
check_refuses false b (faults.File fault) h = file_checks_by b fault fault.why refl h
