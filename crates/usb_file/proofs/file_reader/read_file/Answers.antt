use Rattle.std.proofs.Common.{◌≡◌, length, inr, sym, subst}
use Rattle.usb_file_data.specs.declared.file.DescriptorFile.{DescriptorFile}
use Rattle.usb_file_data.specs.File.{File}
use Rattle.usb_file_data.specs.declared.fault.FileFault.{FileFault}
use Rattle.usb_file_data.specs.declared.fault.FileWhy.TheVariants as files
use Rattle.usb_file_data.specs.Inputs.{Dump}
use Rattle.usb_file_data.specs.FileFaults.{ReadRefused}
use Rattle.usb_file.specs.inside.Reading.{IsOfForm}
use Rattle.usb_file.proofs.Dumps.{dump_fault, still_refused}
use Rattle.usb_file.proofs.Ends.{only_memory}
use Rattle.usb_fields.proofs.Exits.{exit_err}
use Rattle.usb_file.proofs.file_reader.read_file.Goals as goal

pub returns-in_err-file-clause-only : goal.returns-in_err-file-clause-only
returns-in_err-file-clause-only c =
    let b = c.args.b.now in
    let fault = c.in_err-file.field-0.0 in
    exit_err c.from_residual.result fault (λ (fault : FileFault). (f : DescriptorFile) → File f b → fault.why ≡ files.Memory) c.from_residual.ensures.1
    (λ f. only_memory b c.one_answer.ensures.not_both f fault.at fault.why (still_refused b fault.at fault.why c.in_err-file.ensures.err))

pub returns-in-Dump-clause-err : goal.returns-in-Dump-clause-err
returns-in-Dump-clause-err c =
    let b = c.args.b.now in
    let f = c.in_ok-file.file in
    let dump : Dump f b = subst (λ form. IsOfForm form f b) c.in-Dump.is c.in_ok-file.ensures.ok in
    subst (λ (fault : FileFault). ReadRefused b fault.at fault.why) (sym c.new.ensures) (inr (dump_fault f b dump))

pub returns-in-Dump-clause-only : goal.returns-in-Dump-clause-only
returns-in-Dump-clause-only c g file =
    let b = c.args.b.now in
    let f = c.in_ok-file.file in
    let dump : Dump f b = subst (λ form. IsOfForm form f b) c.in-Dump.is c.in_ok-file.ensures.ok in
    absurd (c.one_answer.ensures.not_both b g (length b) files.Truncated file (inr (dump_fault f b dump)))
