use Rattle.std.proofs.Common.{subst, sym}
use Rattle.usb_file_data.specs.declared.file.DescriptorFile.{DescriptorFile}
use Rattle.usb_file_data.specs.File.{File, file_bytes}
use Rattle.usb_file.specs.Completed.{completed}
use Rattle.usb_file_data.specs.Inputs.{Dump}
use Rattle.usb_file.specs.declared.file_reader.Form.{Form}
use Rattle.usb_file.specs.inside.Reading.{IsOfForm}
use Rattle.usb_file.proofs.CompletedLemmas.{completed_file}
use Rattle.usb_file.proofs.completed.read_completed.Goals as goal

pub returns-in-File-clause-file : goal.returns-in-File-clause-file
returns-in-File-clause-file c =
    (c.args.b.now, subst (λ (form : Form). IsOfForm form c.in_ok-file.file c.args.b.now) c.in-File.is c.in_ok-file.ensures.ok)

pub returns-in-Ok-clause-file : goal.returns-in-Ok-clause-file
returns-in-Ok-clause-file c =
    let dump : Dump c.in_ok-file.file c.args.b.now =
    subst (λ (form : Form). IsOfForm form c.in_ok-file.file c.args.b.now) c.in-Dump.is c.in_ok-file.ensures.ok in
    let bytes = file_bytes (completed c.in_ok-file.file) in
    (bytes, subst (λ (f : DescriptorFile). File f bytes) (sym c.in-Ok.ensures) (completed_file c.in_ok-file.file c.args.b.now dump))
