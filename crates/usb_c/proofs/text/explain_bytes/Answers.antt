use Rattle.std.proofs.Common.{◌∙◌, inl, sym}
use Rattle.usb_c.proofs.InputFaults.{broken_explained}
use Rattle.usb_c.proofs.text.explain_bytes.Goals as goal

pub returns-in-Ok-explained-2 : goal.returns-in-Ok-explained-2
returns-in-Ok-explained-2 c =
    broken_explained c.args.manner c.args.bytes.now _ _ c.in-Ok-explained-2.text.items _ c.in-Err.fault _ c.in-Err.ensures.err
    (sym c.wants_memory.ensures ∙ c.if-wants_memory.false) c.in-Ok-explained-2.ensures c.as_slice-in-Ok-explained-2.ensures.value (inl c.fill_broken.ensures)
