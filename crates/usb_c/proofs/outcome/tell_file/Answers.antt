use Rattle.std.proofs.Common.{List, ℕ, inl, subst, sym}
use Rattle.usb_file_data.specs.File.{File}
use Rattle.usb_c.proofs.outcome.tell_file.Goals as goal

pub returns-in-Ok : goal.returns-in-Ok
returns-in-Ok c =
    inl (record {
      bytes = c.as_slice.result.now;
      file = subst (λ (b : List ℕ). File c.args.file.now b) (sym c.as_slice.ensures.value) c.in-Ok.ensures.ok;
      fills = inl c.fill_done.ensures;
    })
