use Rattle.std.proofs.Common.{List, ℕ, inl, inr, subst, sym}
use Rattle.usb_file.specs.WithoutStrings.{WithoutStrings}
use Rattle.usb_c.proofs.Unread.{unread}
use Rattle.usb_c.proofs.outcome.tell_unread.Goals as goal

pub returns-in-Ok : goal.returns-in-Ok
returns-in-Ok c =
    inr (inl (record {
      bytes = c.as_slice.result.now;
      names = c.requires.named;
      unread =
          unread c.args.file.now c.as_slice.result.now c.requires.none
          (subst (λ (b : List ℕ). WithoutStrings c.args.file.now b) (sym c.as_slice.ensures.value) c.in-Ok.ensures.ok);
      fills = inl c.fill_done.ensures;
    }))
