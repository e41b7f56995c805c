use Rattle.std.proofs.Common.{◌≡◌, ◌+◌, ◌-◌, ◌^◌, min, inr, sym, ◌∙◌, ap, arith}
use Rattle.std.proofs.lemmas.Result.{err_from_is_err_and}
use Rattle.usb_capture.specs.Files.{content}
use Rattle.usb_capture.proofs.Parts.{front_ended, front_refused, front_some, refused_piece}
use Rattle.usb_capture.proofs.reader.CaptureReader.take_front.Goals as goal

pub returns-in_err-content-clause-refused : goal.returns-in_err-content-clause-refused
returns-in_err-content-clause-refused c =
    let p = err_from_is_err_and c.from_residual.result c.from_residual.ensures.1 in
    let old = c.args.self.now in
    let piece = c.args.piece.now in
    let part = c.prefix-part.result.now in
    let last = c.last_four-last.result in
    let says = sym c.in_err-content.was ∙ c.content.ensures ∙ ap (λ i. content old.stage i part c.args.used last) c.deref.ensures.value in
    rw (p.1, p.2) (λ all frames read.
    refused_piece all piece c.args.used frames _ (λ place. old.place ≡ min place (2 ^ 64 - 1))
    (inr (front_refused old _ piece part c.args.used last c.requires c.prefix-part.ensures c.last_four-last.ensures says all frames read)))

pub returns-clause-within : goal.returns-clause-within
returns-clause-within c = c.requires.within

pub returns-clause-goes_on : goal.returns-clause-goes_on
returns-clause-goes_on c all frames read some = front_some c.args.self.now c.args.piece.now c.args.used c.requires

pub returns-clause-ok : goal.returns-clause-ok
returns-clause-ok c all frames read =
    let old = c.args.self.now in
    let part = c.prefix-part.result.now in
    let last = c.last_four-last.result in
    let place : c.saturating_add-self.result ≡ min (old.place + c.args.used) (2 ^ 64 - 1) = omega (arith, c.saturating_add-self.ensures, c.go_on.ensures.place) in
    front_ended old _ c.in_ok-content.content _ c.args.piece.now part c.args.used last c.requires c.prefix-part.ensures c.last_four-last.ensures
    (sym c.in_ok-content.was ∙ c.content.ensures ∙ ap (λ i. content old.stage i part c.args.used last) c.deref.ensures.value)
    c.in_ok-frame.ensures
    c.in_ok-go_on.ensures.state c.go_on.ensures.held c.go_on.ensures.last c.go_on.ensures.count
    place
    all frames read
