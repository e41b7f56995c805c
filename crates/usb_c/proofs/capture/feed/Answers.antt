use Rattle.std.proofs.Common.{rules, ◌≡◌, ◌∙◌, Bool, Option, Some, ap, false, subst, sym}
use Rattle.usb_capture_lines.specs.Following.{Takes}
use Rattle.usb_capture_lines.specs.declared.recording_reader.RecordingReader.{RecordingReader}
use Rattle.usb_c.specs.Captures.{FedSo, FeedsHeld, fed_so, wants_memory}
use Rattle.usb_c.proofs.capture.feed.Goals as goal

pub returns : goal.returns
returns c =
    let held : Some c.in-Some.held.value ≡ c.args.capture.now.held = c.in-Some.ensures ∙ ap (λ d. d.held) c.replace.ensures.value in
    let wants : wants_memory c.feed-fed.result ≡ false = sym c.wants_memory.ensures ∙ c.if-wants_memory.false in
    let kept : c.of.result.held ≡ Some c.feed-fed.new.self = search rules in
    let place : c.place-place.result ≡ c.feed-fed.new.self.reader.place = search rules in
    subst (λ (h : Option RecordingReader). FeedsHeld h c.args.piece.now c.of.result.held c.tell.result) held
    (record {
      after = c.feed-fed.new.self;
      result = c.feed-fed.result;
      takes = subst (λ (r : RecordingReader). Takes r c.args.piece.now c.feed-fed.result c.feed-fed.new.self) c.deref_mut.ensures.value c.feed-fed.ensures;
      becomes =
          subst (λ (b : Bool). FedSo b c.feed-fed.result c.feed-fed.new.self c.of.result.held c.tell.result) (sym wants)
          (kept, c.tell.ensures ∙ ap (fed_so c.feed-fed.result) place);
    })
