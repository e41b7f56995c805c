use Rattle.std.proofs.Common.{◌≡◌, ◌+◌, ◌++◌, append-nil, drop, length, get_or, sym, ap, ◌∙◌}
use Rattle.std.proofs.lemmas.List.{append_assoc}
use Rattle.usb_device.specs.Images.{image_bytes, piece_bytes}
use Rattle.usb_device.specs.FileImages.{language_bytes, language_pieces}
use Rattle.usb_device.proofs.LongLemmas.{language_more, no_languages, short_after}
use Rattle.usb_device.proofs.file_image.add_languages.Goals as goal

pub loop-language-preserved : goal.loop-language-preserved
loop-language-preserved c =
    let named = c.args.named.now in
    let languages = c.args.languages.now in
    let left = c.loop-language.left.now in
    let i = c.loop-language.language-index in
    let old = c.loop-language.pieces.items in
    let l = get_or languages i 0 in
    let body : c.deref.result.now ≡ language_bytes named left = c.deref.ensures.value ∙ c.in_ok-strings.ensures in
    let rest = image_bytes (language_pieces named (drop (i + 1) languages) (drop (length named) left)) in
    record {
      written =
          ap (λ ts. c.add.new.pieces.items ++ image_bytes (language_pieces named (drop (i + 1) languages) ts)) c.after_those-left.ensures
          ∙ ap (λ b. b ++ rest) c.in_ok-add.ensures
          ∙ ap (λ v. old ++ piece_bytes (record { kind = 128; index = 0; number = l; body = v }) ++ rest) body
          ∙ append_assoc old (piece_bytes (record { kind = 128; index = 0; number = l; body = language_bytes named left })) rest
          ∙ ap (λ b. old ++ b) (sym (language_more named languages i left 0 c.loop-language-test.true))
          ∙ c.loop-language.invariant.written;
      short = rw c.after_those-left.ensures (short_after (length named) left c.loop-language.invariant.short);
    }

pub returns : goal.returns
returns c =
    sym (append-nil c.loop-language.pieces.items)
    ∙ ap (λ ps. c.loop-language.pieces.items ++ image_bytes ps) (sym (no_languages c.args.named.now c.args.languages.now c.loop-language.language-index c.loop-language.left.now c.loop-language-test.false))
    ∙ c.loop-language.invariant.written
