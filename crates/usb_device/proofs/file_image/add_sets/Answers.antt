use Rattle.std.proofs.Common.{◌≡◌, ◌+◌, ◌<◌, ◌++◌, append-nil, drop, false, length, get_or, map, subst, sym, ap, ◌∙◌, arith}
use Rattle.std.proofs.lemmas.List.{append_assoc}
use Rattle.usb_file_data.specs.File.{has_no_layout, whole_set}
use Rattle.usb_device.specs.Images.{image_bytes, piece_bytes}
use Rattle.usb_device.specs.FileImages.{indexed, keyed}
use Rattle.usb_device.proofs.WrittenLemmas.{no_sets, none_next, set_more}
use Rattle.usb_device.proofs.file_image.add_sets.Goals as goal

pub loop-i-preserved : goal.loop-i-preserved
loop-i-preserved c =
    let sets = c.args.sets.now in
    let i = c.loop-i.i in
    let old = c.loop-i.pieces.items in
    let kind = c.args.kind in
    let s = c.index-sets-i.result in
    let within : i < length sets = omega (arith, c.loop-i-test.true) in
    let rest = image_bytes (indexed kind (i + 1) (map whole_set (drop (i + 1) sets))) in
    let body : c.deref.result.now ≡ whole_set s = c.deref.ensures.value ∙ c.in_ok-bytes.ensures.bytes in
    let last : has_no_layout (get_or sets i s) ≡ false = subst (λ c. has_no_layout c ≡ false) c.index-sets-i.is c.in_ok-bytes.ensures.allowed in
    record {
      written =
          ap (λ b. b ++ rest) c.in_ok-add.ensures
          ∙ ap (λ n. old ++ piece_bytes (keyed kind n c.deref.result.now) ++ rest) c.in-Ok.ensures.1
          ∙ ap (λ v. old ++ piece_bytes (keyed kind i v) ++ rest) body
          ∙ ap (λ x. old ++ piece_bytes (keyed kind i (whole_set x)) ++ rest) c.index-sets-i.is
          ∙ append_assoc old (piece_bytes (keyed kind i (whole_set (get_or sets i s)))) rest
          ∙ ap (λ b. old ++ b) (sym (set_more kind i sets s within))
          ∙ c.loop-i.invariant.written;
      allowed = none_next has_no_layout i sets s c.loop-i.invariant.allowed last within;
    }

pub returns-clause-written : goal.returns-clause-written
returns-clause-written c =
    sym (append-nil c.loop-i.pieces.items)
    ∙ ap (λ ps. c.loop-i.pieces.items ++ image_bytes ps) (sym (no_sets c.args.kind c.loop-i.i c.loop-i.i c.args.sets.now (omega (arith, c.loop-i-test.false))))
    ∙ c.loop-i.invariant.written
