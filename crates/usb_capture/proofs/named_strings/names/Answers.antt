use Rattle.std.proofs.Common.{◌∙◌}
use Rattle.usb_capture.proofs.NamedLemmas.{found_in, not_in, not_yet_in}
use Rattle.usb_capture.proofs.named_strings.names.Goals as goal

pub returns-then-from-index : goal.returns-then-from-index
returns-then-from-index c =
    found_in c.args.index c.byte_at.result c.from-length.result c.from.result c.loop-rest.rest.now c.args.descriptors.now c.prefix.result.now
    c.loop-rest.invariant c.byte_at.ensures c.loop-rest-test.true (c.from-length.ensures ∙ c.byte_at-in-loop-rest.ensures) c.prefix.ensures (c.from.ensures ∙ c.string_index.ensures) c.if-from-index.true

pub loop-rest-preserved : goal.loop-rest-preserved
loop-rest-preserved c =
    not_yet_in c.args.index c.byte_at.result c.from-length.result c.from.result c.loop-rest.rest.now c.args.descriptors.now c.prefix.result.now c.after-rest.result.now
    c.loop-rest.invariant c.byte_at.ensures c.loop-rest-test.true (c.from-length.ensures ∙ c.byte_at-in-loop-rest.ensures) c.prefix.ensures (c.from.ensures ∙ c.string_index.ensures) c.if-from-index.false c.after-rest.ensures

pub returns : goal.returns
returns c = not_in c.args.index c.byte_at.result c.loop-rest.rest.now c.args.descriptors.now c.loop-rest.invariant c.byte_at.ensures c.loop-rest-test.false
