use Rattle.std.proofs.Common.{◌∙◌, ap, sym, slice_index}
use Rattle.usb_device.specs.Requests.{attributes_of, settings_of}
use Rattle.usb_capture.specs.Conversations.{held_of}
use Rattle.usb_capture.proofs.StateLemmas.{no_settings, set_here, set_next, set_nowhere}
use Rattle.usb_capture.proofs.conversations.Conversations.configuration_with.Goals as goal

pub loop-index-preserved : goal.loop-index-preserved
loop-index-preserved c =
    set_next (held_of c.args.self.now.held.items) c.args.asked c.args.value c.loop-index.index c.configuration_count-index-end.result c.byte_at.result
    c.loop-index-test.true (c.byte_at.ensures ∙ ap (λ b. slice_index b 5) c.configuration-set.ensures) c.if-byte_at-value.false
    ∙ c.loop-index.invariant

pub returns-then-byte_at-value-clause-attributes : goal.returns-then-byte_at-value-clause-attributes
returns-then-byte_at-value-clause-attributes c =
    ap (λ b. slice_index b 7) c.configuration-set.ensures
    ∙ sym (ap attributes_of
    (sym c.loop-index.invariant
    ∙ set_here (held_of c.args.self.now.held.items) c.args.asked c.args.value c.loop-index.index c.configuration_count-index-end.result c.byte_at.result
    c.loop-index-test.true (c.byte_at.ensures ∙ ap (λ b. slice_index b 5) c.configuration-set.ensures) c.if-byte_at-value.true))

pub returns-clause-settings : goal.returns-clause-settings
returns-clause-settings c =
    no_settings
    ∙ sym (ap settings_of
    (sym c.loop-index.invariant
    ∙ set_nowhere (held_of c.args.self.now.held.items) c.args.asked c.args.value c.loop-index.index c.configuration_count-index-end.result c.loop-index-test.false))
