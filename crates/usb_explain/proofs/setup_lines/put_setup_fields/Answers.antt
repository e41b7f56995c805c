use Rattle.std.proofs.Common.{◌∙◌}
use Rattle.std.proofs.lemmas.Result.{on_ok_weaker}
use Rattle.usb_explain.proofs.Fragments.{setup_shown}
use Rattle.usb_explain.proofs.setup_lines.put_setup_fields.Goals as goal

pub returns : goal.returns
returns g c =
    on_ok_weaker c.put_number_field-2.result
    (setup_shown g.P.Page.showing c.args.b.now _ _ _ _ _ _ _ _ _ _ _ c.byte_at.ensures (c.from.ensures ∙ c.byte_at-2.ensures) c.word_at.ensures.value c.word_at-2.ensures.value c.word_at-3.ensures.value
    c.in_ok-put_type_field.ensures c.in_ok-put_number_field.ensures c.in_ok-put_code_field.ensures c.in_ok-put_code_field-2.ensures)
    c.put_number_field-2.ensures
