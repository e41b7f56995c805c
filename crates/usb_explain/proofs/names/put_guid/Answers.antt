use Rattle.std.proofs.Common.{◌∙◌, ap, sym}
use Rattle.usb_text.specs.Written.{is_words}
use Rattle.usb_explain.proofs.Guids.{characters_are_words}
use Rattle.usb_explain.proofs.names.put_guid.Goals as goal

pub put_characters-requires : goal.put_characters-requires
put_characters-requires g c = ap is_words c.prefix.ensures ∙ characters_are_words c.args.guid.now (sym c.has_characters.ensures ∙ c.if-has_characters.true)
