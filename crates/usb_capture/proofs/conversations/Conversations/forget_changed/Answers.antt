use Rattle.std.proofs.Common.{rules}
use Rattle.std.proofs.lemmas.Fn.{filter_same}
use Rattle.usb_capture.proofs.conversations.Conversations.forget_changed.Goals as goal

pub returns-clause-held : goal.returns-clause-held
returns-clause-held c = filter_same _ _ _ (λ x b f' k. search rules) _ _ c.retain.ensures.filtered
