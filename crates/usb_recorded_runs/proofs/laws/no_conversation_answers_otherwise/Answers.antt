use Rattle.usb_recorded_runs.proofs.ConversationLemmas.{none_in_conversation}
use Rattle.usb_recorded_runs.proofs.SaidSets.{sets_are_said}
use Rattle.usb_recorded_runs.proofs.laws.no_conversation_answers_otherwise.Goals as goal

pub returns : goal.returns
returns c = λ f speed bus transfers accepted bytes all.
    none_in_conversation f (c.a_device_keeps_its_table.ensures f) (sets_are_said f speed accepted bytes) bus transfers all
