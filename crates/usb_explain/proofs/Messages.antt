-- The messages of faults are words.
use Rattle.std.proofs.Common.{IsTrue, refl}
use Rattle.usb_set.specs.declared.fault.SetWhy.{SetWhy}
use Rattle.usb_set.specs.declared.fault.SetWhy.TheVariants as sets
use Rattle.usb_set.specs.Numbers.{why_message as set_message}
use Rattle.usb_file_data.specs.declared.fault.FileWhy.{FileWhy}
use Rattle.usb_file_data.specs.declared.fault.FileWhy.TheVariants as files
use Rattle.usb_file_data.specs.FileFaults.{why_message}
use Rattle.usb_text.specs.Written.{is_words}

pub set_message_words : (why : SetWhy) → IsTrue (is_words (set_message why))
set_message_words sets.HeaderLength = refl
set_message_words sets.HeaderKind = refl
set_message_words sets.Total = refl
set_message_words sets.ItemLength = refl
set_message_words sets.Over = refl
set_message_words sets.Nested = refl
set_message_words sets.ItemShort = refl
set_message_words sets.Stray = refl
set_message_words sets.Truncated = refl
set_message_words sets.Memory = refl

pub file_message_words : (why : FileWhy) → IsTrue (is_words (why_message why))
file_message_words files.Device = refl
file_message_words (files.Set why) = refl
file_message_words files.SetKind = refl
file_message_words files.Qualifier = refl
file_message_words files.Text = refl
file_message_words files.Truncated = refl
file_message_words files.Trailing = refl
file_message_words files.Memory = refl
