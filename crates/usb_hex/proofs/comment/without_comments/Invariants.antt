use Rattle.std.proofs.Common.{◌≡◌, ◌++◌, length}
use Rattle.usb_hex.specs.Comments.{uncommented}
use Rattle.usb_hex.specs.declared.comment.Place.TheVariants.{Start}
use Rattle.usb_hex.proofs.comment.without_comments.Given as goal

-- what is shown so far, and what is to come
abbrev pub invariant-loop-rest : goal.invariant-loop-rest
invariant-loop-rest l = l.code.items ++ uncommented l.place l.rest ≡ uncommented Start l.text

abbrev pub decreases-loop-rest : goal.decreases-loop-rest
decreases-loop-rest l = length l.rest
