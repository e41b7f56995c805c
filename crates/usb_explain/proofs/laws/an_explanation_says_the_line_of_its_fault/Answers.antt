use Rattle.std.proofs.Common.{◌∙◌, List, [], ◌∷◌, ◌++◌, Err, ap, append_assoc, length, drop, sym}
use Rattle.usb_text.specs.Shown.{Shown, End}
use Rattle.usb_explain.specs.Explanations.{beginning, descriptors_of, explanation, rest_lines}
use Rattle.usb_explain.specs.Containers.{container_of}
use Rattle.usb_explain.specs.Faults.{fault_lines, fault_shown, look_line}
use Rattle.usb_explain.specs.Laws.{AllSayLineOfFault}
use Rattle.usb_remarks.specs.Outline.{bytes_of}
use Rattle.usb_explain.proofs.laws.an_explanation_says_the_line_of_its_fault.Goals as goal

says : AllSayLineOfFault
unfolding explanation fault_lines
says manner fault b =
    let ds = descriptors_of manner (Err fault) b in
    let before = beginning manner (Err fault) b ds in
    let at = length (bytes_of ds) in
    let look = look_line manner.decoded fault b (container_of b) in
    let rest = rest_lines manner.look at (drop at b) in
    record {
      later = look ++ rest;
      lines = ap (λ (l : List Shown). before ++ l) (append_assoc (fault_shown fault) (End ∷ look) rest ∙ sym (append_assoc (fault_shown fault) (End ∷ []) (look ++ rest)))
          ∙ sym (append_assoc before (fault_shown fault ++ End ∷ []) (look ++ rest));
    }

pub returns : goal.returns
returns c = says
