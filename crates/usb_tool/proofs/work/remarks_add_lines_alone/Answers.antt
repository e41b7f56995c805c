use Rattle.usb_file_data.specs.Findings.{found_in_order, input_findings}
use Rattle.usb_remarks.specs.PlacedRemarks.{remarks_text}
use Rattle.usb_tool.proofs.Works.{more_lines_found}
use Rattle.usb_tool.proofs.work.remarks_add_lines_alone.Goals as goal

pub returns : goal.returns
returns c = λ running input b some. more_lines_found (input_findings input) (remarks_text running (found_in_order input) b) some
