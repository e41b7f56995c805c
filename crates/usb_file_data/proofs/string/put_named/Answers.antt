use Rattle.std.proofs.Common.{ap, ◌∙◌}
use Rattle.usb_file_data.specs.File.{string_indices}
use Rattle.usb_file_data.specs.inside.Walk.{marked_among}
use Rattle.usb_file_data.proofs.Folds.{among_marks}
use Rattle.usb_file_data.proofs.string.put_named.Goals as goal

pub returns-clause-indices : goal.returns-clause-indices
returns-clause-indices c =
    c.put_marked.ensures.numbers ∙ ap (marked_among 1 255) c.mark_file.ensures ∙ among_marks (string_indices c.args.f.now)
