use Rattle.std.proofs.Common.{◌≡◌, [], rules}
use Rattle.usb_tool.proofs.Written.{line_written}
use Rattle.usb_tool.proofs.fault.tell_line.Goals as goal

pub returns-in-Ok : goal.returns-in-Ok
returns-in-Ok g c =
    let empty : c.new-line.result.bytes ≡ [] = search rules in
    let text : c.as_bytes.result.now ≡ c.writeln.new.self.bytes = search rules in
    line_written c.write_all.result _ _ _ _ _ _ empty c.in-Ok.ensures.writes text c.write_all.ensures.ok c.write_all.ensures.err
