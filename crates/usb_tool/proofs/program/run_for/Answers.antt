use Rattle.std.proofs.Common.{inl}
use Rattle.usb_tool.proofs.program.run_for.Goals as goal

pub returns-in-Ok : goal.returns-in-Ok
returns-in-Ok g c = inl (record {
  line = c.in-Ok.line;
  outcome = c.carry_out.result;
  asked = c.in-Ok.ensures.line;
  ended = c.carry_out.ensures;
  reported = c.tell.ensures.lines;
  exits = c.tell.ensures.status;
})
