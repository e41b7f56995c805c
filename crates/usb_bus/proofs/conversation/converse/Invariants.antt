use Rattle.std.proofs.Common.{◌≡◌, map, take}
use Rattle.usb_bus.specs.Converse.{IsTalk, without_data}
use Rattle.usb_bus.proofs.conversation.converse.Given as goal

abbrev pub invariant-loop-request : goal.invariant-loop-request
invariant-loop-request l =
    record {
      talk : IsTalk (map without_data (take l.request-index l.requests)) l.fates l.conversation;
      file : l.conversation.file ≡ l.d.file;
      naks : l.conversation.naks ≡ l.naks;
    }
