use Rattle.std.proofs.Common.{◌≡◌, ◌++◌, arith, take, subst, sym}
use Rattle.std.specs.Io.KnownBytes.{Consumes}
use Rattle.std.proofs.KnownBytes.{Consumes-nil}
use Rattle.usb_capture_lines.specs.RecordingRuns.{PoursInVain}
use Rattle.usb_capture_lines.proofs.RunLemmas.{kept_is_nothing, poured_in_vain, poured_more, poured_still, reads_nothing, stops_by}
use Rattle.usb_capture_lines.proofs.recording.read_rest.Goals as goal

pub loop-init : goal.loop-init
loop-init g c s first before held report = reads_nothing before _ _ _ (Consumes-nil _) report

pub returns-in-Ok-eq0-clause-ok : goal.returns-in-Ok-eq0-clause-ok
returns-in-Ok-eq0-clause-ok g c s first before held report =
    let zero : c.in-Ok-eq0.field-0 ≡ 0 = omega (arith, c.in-Ok-eq0.field-0-test) in
    let read = subst (λ n. Consumes (g.R.Read.remaining c.loop.r) (g.R.Read.remaining c.read.new.self) (take n c.read.new.buf)) zero c.in-Ok-eq0.ensures.bytes.0 in
    poured_still before _ _ _ _ (c.loop.invariant s first before held report) read

pub returns-in-Err-clause-err : goal.returns-in-Err-clause-err
returns-in-Err-clause-err g c s first before held report =
    poured_still before _ _ _ _ (c.loop.invariant s first before held report) (kept_is_nothing _ _ c.in-Err.ensures.bytes)

pub returns-in-Err-take-clause-err : goal.returns-in-Err-take-clause-err
returns-in-Err-take-clause-err g c s first before held report =
    let so_far = c.loop.invariant s first before held report in
    subst (PoursInVain s first before _ _ _ held _) (sym c.recording_fault_of.ensures)
    (poured_in_vain s first before (take c.in-Ok.read c.read.new.buf) c.loop.recording c.take.new.self _ _ _ held _ _ _ so_far c.in-Ok.ensures.bytes.0
    (stops_by s first _ c.take.new.self held _ c.in-Err-take.fault (c.in-Err-take.ensures.err s first (before ++ so_far.bytes) held so_far.all)))

pub loop-preserved : goal.loop-preserved
loop-preserved g c s first before held report =
    let so_far = c.loop.invariant s first before held report in
    poured_more s first before (take c.in-Ok.read c.read.new.buf) c.loop.recording c.take.new.self _ _ _ held _ _ so_far c.in-Ok.ensures.bytes.0
    (c.in-Ok-take.ensures.ok s first (before ++ so_far.bytes) held so_far.all)
