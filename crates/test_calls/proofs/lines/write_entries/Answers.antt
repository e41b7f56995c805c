use Rattle.std.proofs.Common.{rules}
use Rattle.usb_text.proofs.Pages.{on_err}
use Rattle.usb_text.proofs.WrittenLines.{nothing_put, puts_broken, puts_finished, puts_less, puts_lines, puts_passed}
use Rattle.test_calls.proofs.lines.write_entries.Goals as goal

pub loop-i-init : goal.loop-i-init
loop-i-init g c = nothing_put _ _

pub loop-i-preserved : goal.loop-i-preserved
loop-i-preserved g c = puts_passed 1 c.loop-i.invariant c.in_ok-put_entry.ensures c.in_ok-pass_on.ensures.ok

pub returns-in_err-put_entry-clause-err : goal.returns-in_err-put_entry-clause-err
returns-in_err-put_entry-clause-err g c = on_err _ (puts_less _ c.loop-i.invariant (search rules))

pub returns-in_err-pass_on-clause-err : goal.returns-in_err-pass_on-clause-err
returns-in_err-pass_on-clause-err g c =
    on_err _ (puts_broken _ (puts_lines 1 c.loop-i.invariant c.in_ok-put_entry.ensures) c.in_err-pass_on.ensures.err (search rules))

pub returns-clause-ok : goal.returns-clause-ok
returns-clause-ok g c = puts_finished _ c.loop-i.invariant c.in_ok-finish.ensures.ok (search rules)

pub returns-in_err-finish-clause-err : goal.returns-in_err-finish-clause-err
returns-in_err-finish-clause-err g c = on_err _ (puts_broken _ c.loop-i.invariant c.in_err-finish.ensures.err (search rules))
