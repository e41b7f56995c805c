use Rattle.std.proofs.Common.{◌≡◌, ap, subst, ◌∙◌}
use Rattle.std.proofs.lemmas.Result.{IfOk-weaker}
use Rattle.clap.specs.Words.{App, fault_of, is_simple, is_simple_and_free, subcommand_of, subcommand_rows_of}
use Rattle.clap.specs.Kinds.{FailsBy}
use Rattle.usb_command_line.specs.CommandLine.{usbdesc_app, word_texts}
use Rattle.usb_command_line.proofs.LineLemmas.{parse_names, usbdesc_free, usbdesc_simple}
use Rattle.usb_command_line.proofs.command_line.parse.Goals as goal

pub returns-clause-found : goal.returns-clause-found
returns-clause-found c =
    let words = word_texts c.args.words.now in
    let is = c.in_ok-usbdesc.ensures in
    IfOk-weaker c.try_get_matches_from.result _ (λ m. subcommand_rows_of m ≡ subcommand_of usbdesc_app words)
    (λ m has. (has (ap is_simple is ∙ usbdesc_simple)).1 ∙ ap (λ (a : App). subcommand_of a words) is) c.try_get_matches_from.ensures.matches

pub returns-clause-err : goal.returns-clause-err
returns-clause-err c =
    let is = c.in_ok-usbdesc.ensures in
    subst (λ (a : App). FailsBy (fault_of a (word_texts c.args.words.now)) c.try_get_matches_from.result) is (c.try_get_matches_from.ensures.kinds (ap is_simple_and_free is ∙ usbdesc_free))

pub returns-clause-named : goal.returns-clause-named
returns-clause-named c =
    parse_names (word_texts c.args.words.now) c.try_get_matches_from.result (returns-clause-err c) (returns-clause-found c)
