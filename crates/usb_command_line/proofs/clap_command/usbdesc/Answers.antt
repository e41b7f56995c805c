use Rattle.std.proofs.Common.{◌≡◌, ◌∙◌, ap, ap₂, codes}
use Rattle.std.proofs.lemmas.Result.{IfOk-weaker}
use Rattle.clap.specs.Words.{App, app_of, new_app, with_subcommand}
use Rattle.clap.specs.Simple.{app_of_fields}
use Rattle.usb_command_line.specs.CommandLine.{file_apps, requiring, versioned, with_commands}
use Rattle.usb_command_line.proofs.clap_command.usbdesc.Goals as goal

-- a command with one more subcommand
abbrev with_app : App → App → App
with_app a b = with_subcommand a b.top

pub returns : goal.returns
returns c =
    let begun : app_of c.subcommand_required-usbdesc.result ≡ requiring (versioned (new_app (codes "usbdesc"))) =
    ap app_of_fields c.subcommand_required-usbdesc.ensures ∙ ap requiring (ap app_of_fields c.about.ensures
    ∙ (ap app_of_fields c.version.ensures ∙ ap versioned c.new.ensures.app)) in
    let files = c.in_ok-usbdesc.ensures ∙ ap (λ a. with_commands a file_apps) begun in
    let explains = c.in_ok-usbdesc-2.ensures ∙ ap₂ with_app files c.in_ok-explain.ensures.app in
    let enumerates = c.in_ok-usbdesc-3.ensures ∙ ap₂ with_app explains c.in_ok-enumerate.ensures.app in
    IfOk-weaker c.add_command-3.result _ _ (λ _ added. added ∙ ap₂ with_app enumerates c.in_ok-capture.ensures.app) c.add_command-3.ensures
