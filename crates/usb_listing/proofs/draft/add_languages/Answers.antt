use Rattle.std.proofs.Common.{◌*◌, ℕ, Some, length, refl, ap, ◌∙◌}
use Rattle.usb_listing.specs.inside.Growing.{file_and}
use Rattle.usb_listing.proofs.CountLemmas.{languages_draft}
use Rattle.usb_listing.proofs.draft.add_languages.Goals as goal

pub returns : goal.returns
unfolding file_and
returns c =
    languages_draft c.args.draft.now _ c.args.codes c.requires.holds c.requires.item c.requires.may
    (λ i. record c.args.draft.now.file { strings = Some (record { languages = c.args.codes; texts = c.new.ensures i }) })
    (ap (λ (n : ℕ). n * c.count_named.result) c.len.ensures ∙ ap (λ (n : ℕ). length c.args.codes * n) c.count_named.ensures.count) refl
