use Rattle.std.proofs.Common.{◌≡◌, ◌++◌, codes, map}
use Rattle.std.specs.List.{flat_map}
use Rattle.std.proofs.lemmas.Result.{on_ok_weaker}
use Rattle.usb_listing.specs.Table.{written_field}
use Rattle.usb_text.specs.Characters.{two_bytes}
use Rattle.usb_listing.specs.Listing.{languages_line}
use Rattle.usb_listing.proofs.Lines.{row_line_put}
use Rattle.usb_listing.proofs.string_listing.put_languages.Goals as goal

pub returns : goal.returns
unfolding languages_line
returns c =
    let word : c.put.new.self ≡ c.args.page.now ++ codes "languages" = c.in_ok-put.ensures in
    let languages : c.put_numbers.new.page ≡ c.put.new.self ++ flat_map written_field (map two_bytes c.args.languages.now) = c.in_ok-put_numbers.ensures in
    on_ok_weaker c.put-2.result (λ (ended : c.put-2.new.self ≡ c.put_numbers.new.page ++ codes "\n"). rw (ended, languages, word)
    (row_line_put c.args.page.now (codes "languages") (map two_bytes c.args.languages.now))) c.put-2.ensures
