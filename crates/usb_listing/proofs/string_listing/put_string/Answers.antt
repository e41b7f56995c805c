use Rattle.std.proofs.Common.{◌≡◌, [], ◌++◌, codes, refl, sym, ◌∙◌}
use Rattle.std.specs.List.{flat_map}
use Rattle.std.proofs.lemmas.Bool.{eqb-true}
use Rattle.std.proofs.lemmas.List.{nil_from_length}
use Rattle.std.proofs.lemmas.Result.{on_ok_weaker}
use Rattle.usb_listing.specs.Listing.{string_line}
use Rattle.usb_text.specs.Characters.{written_unit}
use Rattle.usb_listing.proofs.Lines.{quoted_put}
use Rattle.usb_listing.proofs.string_listing.put_string.Goals as goal

pub returns-then-is_empty : goal.returns-then-is_empty
unfolding string_line
returns-then-is_empty c =
    let none : c.args.units.now ≡ [] = nil_from_length c.args.units.now (eqb-true _ 0 (sym c.is_empty.ensures ∙ c.if-is_empty.true)) in
    on_ok_weaker c.put.result (λ (put : c.put.new.self ≡ c.args.page.now ++ codes "string \"\"\n"). rw (put, none) refl) c.put.ensures

pub returns : goal.returns
unfolding string_line
returns c =
    let word : c.put-2.new.self ≡ c.args.page.now ++ codes "string \"" = c.in_ok-put.ensures in
    let units : c.put_units.new.text ≡ c.put-2.new.self ++ flat_map written_unit c.args.units.now = c.in_ok-put_units.ensures in
    on_ok_weaker c.put-3.result (λ (ended : c.put-3.new.self ≡ c.put_units.new.text ++ codes "\"\n"). rw (ended, units, word)
    (quoted_put c.args.page.now (codes "string \"") (flat_map written_unit c.args.units.now) (codes "\"\n"))) c.put-3.ensures
