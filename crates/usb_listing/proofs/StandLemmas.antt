-- Where a word may stand, some descriptor of it may come next.
use Rattle.std.proofs.Common.{◌≡◌, ℕ, ltb, true, Option, Some, None, ◌+◌, length, List, [], ◌∷◌, ◌++◌, refl, sym, subst, arith}
use Rattle.std.specs.List.{list_all}
use Rattle.std.proofs.lemmas.Bool.{and_parts, ltb-true}
use Rattle.usb_fields.specs.Bytes.{AreBytes}
use Rattle.usb_fields.specs.Fields.{size_of}
use Rattle.usb_fields.specs.declared.field.Width.{Width}
use Rattle.usb_fields.specs.declared.field.Width.TheVariants.{One, Two}
use Rattle.usb_listing.specs.Table.{Row}
use Rattle.usb_file_data.specs.declared.file.DescriptorFile.{DescriptorFile}
use Rattle.usb_listing.specs.declared.word.Word.{Word}
use Rattle.usb_listing.specs.declared.word.Word.TheVariants as words
use Rattle.usb_listing.specs.declared.word.ExtraWord.TheVariants as extra
use Rattle.usb_listing.specs.Says.{IsItem, Item, fields, item_word, languages, row_for, string}
use Rattle.usb_listing.specs.Order.{MayStand}
use Rattle.usb_listing.specs.inside.Growing.{may_stand}
use Rattle.usb_listing.specs.inside.Walking.{grown}
use Rattle.usb_listing.proofs.MoreLemmas.{AreOrdered, more}

small_bytes : (b : List ℕ) → list_all (λ x. ltb x 256) b ≡ true → AreBytes b
small_bytes [] e = tt
small_bytes (x ∷ b) e = let p = and_parts (ltb x 256) (list_all (λ x. ltb x 256) b) e in (ltb-true x 256 p.0, small_bytes b p.1)

-- a descriptor of each word
record Sample (w : Word) : Type 0 where
  pub item : Item
  pub word_is : item_word item ≡ w
  pub is_item : IsItem item

-- fields of these widths that are all 0, and a descriptor of such fields alone
abbrev zeros : List Width → List ℕ
zeros [] = []
zeros (One ∷ widths) = 0 ∷ zeros widths
zeros (Two ∷ widths) = 0 ∷ 0 ∷ zeros widths

abbrev fields_of : Option Row → List ℕ
fields_of None = []
fields_of (Some row) = zeros row.widths

abbrev plain : Option Row → List ℕ
plain None = []
plain (Some row) = (1 + length row.front + size_of row.widths) ∷ row.front ++ zeros row.widths

sample : (w : Word) → Sample w
sample words.Languages = record { item = languages (0 ∷ []); word_is = refl; is_item = (small_bytes (4 ∷ 3 ∷ 0 ∷ 0 ∷ []) refl, λ e. cc) }
sample words.String = record { item = string []; word_is = refl; is_item = small_bytes (2 ∷ 3 ∷ []) refl }
sample (words.Extra extra.Raw) = record {
  item = fields (words.Extra extra.Raw) (2 ∷ 0 ∷ []);
  word_is = refl;
  is_item = (small_bytes (2 ∷ 0 ∷ []) refl, record { body = 0 ∷ []; whole = refl; fills = omega arith }, refl);
}
sample w = record {
  item = fields w (plain (row_for w));
  word_is = refl;
  is_item = (small_bytes (plain (row_for w)) refl, record { body = fields_of (row_for w); whole = refl; fills = omega arith }, refl);
}

pub may_then : (s : Option DescriptorFile) (w : Word) → AreOrdered s → may_stand s w ≡ true → MayStand s w
may_then s w h may =
    let x = sample w in
    record { item = x.item; file = grown s x.item; more = more s x.item h x.is_item (subst (λ (v : Word). may_stand s v ≡ true) (sym x.word_is) may); word_is = x.word_is }
