-- A text read as it stands or with comments, line by line.
use Rattle.std.proofs.Common.{◌≡◌, ℕ, suc, ◌+◌, Bool, true, false, cond, List, [], Option, Some, None, unwrap_or, refl, ap, sym, subst}
use Rattle.usb_listing.specs.declared.assembly.Form.{Form}
use Rattle.usb_listing.specs.declared.assembly.Form.TheVariants as forms
use Rattle.usb_listing.specs.declared.fault.ListWhy.{ListWhy}
use Rattle.usb_listing.specs.Comments.{is_dropped, uncommented, without_return}
use Rattle.usb_listing.specs.Listings.{ListRefused}
use Rattle.usb_listing.specs.inside.Walking.{Refused, count_before, line_read, text_read, Cut, HasNo}
use Rattle.usb_listing.proofs.CommentLemmas.{before_dropped, before_kept, dropped_cut, kept_cut, none_before, none_before_rest, uncommented_none}

-- a line with comments is dropped, or kept
record IsKept (line read : List ℕ) : Type 0 where
  pub kept : is_dropped (without_return line) ≡ false
  pub is : without_return line ≡ read

some_is : (a b : List ℕ) → Some a ≡ Some b → a ≡ b
some_is a b e = ap (λ (o : Option (List ℕ)). unwrap_or o []) e

is_kept : (line read : List ℕ) → line_read forms.Commented line ≡ Some read → IsKept line read
is_kept line read e = cases (is_dropped (without_return line)) refl e
  where
    cases : (b : Bool) → is_dropped (without_return line) ≡ b → cond b None (Some (without_return line)) ≡ Some read → IsKept line read
    cases true eb e = cc
    cases false eb e = record { kept = eb; is = some_is (without_return line) read e }

is_passed : (line : List ℕ) → line_read forms.Commented line ≡ None → is_dropped (without_return line) ≡ true
is_passed line e = cases (is_dropped (without_return line)) refl e
  where
    cases : (b : Bool) → is_dropped (without_return line) ≡ b → cond b None (Some (without_return line)) ≡ None → b ≡ true
    cases true eb e = refl
    cases false eb e = cc

-- ---- the first line, read

pub read_cut : (form : Form) (text line more read : List ℕ) → Cut 10 text line more → line_read form line ≡ Some read → Cut 10 (text_read form text) read (text_read form more)
read_cut forms.Exact text line more read cut e = subst (λ (l : List ℕ). Cut 10 text l more) (some_is line read e) cut
read_cut forms.Commented text line more read cut e =
    let k = is_kept line read e in
    subst (λ (l : List ℕ). Cut 10 (uncommented text) l (uncommented more)) k.is (kept_cut text line more cut k.kept)

pub none_before_read : (form : Form) (text line more read : List ℕ) → Cut 10 text line more → line_read form line ≡ Some read → count_before form text 0 ≡ 0
none_before_read forms.Exact text line more read cut e = refl
none_before_read forms.Commented text line more read cut e = none_before text line more cut (is_kept line read e).kept

pub before_read : (form : Form) (text line more read : List ℕ) (k : ℕ) → Cut 10 text line more → line_read form line ≡ Some read
    → count_before form text (suc k) ≡ suc (count_before form more k)
before_read forms.Exact text line more read k cut e = refl
before_read forms.Commented text line more read k cut e = before_kept text line more k cut (is_kept line read e).kept

-- or dropped

pub passed_cut : (form : Form) (text line more : List ℕ) → Cut 10 text line more → line_read form line ≡ None → text_read form text ≡ text_read form more
passed_cut forms.Exact text line more cut e = cc
passed_cut forms.Commented text line more cut e = dropped_cut text line more cut (is_passed line e)

pub before_passed : (form : Form) (text line more : List ℕ) (k : ℕ) → Cut 10 text line more → line_read form line ≡ None
    → count_before form text k ≡ suc (count_before form more k)
before_passed forms.Exact text line more k cut e = cc
before_passed forms.Commented text line more k cut e = before_dropped text line more k cut (is_passed line e)

-- ---- a text without a line feed

pub read_none : (form : Form) (text : List ℕ) → HasNo 10 text → text_read form text ≡ text
read_none forms.Exact text h = refl
read_none forms.Commented text h = uncommented_none text h

pub none_before_none : (form : Form) (text : List ℕ) → HasNo 10 text → count_before form text 0 ≡ 0
none_before_none forms.Exact text h = refl
none_before_none forms.Commented text h = none_before_rest text h

-- ---- why no file is read

pub refused : (form : Form) (text : List ℕ) (count line : ℕ) (why : ListWhy) → line ≡ count_before form text count + 1
    → ListRefused (text_read form text) (count + 1) why → Refused form text line why
refused forms.Exact text count line why e h = subst (λ n. ListRefused text n why) (sym e) h
refused forms.Commented text count line why e h = record { kept = count; holds = h; line_is = e }
