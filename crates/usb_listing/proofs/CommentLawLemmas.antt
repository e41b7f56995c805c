-- Of all texts with comments exactly one holds: what is kept is a listing, or shows one fault at one line.
use Rattle.std.proofs.Common.{◌≡◌, ℕ, ◌+◌, ◌≤◌, List, Result, Ok, Err, length, refl, ap, sym, subst, ◌∙◌, arith}
use Rattle.std.specs.Prelude.{IfErr}
use Rattle.usb_file_data.specs.declared.file.DescriptorFile.{DescriptorFile}
use Rattle.usb_listing.specs.declared.fault.ListFault.{ListFault}
use Rattle.usb_listing.specs.declared.fault.ListWhy.{ListWhy}
use Rattle.usb_listing.specs.declared.fault.ListWhy.TheVariants as whys
use Rattle.usb_listing.specs.Comments.{AtKeptLine, CommentedFaulty, CommentedOrFault, CommentedRefused, lists_file, shows_fault, lines_before, uncommented, whole_lines}
use Rattle.usb_listing.specs.Listings.{ListingOrFault, is_faulty, is_listing, IsLineStart, ListFaulty, Lists}
use Rattle.usb_listing.specs.Order.{items_of}
use Rattle.usb_listing.proofs.CommentLemmas.{before_grows}
use Rattle.usb_listing.proofs.LawLemmas.{listing_or_fault, not_both, one_fault, reached, want_of_memory}

or_fault : (text : List ℕ) → ListingOrFault (uncommented text) → CommentedOrFault text
or_fault text (is_listing f l) = lists_file f l
or_fault text (is_faulty line why h) =
    let kept = length (items_of h.so_far) in
    shows_fault (lines_before (whole_lines text) kept + 1) why
    (record { kept = kept; holds = subst (λ (n : ℕ). ListFaulty (uncommented text) n why) h.begins.line_is h; line_is = refl })

pub commented_or_fault : (text : List ℕ) → CommentedOrFault text
commented_or_fault text = or_fault text (listing_or_fault (uncommented text))

pub one_commented_fault : (text : List ℕ) (m n : ℕ) (v w : ListWhy) → CommentedFaulty text m v → CommentedFaulty text n w → (m ≡ n) × (v ≡ w)
one_commented_fault text m n v w a b =
    let same = one_fault (uncommented text) (a.kept + 1) (b.kept + 1) v w a.holds b.holds in
    let next = same.0 in
    let kept : a.kept ≡ b.kept = omega (arith, next) in
    (a.line_is ∙ ap (λ (k : ℕ). lines_before (whole_lines text) k + 1) kept ∙ sym b.line_is, same.1)

pub not_both_commented : (text : List ℕ) (f : DescriptorFile) (n : ℕ) (w : ListWhy) → Lists (uncommented text) f → CommentedFaulty text n w → ⊥
not_both_commented text f n w l h = not_both (uncommented text) f (h.kept + 1) w l h.holds

pub reached_commented : (text : List ℕ) (m n : ℕ) (why : ListWhy) → AtKeptLine text m (λ kept. IsLineStart (uncommented text) kept) → CommentedFaulty text n why → m ≤ n
reached_commented text m n why a b =
    let next = reached (uncommented text) (a.kept + 1) (b.kept + 1) why a.holds b.holds in
    let grown = before_grows (whole_lines text) a.kept b.kept (omega (arith, next)) in
    let from = a.line_is in
    let to = b.line_is in
    omega (arith, grown, from, to)

pub commented_for_memory : (r : Result DescriptorFile ListFault) (text : List ℕ) (f : DescriptorFile) → Lists (uncommented text) f
    → IfErr r (λ fault. CommentedRefused text fault.line fault.why) → IfErr r (λ fault. fault.why ≡ whys.Memory)
commented_for_memory (Ok g) text f l h = tt
commented_for_memory (Err e) text f l h = want_of_memory (uncommented text) f (h.kept + 1) e.why l h.holds
