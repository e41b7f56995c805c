-- On the descriptors of a fragment.
use Rattle.std.proofs.Common.{◌≡◌, ◌≤◌, ◌<◌, ℕ, zero, suc, Bool, true, false, if◌then◌else◌, ◌+◌, List, [], ◌∷◌, ◌++◌, codes, slice_index, length, take, drop, flat_map, map, Option, Some, None, refl, sym, ap, subst, ◌∙◌, arith, append_assoc, length-append}
use Rattle.std.proofs.lemmas.List.{length-take-le, take-append-drop}
use Rattle.usb_fields.specs.Bytes.{little_endian_at}
use Rattle.usb_text.specs.Output.{Held}
use Rattle.usb_text.specs.Shown.{Shown, ends, showing_all, with_shown}
use Rattle.usb_text.specs.Written.{LineBytes, WritesLess, WritesLines, Written, more_lines, no_lines, written}
use Rattle.usb_text.proofs.Pages.{appends_nothing, keeps_refl}
use Rattle.usb_text.proofs.ShownLines.{showing_joined}
use Rattle.usb_explain.specs.declared.fragment.FragmentPosition.{FragmentPosition}
use Rattle.usb_explain.specs.declared.manner.Manner.{Manner}
use Rattle.usb_remarks.specs.declared.speed.SetSpeed.{SetSpeed}
use Rattle.usb_explain.specs.Descriptors.{lines_of}
use Rattle.usb_explain.specs.Fragments.{AllFragmentBytesOnce, described_alone, descriptors_lines, fragment, fragment_from, fragment_lines, fragment_start, is_setup, position_past, setup_field, setup_fields, setup_lines}
use Rattle.usb_explain.specs.Explanations.{first_line}
use Rattle.usb_remarks.specs.OutlineLaws.{Follow, span_of}
use Rattle.usb_remarks.specs.Outline.{Described, bytes_of}
use Rattle.usb_walk.specs.Roles.{is_association}
use Rattle.usb_explain.specs.Subjects.{Subject}
use Rattle.usb_walk.specs.Trees.{descriptor_length, descriptors, first_descriptors}
use Rattle.usb_walk.proofs.Cuts.{descriptors_end, descriptors_step, first_step, length_within}
use Rattle.usb_explain.proofs.Explaining.{ends_joined, put_is}
use Rattle.usb_remarks.proofs.Spans.{left_behind}

-- the bytes of descriptors
abbrev pub joined : List (List ℕ) → List ℕ
joined ds = flat_map (λ d. d) ds

-- they are those of what is described
pub bytes_are : (speed : SetSpeed) (p : FragmentPosition) (ds : List (List ℕ)) → bytes_of (fragment_from speed p ds) ≡ joined ds
unfolding fragment_from described_alone
bytes_are speed p [] = refl
bytes_are speed p (d ∷ ds) = ap (λ (l : List ℕ). d ++ l) (bytes_are speed (position_past p d) ds)

-- bytes are these descriptors, one after another, and a rest
pub record IsCut (speed : SetSpeed) (ds : List (List ℕ)) (b : List ℕ) : Type 0 where
  pub rest : List ℕ
  pub parts : b ≡ joined ds ++ rest
  pub spans : (p : FragmentPosition) → Follow p.at (map span_of (fragment_from speed p ds)) (p.at + length (joined ds))

cut_none : (speed : SetSpeed) (b : List ℕ) → IsCut speed [] b
unfolding fragment_from
cut_none speed b = record { rest = b; parts = refl; spans = λ p. (omega arith) }

cut_more : (speed : SetSpeed) (d : List ℕ) (ds : List (List ℕ)) (b c : List ℕ) → b ≡ d ++ c → 0 < length d → IsCut speed ds c → IsCut speed (d ∷ ds) b
unfolding fragment_from described_alone
cut_more speed d ds b c e some cut = record {
  rest = cut.rest;
  parts = e ∙ ap (λ (l : List ℕ). d ++ l) cut.parts ∙ sym (append_assoc d (joined ds) cut.rest);
  spans = λ p.
      let sum : length (d ++ joined ds) ≡ length d + length (joined ds) = length-append d (joined ds) in
      let end : (p.at + length d) + length (joined ds) ≡ p.at + length (d ++ joined ds) = omega (arith, sum) in
      (refl, some, subst (λ (n : ℕ). Follow (p.at + length d) (map span_of (fragment_from speed (position_past p d) ds)) n) end (cut.spans (position_past p d)));
}

cut_at : (speed : SetSpeed) (n : ℕ) (b : List ℕ) (o : Option ℕ) → descriptor_length b ≡ o → ((c : List ℕ) → IsCut speed (first_descriptors n c) c)
    → IsCut speed (first_descriptors (suc n) b) b
cut_at speed n b None e cut = subst (λ (ds : List (List ℕ)). IsCut speed ds b) (sym (first_step n b None e)) (cut_none speed b)
cut_at speed n b (Some k) e cut =
    let within : (2 ≤ k) × (k ≤ length b) = length_within b k e in
    let long : length (take k b) ≡ k = length-take-le k b within.1 in
    subst (λ (ds : List (List ℕ)). IsCut speed ds b) (sym (first_step n b (Some k) e))
    (cut_more speed (take k b) (first_descriptors n (drop k b)) b (drop k b) (sym (take-append-drop k b)) (omega (arith, long, within.0)) (cut (drop k b)))

-- all bytes are cut so
cut_all : (speed : SetSpeed) (n : ℕ) (b : List ℕ) → IsCut speed (first_descriptors n b) b
cut_all speed zero b = cut_none speed b
cut_all speed (suc n) b = cut_at speed n b (descriptor_length b) refl (cut_all speed n)

-- each byte once
pub fragment_once : AllFragmentBytesOnce
fragment_once speed b =
    let ds : List (List ℕ) = descriptors b in
    let cut = cut_all speed (length b) b in
    let bytes : bytes_of (fragment speed b) ≡ joined ds = bytes_are speed fragment_start ds in
    let end : length (joined ds) ≡ length (bytes_of (fragment speed b)) = ap (λ (l : List ℕ). length l) (sym bytes) in
    let total : fragment_start.at + length (joined ds) ≡ length (bytes_of (fragment speed b)) = omega (arith, end) in
    let rest : drop (length (bytes_of (fragment speed b))) b ≡ cut.rest = left_behind (joined ds) cut.rest b (length (bytes_of (fragment speed b))) cut.parts end in
    record {
      parts = cut.parts ∙ ap (λ (l : List ℕ). l ++ cut.rest) (sym bytes) ∙ ap (λ (l : List ℕ). bytes_of (fragment speed b) ++ l) (sym rest);
      spans = subst (λ (n : ℕ). Follow 0 (map span_of (fragment speed b)) n) total (cut.spans fragment_start);
    }

-- one more descriptor
module _ (speed : SetSpeed) (p : FragmentPosition) (b : List ℕ) (n : ℕ) (found : descriptor_length b ≡ Some n) where
  ahead : fragment_from speed p (descriptors b) ≡ described_alone speed p (take n b) ∷ fragment_from speed (position_past p (take n b)) (descriptors (drop n b))
  unfolding fragment_from
  ahead = ap (fragment_from speed p) (descriptors_step b n found)

  pub shown_next : {S : Type 0} (showing : Shown → S → S) (subject : Subject) (seen now goal : S)
      → now ≡ showing_all showing (lines_of subject (described_alone speed p (take n b))) seen
      → showing_all showing (flat_map (lines_of subject) (fragment_from speed p (descriptors b))) seen ≡ goal
      → showing_all showing (flat_map (lines_of subject) (fragment_from speed (position_past p (take n b)) (descriptors (drop n b)))) now ≡ goal
  shown_next showing subject seen now goal put all =
      let behind = flat_map (lines_of subject) (fragment_from speed (position_past p (take n b)) (descriptors (drop n b))) in
      ap (showing_all showing behind) put
      ∙ sym (ap (λ (ds : List Described). showing_all showing (flat_map (lines_of subject) ds) seen) ahead
      ∙ showing_joined showing (lines_of subject (described_alone speed p (take n b))) behind seen)
      ∙ all

  pub ends_next : (total : ℕ) → p.at + length (bytes_of (fragment_from speed p (descriptors b))) ≡ total
      → (p.at + length (take n b)) + length (bytes_of (fragment_from speed (position_past p (take n b)) (descriptors (drop n b)))) ≡ total
  unfolding described_alone
  ends_next total e =
      let behind = bytes_of (fragment_from speed (position_past p (take n b)) (descriptors (drop n b))) in
      let sum : length (bytes_of (fragment_from speed p (descriptors b))) ≡ length (take n b) + length behind =
      ap (λ (ds : List Described). length (bytes_of ds)) ahead ∙ length-append (take n b) behind in
      omega (arith, sum, e)

-- and none
module _ (speed : SetSpeed) (p : FragmentPosition) (b : List ℕ) (none : descriptor_length b ≡ None) where
  behind : fragment_from speed p (descriptors b) ≡ []
  unfolding fragment_from
  behind = ap (fragment_from speed p) (descriptors_end b none)

  pub shown_none : {S : Type 0} (showing : Shown → S → S) (subject : Subject) (seen goal : S)
      → showing_all showing (flat_map (lines_of subject) (fragment_from speed p (descriptors b))) seen ≡ goal → seen ≡ goal
  shown_none showing subject seen goal all =
      sym (ap (λ (ds : List Described). showing_all showing (flat_map (lines_of subject) ds) seen) behind) ∙ all

  pub ends_none : (total : ℕ) → p.at + length (bytes_of (fragment_from speed p (descriptors b))) ≡ total → p.at ≡ total
  ends_none total e =
      let nothing : length (bytes_of (fragment_from speed p (descriptors b))) ≡ 0 = ap (λ (ds : List Described). length (bytes_of ds)) behind in
      omega (arith, nothing, e)

-- no more associations come than bytes
pub counted_next : (p : FragmentPosition) (d : List ℕ) → p.associations ≤ p.at → 0 < length d → (position_past p d).associations ≤ (position_past p d).at
counted_next p d counted some = by (is_association d)
  where
    by : (is : Bool) → (if is then p.associations + 1 else p.associations) ≤ p.at + length d
    by true = omega (arith, counted, some)
    by false = omega (arith, counted, some)

-- ---- the whole

module _ (m : Manner) (b : List ℕ) where
  fragment_has : 0 < ends (fragment_lines m b)
  unfolding fragment_lines
  fragment_has =
      let rest = if is_setup b then setup_lines m.look b else descriptors_lines m b in
      let parts : ends (fragment_lines m b) ≡ ends (first_line (length b)) + ends rest = ends_joined (first_line (length b)) rest in
      omega (arith, parts)

  -- nothing was written
  pub fragment_nothing : (a : Held) → WritesLess m.look.utf8 (ends (fragment_lines m b)) a a
  fragment_nothing a = record { front = []; characters = refl; fewer = fragment_has; written = appends_nothing a a (keeps_refl a) }

  all_put : (new lines : LineBytes) → lines ≡ no_lines m.look.utf8 → written new ≡ showing_all with_shown (fragment_lines m b) (written lines)
      → written new ≡ more_lines (ends (fragment_lines m b)) (written (no_lines m.look.utf8))
  all_put new lines is shown =
      put_is (fragment_lines m b) lines new shown ∙ ap (λ (l : LineBytes). more_lines (ends (fragment_lines m b)) (written l)) is

  -- all was
  pub fragment_whole : (a d : Held) (new lines : LineBytes) → lines ≡ no_lines m.look.utf8 → written new ≡ showing_all with_shown (fragment_lines m b) (written lines)
      → WritesLines new.utf8 (written new).ended a d → WritesLines m.look.utf8 (ends (fragment_lines m b)) a d
  fragment_whole a d new lines is shown w =
      let put = all_put new lines is shown in
      let gained = ap (λ (l : Written). l.ended) put in
      let count : (written new).ended ≡ ends (fragment_lines m b) = omega (arith, gained) in
      subst (λ (n : ℕ). WritesLines m.look.utf8 n a d) count (subst (λ (u : Bool). WritesLines u (written new).ended a d) (ap (λ (l : Written). l.utf8) put) w)

  -- or less
  pub fragment_cut : (a d : Held) (new lines : LineBytes) → lines ≡ no_lines m.look.utf8 → written new ≡ showing_all with_shown (fragment_lines m b) (written lines)
      → WritesLess new.utf8 (written new).ended a d → WritesLess m.look.utf8 (ends (fragment_lines m b)) a d
  fragment_cut a d new lines is shown w =
      let put = all_put new lines is shown in
      let gained = ap (λ (l : Written). l.ended) put in
      let count : (written new).ended ≡ ends (fragment_lines m b) = omega (arith, gained) in
      subst (λ (n : ℕ). WritesLess m.look.utf8 n a d) count (subst (λ (u : Bool). WritesLess u (written new).ended a d) (ap (λ (l : Written). l.utf8) put) w)

-- the fields of a setup packet, one after another
pub setup_shown : {S : Type 0} (showing : Shown → S → S) (b : List ℕ) (s0 s1 s2 s3 s4 s5 : S) (v1 v2 v3 v4 v5 : ℕ)
    → v1 ≡ slice_index b 0 → v2 ≡ slice_index b 1 → v3 ≡ little_endian_at b 2 → v4 ≡ little_endian_at b 4 → v5 ≡ little_endian_at b 6
    → s1 ≡ showing_all showing (setup_field (codes "bmRequestType") v1) s0 → s2 ≡ showing_all showing (setup_field (codes "bRequest") v2) s1
    → s3 ≡ showing_all showing (setup_field (codes "wValue") v3) s2 → s4 ≡ showing_all showing (setup_field (codes "wIndex") v4) s3
    → s5 ≡ showing_all showing (setup_field (codes "wLength") v5) s4 → s5 ≡ showing_all showing (setup_fields b) s0
unfolding setup_fields
setup_shown showing b s0 s1 s2 s3 s4 s5 v1 v2 v3 v4 v5 w1 w2 w3 w4 w5 q1 q2 q3 q4 q5 =
    let one = setup_field (codes "bmRequestType") (slice_index b 0) in
    let two = setup_field (codes "bRequest") (slice_index b 1) in
    let three = setup_field (codes "wValue") (little_endian_at b 2) in
    let four = setup_field (codes "wIndex") (little_endian_at b 4) in
    let five = setup_field (codes "wLength") (little_endian_at b 6) in
    let p1 : s1 ≡ showing_all showing one s0 = q1 ∙ ap (λ (n : ℕ). showing_all showing (setup_field (codes "bmRequestType") n) s0) w1 in
    let p2 : s2 ≡ showing_all showing (one ++ two) s0 =
    q2 ∙ ap (λ (n : ℕ). showing_all showing (setup_field (codes "bRequest") n) s1) w2 ∙ ap (showing_all showing two) p1 ∙ sym (showing_joined showing one two s0) in
    let p3 : s3 ≡ showing_all showing (one ++ two ++ three) s0 =
    q3 ∙ ap (λ (n : ℕ). showing_all showing (setup_field (codes "wValue") n) s2) w3 ∙ ap (showing_all showing three) p2 ∙ sym (showing_joined showing (one ++ two) three s0) in
    let p4 : s4 ≡ showing_all showing (one ++ two ++ three ++ four) s0 =
    q4 ∙ ap (λ (n : ℕ). showing_all showing (setup_field (codes "wIndex") n) s3) w4 ∙ ap (showing_all showing four) p3 ∙ sym (showing_joined showing (one ++ two ++ three) four s0) in
    q5 ∙ ap (λ (n : ℕ). showing_all showing (setup_field (codes "wLength") n) s4) w5 ∙ ap (showing_all showing five) p4
    ∙ sym (showing_joined showing (one ++ two ++ three ++ four) five s0)
