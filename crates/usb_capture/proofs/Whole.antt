-- How many bytes a part has, as more of it come or as only the first are held.
use Rattle.std.proofs.Common.{◌≡◌, ℕ, ◌+◌, ◌<◌, ◌≤◌, List, ◌++◌, length, take, drop, Bool, true, false, nat_lt, nat_eq, slice_index, inl, inr, refl, sym, ◌∙◌, ap, arith, length-append}
use Rattle.std.proofs.lemmas.List.{length-take-le, take_all, take-append-drop}
use Rattle.std.proofs.lemmas.Bool.Decides.{nat_tests}
use Rattle.std.specs.Prelude.{Option, Some, None, is_some, ◌&&◌, if◌then◌else◌}
use Rattle.usb_capture.specs.declared.order.ByteOrder.{ByteOrder}
use Rattle.usb_capture.specs.declared.order.ByteOrder.TheVariants.{Little, Big}
use Rattle.usb_capture.specs.declared.pcap.Form.{Form}
use Rattle.usb_capture.specs.declared.pcap.Writer.{Writer}
use Rattle.usb_capture.specs.declared.stage.Stage.{Stage}
use Rattle.usb_capture.specs.declared.stage.Stage.TheVariants.{Start, Records, Blocks, Lines}
use Rattle.usb_capture.specs.Files.{first_length, whole}
use Rattle.usb_capture.specs.Numbers.{number_at}
use Rattle.usb_capture.specs.Pcap.{record_length, writer_of}
use Rattle.usb_capture.specs.Pcapng.{block_length, block_order, is_section, is_total, total}
use Rattle.usb_capture.specs.UsbmonText.{is_text, line_length}
use Rattle.usb_capture.specs.Words.{digit}
use Rattle.usb_capture.proofs.LineLengths.{least_line, line_grows, line_held, line_steady}
use Rattle.usb_capture.proofs.Numbers.{Agree, front, le_or, more, same_number}

-- what the first bytes tell is known by whatever agrees with them
pub order_same : (order : ByteOrder) (b c : List ℕ) → Agree 12 b c → block_order order b ≡ block_order order c
order_same order b c h =
    let type = same_number 12 Big b c 0 (omega arith) h in
    let little = same_number 12 Little b c 8 (omega arith) h in
    let big = same_number 12 Big b c 8 (omega arith) h in
    cc

pub writer_same : (b c : List ℕ) → Agree 4 b c → writer_of b ≡ writer_of c
writer_same b c h =
    let little = same_number 4 Little b c 0 (omega arith) h in
    let big = same_number 4 Big b c 0 (omega arith) h in
    cc

pub section_same : (b c : List ℕ) → Agree 4 b c → is_section b ≡ is_section c
section_same b c h = ap (λ n. nat_eq n 0x0a0d0d0a) (same_number 4 Big b c 0 (omega arith) h)

total_same : (order : Option ByteOrder) (b c : List ℕ) → Agree 12 b c → total order b ≡ total order c
total_same None b c h = refl
total_same (Some order) b c h = ap (λ n. if is_total n then n else 12) (same_number 12 order b c 4 (omega arith) h)

-- a block of which 12 bytes are there
block_long : (order : ByteOrder) (b : List ℕ) → 12 ≤ length b → block_length order b ≡ total (block_order order b) b
block_long order b long = (let t : nat_lt (length b) 12 ≡ false = grind (arith, nat_tests) in ap (λ t. if t then 12 else total (block_order order b) b) t)

block_short : (order : ByteOrder) (b : List ℕ) → length b < 12 → block_length order b ≡ 12
block_short order b short = (let t : nat_lt (length b) 12 ≡ true = grind (arith, nat_tests) in ap (λ t. if t then 12 else total (block_order order b) b) t)

block_same : (order : ByteOrder) (b c : List ℕ) → 12 ≤ length b → 12 ≤ length c → Agree 12 b c → block_length order b ≡ block_length order c
block_same order b c long longer h =
    block_long order b long ∙ ap (λ m. total m b) (order_same order b c h) ∙ total_same (block_order order c) b c h ∙ sym (block_long order c longer)

least_total : (order : Option ByteOrder) (b : List ℕ) → 12 ≤ total order b
least_total None b = omega arith
least_total (Some order) b = of_number (number_at order b 4)
  where
    of_number : (n : ℕ) → 12 ≤ (if is_total n then n else 12)
    of_number n = grind (arith, nat_tests)

least_block : (order : ByteOrder) (b : List ℕ) → 12 ≤ block_length order b
least_block order b =
    elim (le_or 12 (length b)) [
      | inl long ↦ (let e = block_long order b long in let h = least_total (block_order order b) b in omega (arith, e, h))
      | inr short ↦ (let e = block_short order b short in omega (arith, e))
    ]

block_steady : (order : ByteOrder) (b x : List ℕ) → 12 ≤ length b → block_length order (b ++ x) ≡ block_length order b
block_steady order b x long = block_same order (b ++ x) b (let sum = length-append b x in omega (arith, sum, long)) long (more 12 b x long)

block_grows : (order : ByteOrder) (b x : List ℕ) → block_length order b ≤ block_length order (b ++ x)
block_grows order b x =
    elim (le_or 12 (length b)) [
      | inl long ↦ (let e = block_steady order b x long in omega (arith, e))
      | inr short ↦ (let e = block_short order b short in let h = least_block order (b ++ x) in omega (arith, e, h))
    ]

pub text_same : (b c : List ℕ) → Agree 4 b c → is_text b ≡ is_text c
text_same b c h =
    let test : ℕ → ℕ → ℕ → ℕ → Bool = λ w x y z. is_some (digit w) && is_some (digit x) && is_some (digit y) && is_some (digit z) in
    ap (λ w. test w (slice_index b 1) (slice_index b 2) (slice_index b 3)) (h 0 (omega arith))
    ∙ ap (λ x. test (slice_index c 0) x (slice_index b 2) (slice_index b 3)) (h 1 (omega arith))
    ∙ ap (λ y. test (slice_index c 0) (slice_index c 1) y (slice_index b 3)) (h 2 (omega arith))
    ∙ ap (test (slice_index c 0) (slice_index c 1) (slice_index c 2)) (h 3 (omega arith))

-- the first part of a file, by what its first four bytes tell
abbrev pub first_by : Option Writer → Bool → Bool → List ℕ → ℕ
first_by (Some writer) section text b = 24
first_by None section text b = if section then block_length Little b else if text then line_length b else 4

first_is : (writer : Option Writer) (b : List ℕ) → first_length writer b ≡ first_by writer (is_section b) (is_text b) b
first_is (Some writer) b = refl
first_is None b = refl

pub start_long : (b : List ℕ) → 4 ≤ length b → whole Start b ≡ first_by (writer_of b) (is_section b) (is_text b) b
start_long b long = (let t : nat_lt (length b) 4 ≡ false = grind (arith, nat_tests) in ap (λ t. if t then 4 else first_length (writer_of b) b) t ∙ first_is (writer_of b) b)

start_short : (b : List ℕ) → length b < 4 → whole Start b ≡ 4
start_short b short = (let t : nat_lt (length b) 4 ≡ true = grind (arith, nat_tests) in ap (λ t. if t then 4 else first_length (writer_of b) b) t)

-- the same of bytes that agree with these
start_same : (b c : List ℕ) → 4 ≤ length c → Agree 4 c b → whole Start c ≡ first_by (writer_of b) (is_section b) (is_text b) c
start_same b c long h =
    start_long c long
    ∙ ap (λ m. first_by m (is_section c) (is_text c) c) (writer_same c b h)
    ∙ ap (λ t. first_by (writer_of b) t (is_text c) c) (section_same c b h)
    ∙ ap (λ t. first_by (writer_of b) (is_section b) t c) (text_same c b h)

least_first : (writer : Option Writer) (section text : Bool) (b : List ℕ) → is_text b ≡ text → 4 ≤ first_by writer section text b
least_first (Some writer) section text b e = omega arith
least_first None true text b e = (let h = least_block Little b in omega (arith, h))
least_first None false true b e = least_line b e
least_first None false false b e = omega arith

least_start : (b : List ℕ) → 4 ≤ whole Start b
least_start b =
    elim (le_or 4 (length b)) [
      | inl long ↦ (let e = start_long b long in let h = least_first (writer_of b) (is_section b) (is_text b) b refl in omega (arith, e, h))
      | inr short ↦ (let e = start_short b short in omega (arith, e))
    ]

first_grows : (writer : Option Writer) (section text : Bool) (b x : List ℕ) → first_by writer section text b ≤ first_by writer section text (b ++ x)
first_grows (Some writer) section text b x = omega arith
first_grows None true text b x = block_grows Little b x
first_grows None false true b x = line_grows b x
first_grows None false false b x = omega arith

first_steady : (writer : Option Writer) (section text : Bool) (b x : List ℕ) → first_by writer section text b ≤ length b → first_by writer section text (b ++ x) ≡ first_by writer section text b
first_steady (Some writer) section text b x h = refl
first_steady None true text b x h = block_steady Little b x (let least = least_block Little b in omega (arith, least, h))
first_steady None false true b x h = line_steady b x h
first_steady None false false b x h = refl

first_held : (writer : Option Writer) (section text : Bool) (b : List ℕ) → 12 ≤ length (take 65627 b) → 12 ≤ length b → first_by writer section text (take 65627 b) ≡ first_by writer section text b
first_held (Some writer) section text b long longer = refl
first_held None true text b long longer = block_same Little (take 65627 b) b long longer (front 12 65627 b (omega arith))
first_held None false true b long longer = line_held b
first_held None false false b long longer = refl

-- a record of which 16 bytes are there
record_long : (form : Form) (b : List ℕ) → 16 ≤ length b → whole (Records form) b ≡ record_length form.writer.order b
record_long form b long = (let t : nat_lt (length b) 16 ≡ false = grind (arith, nat_tests) in ap (λ t. if t then 16 else record_length form.writer.order b) t)

record_short : (form : Form) (b : List ℕ) → length b < 16 → whole (Records form) b ≡ 16
record_short form b short = (let t : nat_lt (length b) 16 ≡ true = grind (arith, nat_tests) in ap (λ t. if t then 16 else record_length form.writer.order b) t)

pub least_record : (form : Form) (b : List ℕ) → 16 ≤ whole (Records form) b
least_record form b =
    elim (le_or 16 (length b)) [
      | inl long ↦ (let e = record_long form b long in omega (arith, e))
      | inr short ↦ (let e = record_short form b short in omega (arith, e))
    ]

record_same : (form : Form) (b c : List ℕ) → 16 ≤ length b → 16 ≤ length c → Agree 16 b c → whole (Records form) b ≡ whole (Records form) c
record_same form b c long longer h =
    record_long form b long ∙ ap (λ n. 16 + n) (same_number 16 form.writer.order b c 8 (omega arith) h) ∙ sym (record_long form c longer)

record_steady : (form : Form) (b x : List ℕ) → 16 ≤ length b → whole (Records form) (b ++ x) ≡ whole (Records form) b
record_steady form b x long = record_same form (b ++ x) b (let sum = length-append b x in omega (arith, sum, long)) long (more 16 b x long)

-- a part has some bytes
pub some_bytes : (stage : Stage) (b : List ℕ) → 0 < whole stage b
some_bytes Start b = (let h = least_start b in omega (arith, h))
some_bytes (Records form) b = (let h = least_record form b in omega (arith, h))
some_bytes (Blocks order) b = (let h = least_block order b in omega (arith, h))
some_bytes Lines b = omega arith

-- as more bytes come they tell no fewer
pub whole_grows : (stage : Stage) (b x : List ℕ) → whole stage b ≤ whole stage (b ++ x)
whole_grows Start b x =
    elim (le_or 4 (length b)) [
      | inl long ↦
          (let e = start_long b long in
          let f = start_same b (b ++ x) (let sum = length-append b x in omega (arith, sum, long)) (more 4 b x long) in
          let h = first_grows (writer_of b) (is_section b) (is_text b) b x in
          omega (arith, e, f, h))
      | inr short ↦ (let e = start_short b short in let h = least_start (b ++ x) in omega (arith, e, h))
    ]
whole_grows (Records form) b x =
    elim (le_or 16 (length b)) [
      | inl long ↦ (let e = record_steady form b x long in omega (arith, e))
      | inr short ↦ (let e = record_short form b short in let h = least_record form (b ++ x) in omega (arith, e, h))
    ]
whole_grows (Blocks order) b x = block_grows order b x
whole_grows Lines b x = line_grows b x

-- a whole part tells its length, whatever follows
pub whole_steady : (stage : Stage) (b x : List ℕ) → whole stage b ≤ length b → whole stage (b ++ x) ≡ whole stage b
whole_steady Start b x h =
    let least = least_start b in
    let long : 4 ≤ length b = omega (arith, least, h) in
    let e = start_long b long in
    start_same b (b ++ x) (let sum = length-append b x in omega (arith, sum, long)) (more 4 b x long)
    ∙ first_steady (writer_of b) (is_section b) (is_text b) b x (omega (arith, e, h)) ∙ sym e
whole_steady (Records form) b x h = record_steady form b x (let least = least_record form b in omega (arith, least, h))
whole_steady (Blocks order) b x h = block_steady order b x (let least = least_block order b in omega (arith, least, h))
whole_steady Lines b x h = line_steady b x h

-- what is held of a part tells as much
held_same : (stage : Stage) (b : List ℕ) → 16 ≤ length (take 65627 b) → 16 ≤ length b → whole stage (take 65627 b) ≡ whole stage b
held_same Start b long longer =
    start_same b (take 65627 b) (omega (arith, long)) (front 4 65627 b (omega arith))
    ∙ first_held (writer_of b) (is_section b) (is_text b) b (omega (arith, long)) (omega (arith, longer))
    ∙ sym (start_long b (omega (arith, longer)))
held_same (Records form) b long longer = record_same form (take 65627 b) b long longer (front 16 65627 b (omega arith))
held_same (Blocks order) b long longer = block_same order (take 65627 b) b (omega (arith, long)) (omega (arith, longer)) (front 12 65627 b (omega arith))
held_same Lines b long longer = line_held b

pub whole_held : (stage : Stage) (b : List ℕ) → whole stage (take 65627 b) ≡ whole stage b
whole_held stage b =
    elim (le_or (length b) 65627) [
      | inl all ↦ ap (whole stage) (take_all 65627 b all)
      | inr some ↦ held_same stage b (let n = length-take-le 65627 b (omega (arith, some)) in omega (arith, n)) (omega (arith, some))
    ]

-- a piece that has a whole part begins with it
pub whole_front : (stage : Stage) (b : List ℕ) (n : ℕ) → n ≡ whole stage b → n ≤ length b → n ≡ whole stage (take n b)
whole_front stage b n is within =
    let long = length-take-le n b within in
    let same : whole stage (take n b ++ drop n b) ≡ whole stage b = ap (whole stage) (take-append-drop n b) in
    let grows = whole_grows stage (take n b) (drop n b) in
    let steady = whole_steady stage (take n b) (drop n b) (omega (arith, grows, same, is, long)) in
    omega (arith, steady, same, is)
