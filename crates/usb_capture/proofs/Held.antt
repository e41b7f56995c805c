-- What a part says of which only the first bytes are held.
use Rattle.std.proofs.Common.{◌≡◌, ℕ, ◌+◌, ◌*◌, ◌-◌, ◌%◌, ◌<◌, ◌≤◌, List, [], ◌∷◌, length, take, drop, min, Bool, true, false, nat_lt, nat_eq, inl, inr, refl, sym, ◌∙◌, ap, arith}
use Rattle.std.proofs.lemmas.List.{drop-take, take_all, take-take}
use Rattle.std.proofs.lemmas.Bool.Decides.{nat_tests}
use Rattle.std.specs.Prelude.{Option, Some, None, Result, Ok, Err, slice_get, if◌then◌else◌}
use Rattle.usb_capture.specs.declared.content.Content.{Content}
use Rattle.usb_capture.specs.declared.content.Content.TheVariants as says
use Rattle.usb_capture.specs.declared.content.Head.{Head}
use Rattle.usb_capture.specs.declared.content.Layout.{Layout}
use Rattle.usb_capture.specs.declared.content.Layout.TheVariants as layouts
use Rattle.usb_capture.specs.declared.fault.CaptureFault.{CaptureFault}
use Rattle.usb_capture.specs.declared.fault.CaptureFault.TheVariants as faults
use Rattle.usb_capture.specs.declared.frame.Frame.{Frame}
use Rattle.usb_capture.specs.declared.interface.Interface.{Interface}
use Rattle.usb_capture.specs.declared.order.ByteOrder.{ByteOrder}
use Rattle.usb_capture.specs.declared.order.ByteOrder.TheVariants.{Little}
use Rattle.usb_capture.specs.declared.pcap.Form.{Form}
use Rattle.usb_capture.specs.declared.pcap.Writer.{Writer}
use Rattle.usb_capture.specs.declared.stage.Stage.{Stage}
use Rattle.usb_capture.specs.declared.stage.Stage.TheVariants.{Start, Records, Blocks, Lines}
use Rattle.usb_capture.specs.Clocks.{clock_of, time_of}
use Rattle.usb_capture.specs.Files.{content, data_start, first_content, frame_list, frame_with, record_head, whole}
use Rattle.usb_capture.specs.Numbers.{number_at, short_at}
use Rattle.usb_capture.specs.Pcap.{unit, writer_of}
use Rattle.usb_capture.specs.Pcapng.{block_content, block_order, interface_content, interface_with, is_section, is_total, ordered_content, packet_content, section_content, simple_content, typed_content}
use Rattle.usb_capture.specs.UsbmonText.{is_text, line_content}
use Rattle.usb_capture.proofs.Numbers.{Agree, fewer, front, le_or, same_number, same_short}
use Rattle.usb_capture.proofs.Whole.{first_by, order_same, section_same, start_long, text_same, writer_same}

section_alike : (order : ByteOrder) (b c : List ℕ) (n : ℕ) → Agree 32 b c → section_content order b n ≡ section_content order c n
section_alike order b c n h =
    ap (λ v. if nat_lt n 28 then Err faults.Length else if nat_eq v 1 then Ok (says.Section order) else Err faults.Version) (same_short 32 order b c 12 (omega arith) h)

-- a description that isn't held whole is too long
interface_alike : (order : ByteOrder) (interfaces : List Interface) (b c : List ℕ) (n : ℕ) → 65627 < n → interface_content order interfaces b n ≡ interface_content order interfaces c n
interface_alike order interfaces b c n long =
    too_long b ∙ sym (too_long c)
  where
    too_long : (b : List ℕ) → interface_content order interfaces b n ≡ (if nat_lt n 20 then Err faults.Length else Err faults.Long)
    too_long b =
        (let t : nat_lt 65627 n ≡ true = grind (arith, nat_tests) in
        ap (λ t. if nat_lt n 20 then Err faults.Length else if t then Err faults.Long else if nat_lt (length interfaces) 65536 then interface_with order b (clock_of order (take (n - 20) (drop 16 b))) else Err faults.Interfaces) t)

packet_alike : (order : ByteOrder) (interface : Option Interface) (b c : List ℕ) (n : ℕ) → Agree 32 b c → packet_content order interface b n ≡ packet_content order interface c n
packet_alike order None b c n h = refl
packet_alike order (Some interface) b c n h =
    let e12 = same_number 32 order b c 12 (omega arith) h in
    let e16 = same_number 32 order b c 16 (omega arith) h in
    let e20 = same_number 32 order b c 20 (omega arith) h in
    let e24 = same_number 32 order b c 24 (omega arith) h in
    let made : ℕ → ℕ → ℕ → ℕ → Result Content CaptureFault = λ high low captured original.
    if nat_lt n (32 + captured) then Err faults.Data
    else Ok (says.Packet (record {
      time = time_of interface.clock (4294967296 * high + low);
      link = interface.link;
      order = order;
      captured = captured;
      original = original;
      layout = layouts.Enhanced;
    })) in
    ap (λ k. made k (number_at order b 16) (number_at order b 20) (number_at order b 24)) e12
    ∙ ap (λ k. made (number_at order c 12) k (number_at order b 20) (number_at order b 24)) e16
    ∙ ap (λ k. made (number_at order c 12) (number_at order c 16) k (number_at order b 24)) e20
    ∙ ap (made (number_at order c 12) (number_at order c 16) (number_at order c 20)) e24

simple_alike : (order : ByteOrder) (interface : Option Interface) (b c : List ℕ) (n : ℕ) → Agree 32 b c → simple_content order interface b n ≡ simple_content order interface c n
simple_alike order None b c n h = refl
simple_alike order (Some interface) b c n h =
    ap (λ k. simple_by k) (same_number 32 order b c 8 (omega arith) h)
  where
    simple_by : ℕ → Result Content CaptureFault
    simple_by original =
        let captured = if nat_eq interface.most 0 then original else min original interface.most in
        if nat_lt n (16 + captured) then Err faults.Data
        else Ok (says.Packet (record {
          time = None;
          link = interface.link;
          order = order;
          captured = captured;
          original = original;
          layout = layouts.Simple;
        }))

typed_alike : (order : ByteOrder) (interfaces : List Interface) (b c : List ℕ) (n : ℕ) → 65627 < n → Agree 32 b c → typed_content order interfaces b n ≡ typed_content order interfaces c n
typed_alike order interfaces b c n long h =
    let type = same_number 32 order b c 0 (omega arith) h in
    let number = same_number 32 order b c 8 (omega arith) h in
    let short = same_short 32 order b c 8 (omega arith) h in
    let e0 = section_alike order b c n h in
    let e1 = interface_alike order interfaces b c n long in
    let e3 = simple_alike order (slice_get interfaces 0) b c n h in
    let e6 = packet_alike order (slice_get interfaces (number_at order b 8)) b c n h ∙ ap (λ k. packet_content order (slice_get interfaces k) c n) number in
    let e2 = packet_alike order (slice_get interfaces (short_at order b 8)) b c n h ∙ ap (λ k. packet_content order (slice_get interfaces k) c n) short in
    let by : ℕ → Result Content CaptureFault → Result Content CaptureFault → Result Content CaptureFault → Result Content CaptureFault → Result Content CaptureFault → Result Content CaptureFault = λ t s i p e o.
    if nat_eq t 0x0a0d0d0a then s
    else if nat_eq t 1 then i
    else if nat_eq t 3 then (if nat_lt n 16 then Err faults.Length else p)
    else if nat_eq t 6 then (if nat_lt n 32 then Err faults.Length else e)
    else if nat_eq t 2 then (if nat_lt n 32 then Err faults.Length else o)
    else Ok says.Other in
    let s = section_content order in
    let i = interface_content order interfaces in
    let p = simple_content order (slice_get interfaces 0) in
    let e = packet_content order (slice_get interfaces (number_at order c 8)) in
    let o = packet_content order (slice_get interfaces (short_at order c 8)) in
    ap (λ t. by t (s b n) (i b n) (p b n) (packet_content order (slice_get interfaces (number_at order b 8)) b n) (packet_content order (slice_get interfaces (short_at order b 8)) b n)) type
    ∙ ap (λ x. by (number_at order c 0) x (i b n) (p b n) (packet_content order (slice_get interfaces (number_at order b 8)) b n) (packet_content order (slice_get interfaces (short_at order b 8)) b n)) e0
    ∙ ap (λ x. by (number_at order c 0) (s c n) x (p b n) (packet_content order (slice_get interfaces (number_at order b 8)) b n) (packet_content order (slice_get interfaces (short_at order b 8)) b n)) e1
    ∙ ap (λ x. by (number_at order c 0) (s c n) (i c n) x (packet_content order (slice_get interfaces (number_at order b 8)) b n) (packet_content order (slice_get interfaces (short_at order b 8)) b n)) e3
    ∙ ap (λ x. by (number_at order c 0) (s c n) (i c n) (p c n) x (packet_content order (slice_get interfaces (short_at order b 8)) b n)) e6
    ∙ ap (λ x. by (number_at order c 0) (s c n) (i c n) (p c n) (e c n) x) e2

ordered_alike : (order : Option ByteOrder) (interfaces : List Interface) (b c : List ℕ) (n : ℕ) (last : List ℕ) → 65627 < n → Agree 32 b c → ordered_content order interfaces b n last ≡ ordered_content order interfaces c n last
ordered_alike None interfaces b c n last long h = refl
ordered_alike (Some order) interfaces b c n last long h =
    ap (λ k. if is_total k then (if nat_eq (number_at order last 0) n then typed_content order interfaces b n else Err faults.Trailer) else Err faults.Length) (same_number 32 order b c 4 (omega arith) h)
    ∙ ap (λ r. if is_total (number_at order c 4) then (if nat_eq (number_at order last 0) n then r else Err faults.Trailer) else Err faults.Length) (typed_alike order interfaces b c n long h)

block_alike : (order : ByteOrder) (interfaces : List Interface) (b c : List ℕ) (n : ℕ) (last : List ℕ) → 65627 < n → Agree 32 b c → block_content order interfaces b n last ≡ block_content order interfaces c n last
block_alike order interfaces b c n last long h =
    ap (λ m. ordered_content m interfaces b n last) (order_same order b c (fewer 12 32 b c (omega arith) h)) ∙ ordered_alike (block_order order c) interfaces b c n last long h

-- a line is held whole
lines_alike : (section text : Bool) (b c : List ℕ) (n : ℕ) (r : Result Content CaptureFault) → 65627 < n → n ≤ first_by None section text c
    → (if section then r else if text then line_content b else Err faults.Magic) ≡ (if section then r else if text then line_content c else Err faults.Magic)
lines_alike true text b c n r long few = refl
lines_alike false true b c n r long few = absurd (omega (arith, long, few))
lines_alike false false b c n r long few = refl

first_alike : (writer : Option Writer) (b c : List ℕ) (n : ℕ) (last : List ℕ) → 65627 < n → n ≤ first_by writer (is_section c) (is_text c) c → Agree 32 b c → first_content writer b n last ≡ first_content writer c n last
first_alike (Some writer) b c n last long few h = ap (λ k. Ok (says.Header (record { writer = writer; link = k % 65536 }))) (same_number 32 writer.order b c 20 (omega arith) h)
first_alike None b c n last long few h =
    let by : Bool → Bool → Result Content CaptureFault → Result Content CaptureFault = λ section text r. if section then r else if text then line_content b else Err faults.Magic in
    ap (λ t. by t (is_text b) (block_content Little [] b n last)) (section_same b c (fewer 4 32 b c (omega arith) h))
    ∙ ap (λ t. by (is_section c) t (block_content Little [] b n last)) (text_same b c (fewer 4 32 b c (omega arith) h))
    ∙ ap (by (is_section c) (is_text c)) (block_alike Little [] b c n last long h)
    ∙ lines_alike (is_section c) (is_text c) b c n (block_content Little [] c n last) long few

head_alike : (form : Form) (b c : List ℕ) → Agree 32 b c → record_head form b ≡ record_head form c
head_alike form b c h =
    let order = form.writer.order in
    let e0 = same_number 32 order b c 0 (omega arith) h in
    let e4 = same_number 32 order b c 4 (omega arith) h in
    let e8 = same_number 32 order b c 8 (omega arith) h in
    let e12 = same_number 32 order b c 12 (omega arith) h in
    let made : ℕ → ℕ → ℕ → ℕ → Head = λ seconds fraction captured original. record {
      time = Some (seconds * 1000000000 + fraction * unit form.writer.precision);
      link = form.link;
      order = order;
      captured = captured;
      original = original;
      layout = layouts.Record;
    } in
    ap (λ k. made k (number_at order b 4) (number_at order b 8) (number_at order b 12)) e0
    ∙ ap (λ k. made (number_at order c 0) k (number_at order b 8) (number_at order b 12)) e4
    ∙ ap (λ k. made (number_at order c 0) (number_at order c 4) k (number_at order b 12)) e8
    ∙ ap (made (number_at order c 0) (number_at order c 4) (number_at order c 8)) e12

-- a part over what is held is known by its first 32 bytes
alike : (stage : Stage) (interfaces : List Interface) (b c : List ℕ) (last : List ℕ) → 65627 < length c → length c ≤ whole stage c → Agree 32 b c → content stage interfaces b (length c) last ≡ content stage interfaces c (length c) last
alike Start interfaces b c last long few h =
    let e = start_long c (omega (arith, long)) in
    ap (λ w. first_content w b (length c) last) (writer_same b c (fewer 4 32 b c (omega arith) h)) ∙ first_alike (writer_of c) b c (length c) last long (omega (arith, e, few)) h
alike (Records form) interfaces b c last long few h = ap (λ head. Ok (says.Packet head)) (head_alike form b c h)
alike (Blocks order) interfaces b c last long few h = block_alike order interfaces b c (length c) last long h
alike Lines interfaces b c last long few h = absurd (omega (arith, long, few))

-- what is held of a part says what the part says
pub content_held : (stage : Stage) (interfaces : List Interface) (b : List ℕ) (last : List ℕ) → length b ≤ whole stage b → content stage interfaces (take 65627 b) (length b) last ≡ content stage interfaces b (length b) last
content_held stage interfaces b last few =
    elim (le_or (length b) 65627) [
      | inl all ↦ ap (λ h. content stage interfaces h (length b) last) (take_all 65627 b all)
      | inr some ↦ alike stage interfaces (take 65627 b) b last some few (front 32 65627 b (omega arith))
    ]

-- data begin 28 bytes in at most
near : (layout : Layout) → data_start layout ≤ 28
near layouts.Record = omega arith
near layouts.Enhanced = omega arith
near layouts.Simple = omega arith

-- of the first m bytes from n on, where the first n + m and more are there
kept : (m n : ℕ) (b : List ℕ) → n + m ≤ 65627 → take m (drop n (take 65627 b)) ≡ take m (drop n b)
kept m n b h =
    let rest : 65627 ≡ n + (65627 - n) = omega (arith, h) in
    ap (λ k. take m (drop n (take k b))) rest ∙ ap (take m) (drop-take n (65627 - n) b) ∙ take-take m (65627 - n) (drop n b) (omega (arith, h))

frame_held : (head : Head) (b : List ℕ) → frame_with head (take 65627 b) ≡ frame_with head b
frame_held head b =
    let kept_data : take (min head.captured 65599) (drop (data_start head.layout) (take 65627 b)) ≡ take (min head.captured 65599) (drop (data_start head.layout) b) =
    kept (min head.captured 65599) (data_start head.layout) b (let h = near head.layout in omega (arith, h)) in
    ap (λ d. let frame : Frame = record {
      time = head.time;
      link = head.link;
      order = head.order;
      captured = head.captured;
      original = head.original;
      bytes = d;
    } in frame) kept_data

-- and is its frame
pub frames_held : (content : Content) (b : List ℕ) → frame_list content (take 65627 b) ≡ frame_list content b
frames_held (says.Packet head) b = ap (λ frame. frame ∷ []) (frame_held head b)
frames_held (says.Line line) b = refl
frames_held (says.Header form) b = refl
frames_held (says.Section order) b = refl
frames_held (says.Interface interface) b = refl
frames_held says.Other b = refl
