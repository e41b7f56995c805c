-- A packet that was written is read as itself, and is found out where it is damaged in few bits.
use Rattle.std.proofs.Common.{◌≡◌, ℕ, ◌+◌, ◌-◌, ◌*◌, ◌/◌, ◌%◌, ◌<◌, ◌≤◌, ◌==◌, ◌⊎◌, ◌&&◌, leb, inl, inr, List, [], ◌∷◌, ◌++◌, length, refl, ap, sym, ◌∙◌, arith, subst, cond, Option, Some, None, length-append}
use Rattle.std.specs.Prelude.{IsSome, Result, Ok}
use Rattle.std.proofs.lemmas.Bool.Decides.{nat_tests}
use Rattle.std.proofs.Math.Nat.{add-mul-mod_self_left}
use Rattle.usb_wire.specs.declared.damage.Damage.{Damage}
use Rattle.usb_wire.specs.declared.damage.Damage.TheVariants as damages
use Rattle.usb_wire.specs.declared.pid.Pid.{Pid}
use Rattle.usb_wire.specs.Crc.{low_bits, bits, data_register, token_register}
use Rattle.usb_wire.specs.Packets.{PacketView, TokenPacket, FramePacket, DataPacket, HandshakePacket, SplitPacket, PrePacket, AreBytes, IsLegal, two_bytes, three_bytes, token_field, split_field, data_field, pid_byte, pid_of, address_bits, body_of, packet_bytes}
use Rattle.usb_wire.specs.Changes.{changed, IsBodyFound, IsBurst, IsSlightlyDamaged}
use Rattle.usb_wire.specs.Damages.{pid_read, data_damage, body_damage, damage_after, damage_of}
use Rattle.usb_wire.proofs.Fields.{token_field_is, split_field_is, data_field_is, mod_small}
use Rattle.usb_wire.proofs.Pids.{read_back, one_flip}
use Rattle.usb_wire.proofs.Found.{burst_data, few_data, few_token}

pub is_some : (o : Option Damage) (d : Damage) → o ≡ Some d → IsSome o
is_some o d e = subst (λ o. IsSome o) (sym e) refl

pub length_data : (b : List ℕ) → length (data_field b) ≡ length b + 2
length_data b = length-append b (two_bytes (65535 - data_register (bits b)))

data_taken : (b : List ℕ) → length b ≤ 1024 → data_damage (data_field b) ≡ None
data_taken b few =
    ap (λ r. tested (length (data_field b)) r) (data_field_is b)
    ∙ fits (length (data_field b)) (omega (arith, length_data b)) (omega (arith, few, length_data b))
  where
    tested : ℕ → ℕ → Option Damage
    tested n r = cond (leb 2 n && leb n 1026) (cond (r == 45057) None (Some damages.Crc16)) (Some damages.Length)

    fits : (n : ℕ) → 2 ≤ n → n ≤ 1026 → cond (leb 2 n && leb n 1026) None (Some damages.Length) ≡ None
    fits n least most = grind (arith, nat_tests)

-- the body of a packet is not damaged
body_taken : (p : PacketView) → IsLegal p → body_damage (pid_of p) (body_of p) ≡ None
body_taken (TokenPacket kind to) legal =
    let small : address_bits to < 2048 = omega (arith, legal.0, legal.1) in
    ap (λ r. cond (r == 6) None (Some damages.Crc5)) (token_field_is (address_bits to) small)
body_taken (FramePacket number) legal = ap (λ r. cond (r == 6) None (Some damages.Crc5)) (token_field_is number legal)
body_taken (DataPacket kind bytes) legal = data_taken bytes legal.1
body_taken (HandshakePacket kind) legal = refl
body_taken (SplitPacket fields) legal = ap (λ r. cond (r == 6) None (Some damages.Crc5)) (split_field_is fields legal)
body_taken PrePacket legal = refl

pub packet_taken : (p : PacketView) → IsLegal p → damage_of (packet_bytes p) ≡ None
packet_taken p legal = ap (λ o. damage_after o (body_of p)) (read_back (pid_of p)) ∙ body_taken p legal

-- ---- no two packets have the same bytes

abbrev the_pid : Pid → Result Pid Damage
the_pid p = Ok p

same_pid : (p q : Pid) → pid_byte p ≡ pid_byte q → p ≡ q
same_pid p q same = let e : the_pid p ≡ the_pid q = sym (read_back p) ∙ ap pid_read same ∙ read_back q in cc

same_two : (v w : ℕ) → two_bytes v ≡ two_bytes w → v ≡ w
same_two v w same =
    let low : v % 256 ≡ w % 256 = cc in
    let high : v / 256 ≡ w / 256 = cc in
    omega (arith, low, high)

same_three : (v w : ℕ) → three_bytes v ≡ three_bytes w → v ≡ w
same_three v w same =
    let low : v % 256 ≡ w % 256 = cc in
    let middle : v / 256 % 256 ≡ w / 256 % 256 = cc in
    let high : v / 65536 ≡ w / 65536 = cc in
    omega (arith, low, middle, high)

same_low : (d m n c e : ℕ) → m < d → n < d → m + d * c ≡ n + d * e → m ≡ n
same_low d m n c e small_m small_n same =
    sym (mod_small m d small_m) ∙ sym (add-mul-mod_self_left m d c) ∙ ap (λ x. x % d) same ∙ add-mul-mod_self_left n d e ∙ mod_small n d small_n

same_token : (m n : ℕ) → m < 2048 → n < 2048 → token_field m ≡ token_field n → m ≡ n
same_token m n small_m small_n same =
    same_low 2048 m n (31 - token_register (low_bits 11 m)) (31 - token_register (low_bits 11 n)) small_m small_n (same_two _ _ same)

same_split : (m n : ℕ) → m < 524288 → n < 524288 → split_field m ≡ split_field n → m ≡ n
same_split m n small_m small_n same =
    same_low 524288 m n (31 - token_register (low_bits 19 m)) (31 - token_register (low_bits 19 n)) small_m small_n (same_three _ _ same)

same_front : (a b x y : List ℕ) → length a ≡ length b → a ++ x ≡ b ++ y → a ≡ b
same_front [] [] x y long same = refl
same_front [] (c ∷ b) x y long same = absurd (omega (arith, long))
same_front (c ∷ a) [] x y long same = absurd (omega (arith, long))
same_front (c ∷ a) (d ∷ b) x y long same =
    let head : c ≡ d = cc in
    let tail : a ++ x ≡ b ++ y = cc in
    let rest = same_front a b x y (omega (arith, long)) tail in
    cc

same_data : (a b : List ℕ) → data_field a ≡ data_field b → a ≡ b
same_data a b same =
    same_front a b _ _ (omega (arith, length_data a, length_data b, ap length same)) same

same_body : (p q : PacketView) → IsLegal p → IsLegal q → pid_of p ≡ pid_of q → body_of p ≡ body_of q → p ≡ q
same_body (TokenPacket kind to) (TokenPacket other there) legal also pid body =
    let small : address_bits to < 2048 = omega (arith, legal.0, legal.1) in
    let small_there : address_bits there < 2048 = omega (arith, also.0, also.1) in
    let fields = same_token _ _ small small_there body in
    let address : to.address ≡ there.address = omega (arith, fields, legal.0, also.0) in
    let number : to.endpoint ≡ there.endpoint = omega (arith, fields, legal.0, also.0) in
    let same : to ≡ there = λ i. record { address = address i; endpoint = number i } in
    let kinds : kind ≡ other = cc in
    cc
same_body (FramePacket number) (FramePacket other) legal also pid body = ap FramePacket (same_token number other legal also body)
same_body (DataPacket kind bytes) (DataPacket other more) legal also pid body =
    let same = same_data bytes more body in
    let kinds : kind ≡ other = cc in
    cc
same_body (HandshakePacket kind) (HandshakePacket other) legal also pid body = let kinds : kind ≡ other = cc in cc
same_body (SplitPacket fields) (SplitPacket other) legal also pid body = ap SplitPacket (same_split fields other legal also body)
same_body PrePacket PrePacket legal also pid body = refl
same_body p q legal also pid body = cc

pub same_packet : (p q : PacketView) → IsLegal p → IsLegal q → packet_bytes p ≡ packet_bytes q → p ≡ q
same_packet p q legal also same =
    let heads : pid_byte (pid_of p) ≡ pid_byte (pid_of q) = cc in
    let bodies : body_of p ≡ body_of q = cc in
    same_body p q legal also (same_pid (pid_of p) (pid_of q) heads) bodies

-- ---- slight damage

pub damaged_pid : (pid : Pid) (head : ℕ) (body : List ℕ) → head < 256 → changed (pid_byte pid ∷ []) (head ∷ []) ≡ 1 → damage_of (head ∷ body) ≡ Some damages.Pid
damaged_pid pid head body small one = ap (λ o. damage_after o body) (one_flip pid head small one)

pub with_pid : (pid : Pid) (body : List ℕ) → damage_of (pid_byte pid ∷ body) ≡ body_damage pid body
with_pid pid body = ap (λ o. damage_after o body) (read_back pid)

damaged_body : (p : PacketView) (body : List ℕ) → IsLegal p → length body ≡ length (body_of p) → IsBodyFound p body → IsSome (body_damage (pid_of p) body)
damaged_body (TokenPacket kind to) body legal long found =
    let small : address_bits to < 2048 = omega (arith, legal.0, legal.1) in
    is_some _ _ (few_token 2 (token_field (address_bits to)) body long refl (omega arith) (token_field_is _ small) found.0 found.1)
damaged_body (FramePacket number) body legal long found =
    is_some _ _ (few_token 2 (token_field number) body long refl (omega arith) (token_field_is number legal) found.0 found.1)
damaged_body (DataPacket kind bytes) body legal long (inl few) =
    is_some _ _ (few_data (data_field bytes) body long (omega (arith, length_data bytes)) (omega (arith, legal.1, length_data bytes)) (data_field_is bytes) few.0 few.1)
damaged_body (DataPacket kind bytes) body legal long (inr burst) =
    is_some _ _ (burst_data (data_field bytes) body long (omega (arith, length_data bytes)) (omega (arith, legal.1, length_data bytes)) (data_field_is bytes) burst)
damaged_body (HandshakePacket kind) body legal long found = absurd found
damaged_body (SplitPacket fields) body legal long found =
    is_some _ _ (few_token 3 (split_field fields) body long refl (omega arith) (split_field_is fields legal) found.0 found.1)
damaged_body PrePacket body legal long found = absurd found

pub slight : (p : PacketView) (b : List ℕ) → IsLegal p → AreBytes b → IsSlightlyDamaged p b → IsSome (damage_of b)
slight p [] legal bytes damaged = absurd damaged
slight p (head ∷ body) legal bytes damaged = either damaged.1
  where
    either : ((changed (pid_byte (pid_of p) ∷ []) (head ∷ []) ≡ 1) ⊎ ((head ≡ pid_byte (pid_of p)) × IsBodyFound p body)) → IsSome (damage_of (head ∷ body))
    either (inl one) = is_some _ _ (damaged_pid (pid_of p) head body bytes.0 one)
    either (inr found) =
        subst IsSome (sym (with_pid (pid_of p) body) ∙ ap (λ h. damage_of (h ∷ body)) (sym found.0)) (damaged_body p body legal damaged.0 found.1)
