-- The check bits of a PID.
use Rattle.std.proofs.Common.{◌≡◌, ℕ, ◌<◌, ◌==◌, [], ◌∷◌, Bool, true, false, refl, ap, sym, ◌∙◌}
use Rattle.std.specs.Prelude.{if◌then◌else◌, Result, Ok, Err}
use Rattle.std.proofs.lemmas.Bool.{agree_below, agree_below_at, eq-eqb}
use Rattle.usb_wire.specs.declared.pid.TokenKind.TheVariants as tokens
use Rattle.usb_wire.specs.declared.pid.DataKind.TheVariants as datas
use Rattle.usb_wire.specs.declared.pid.Handshake.TheVariants as handshakes
use Rattle.usb_wire.specs.declared.pid.Pid.{Pid}
use Rattle.usb_wire.specs.declared.pid.Pid.TheVariants as pids
use Rattle.usb_wire.specs.declared.damage.Damage.{Damage}
use Rattle.usb_wire.specs.declared.damage.Damage.TheVariants as damages
use Rattle.usb_wire.specs.Packets.{pid_byte}
use Rattle.usb_wire.specs.Damages.{pid_read}
use Rattle.usb_wire.specs.Changes.{changed}

pub read_back : (p : Pid) → pid_read (pid_byte p) ≡ Ok p
read_back (pids.Token tokens.Out) = refl
read_back (pids.Token tokens.In) = refl
read_back (pids.Token tokens.Setup) = refl
read_back (pids.Token tokens.Ping) = refl
read_back pids.StartOfFrame = refl
read_back (pids.Data datas.Data0) = refl
read_back (pids.Data datas.Data1) = refl
read_back (pids.Data datas.Data2) = refl
read_back (pids.Data datas.MData) = refl
read_back (pids.Handshake handshakes.Ack) = refl
read_back (pids.Handshake handshakes.Nak) = refl
read_back (pids.Handshake handshakes.Stall) = refl
read_back (pids.Handshake handshakes.Nyet) = refl
read_back pids.Split = refl
read_back pids.Pre = refl

abbrev is_unchecked : Result Pid Damage → Bool
is_unchecked (Err damages.Pid) = true
is_unchecked other = false

unchecked : (r : Result Pid Damage) → is_unchecked r ≡ true → r ≡ Err damages.Pid
unchecked (Ok p) h = cc
unchecked (Err damages.Empty) h = cc
unchecked (Err damages.Pid) h = refl
unchecked (Err damages.Reserved) h = cc
unchecked (Err damages.Length) h = cc
unchecked (Err damages.Crc5) h = cc
unchecked (Err damages.Crc16) h = cc

-- where one bit of a PID is changed, its check bits don't fit
abbrev alone : Pid → ℕ → Bool
alone p b = if changed (pid_byte p ∷ []) (b ∷ []) == 1 then is_unchecked (pid_read b) else true

abbrev always : ℕ → Bool
always b = true

all_alone : (p : Pid) → agree_below (alone p) always 256 ≡ true
all_alone (pids.Token tokens.Out) = refl
all_alone (pids.Token tokens.In) = refl
all_alone (pids.Token tokens.Setup) = refl
all_alone (pids.Token tokens.Ping) = refl
all_alone pids.StartOfFrame = refl
all_alone (pids.Data datas.Data0) = refl
all_alone (pids.Data datas.Data1) = refl
all_alone (pids.Data datas.Data2) = refl
all_alone (pids.Data datas.MData) = refl
all_alone (pids.Handshake handshakes.Ack) = refl
all_alone (pids.Handshake handshakes.Nak) = refl
all_alone (pids.Handshake handshakes.Stall) = refl
all_alone (pids.Handshake handshakes.Nyet) = refl
all_alone pids.Split = refl
all_alone pids.Pre = refl

pub one_flip : (p : Pid) (b : ℕ) → b < 256 → changed (pid_byte p ∷ []) (b ∷ []) ≡ 1 → pid_read b ≡ Err damages.Pid
one_flip p b small one =
    let at : alone p b ≡ true = agree_below_at (alone p) always 256 b (all_alone p) small in
    let test : (changed (pid_byte p ∷ []) (b ∷ []) == 1) ≡ true = eq-eqb _ _ one in
    unchecked (pid_read b) (sym (ap (λ t. if t then is_unchecked (pid_read b) else true) test) ∙ at)
