-- Why bytes are no packet: the first of these that holds (USB 2.0, 8.3.1, 8.3.5 and 8.4).
use Rattle.std.specs.Prelude.{ℕ, ◌-◌, ◌/◌, ◌%◌, ◌==◌, ◌&&◌, nat_le, if◌then◌else◌, List, [], ◌∷◌, length, Option, Some, None, Result, Ok, Err}
use Rattle.usb_wire.specs.declared.damage.Damage.{Damage}
use Rattle.usb_wire.specs.declared.damage.Damage.TheVariants as damages
use Rattle.usb_wire.specs.declared.pid.TokenKind.TheVariants as tokens
use Rattle.usb_wire.specs.declared.pid.DataKind.TheVariants as datas
use Rattle.usb_wire.specs.declared.pid.Handshake.TheVariants as handshakes
use Rattle.usb_wire.specs.declared.pid.Pid.{Pid}
use Rattle.usb_wire.specs.declared.pid.Pid.TheVariants as pids
use Rattle.usb_wire.specs.Crc.{bits, token_register, data_register, token_residual, data_residual}

-- the PID with these four bits (table 8-1)
abbrev pub pid_numbered : ℕ → Result Pid Damage
pid_numbered n =
    if n == 1 then Ok (pids.Token tokens.Out)
    else if n == 2 then Ok (pids.Handshake handshakes.Ack)
    else if n == 3 then Ok (pids.Data datas.Data0)
    else if n == 4 then Ok (pids.Token tokens.Ping)
    else if n == 5 then Ok pids.StartOfFrame
    else if n == 6 then Ok (pids.Handshake handshakes.Nyet)
    else if n == 7 then Ok (pids.Data datas.Data2)
    else if n == 8 then Ok pids.Split
    else if n == 9 then Ok (pids.Token tokens.In)
    else if n == 10 then Ok (pids.Handshake handshakes.Nak)
    else if n == 11 then Ok (pids.Data datas.Data1)
    else if n == 12 then Ok pids.Pre
    else if n == 13 then Ok (pids.Token tokens.Setup)
    else if n == 14 then Ok (pids.Handshake handshakes.Stall)
    else if n == 15 then Ok (pids.Data datas.MData)
    else Err damages.Reserved

-- the PID that a byte is: its upper four bits must be the complement of the lower ones (8.3.1)
abbrev pub pid_read : ℕ → Result Pid Damage
pid_read b = if b / 16 == 15 - b % 16 then pid_numbered (b % 16) else Err damages.Pid

-- What follows a PID.

-- n bytes that end in a 5-bit CRC
abbrev pub token_damage : ℕ → List ℕ → Option Damage
token_damage n b =
    if length b == n then (if token_register (bits b) == token_residual then None else Some damages.Crc5)
    else Some damages.Length

-- at most 1,024 bytes and their 16-bit CRC
abbrev pub data_damage : List ℕ → Option Damage
data_damage b =
    if nat_le 2 (length b) && nat_le (length b) 1026
    then (if data_register (bits b) == data_residual then None else Some damages.Crc16)
    else Some damages.Length

-- nothing
abbrev pub bare_damage : List ℕ → Option Damage
bare_damage b = if length b == 0 then None else Some damages.Length

-- by its PID
abbrev pub body_damage : Pid → List ℕ → Option Damage
body_damage (pids.Token kind) b = token_damage 2 b
body_damage pids.StartOfFrame b = token_damage 2 b
body_damage (pids.Data kind) b = data_damage b
body_damage (pids.Handshake kind) b = bare_damage b
body_damage pids.Split b = token_damage 3 b
body_damage pids.Pre b = bare_damage b

abbrev pub damage_after : Result Pid Damage → List ℕ → Option Damage
damage_after (Ok pid) b = body_damage pid b
damage_after (Err damage) b = Some damage

-- what is wrong with bytes that were received, if anything is
abbrev pub damage_of : List ℕ → Option Damage
damage_of [] = Some damages.Empty
damage_of (head ∷ b) = damage_after (pid_read head) b
