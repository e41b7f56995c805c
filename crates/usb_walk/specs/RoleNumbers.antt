-- Roles as numbers: `enum nzg_role` of nozzlegorse.h.
use Rattle.std.specs.Prelude.{ℕ, ◌==◌, Option, Some, None, if◌then◌else◌}
use Rattle.usb_walk.specs.declared.role.Role.{Role}
use Rattle.usb_walk.specs.declared.role.Role.TheVariants as roles

-- the number of a role
abbrev pub role_number : Role → ℕ
role_number roles.Device = 1
role_number roles.Configuration = 2
role_number roles.Interface = 3
role_number roles.Endpoint = 4
role_number roles.Association = 5
role_number roles.Raw = 6
role_number roles.Qualifier = 7
role_number roles.Languages = 8
role_number roles.Text = 9

-- the role of a number, if it is one
abbrev pub role_in : ℕ → Option Role
role_in number =
    if number == 1 then Some roles.Device
    else if number == 2 then Some roles.Configuration
    else if number == 3 then Some roles.Interface
    else if number == 4 then Some roles.Endpoint
    else if number == 5 then Some roles.Association
    else if number == 6 then Some roles.Raw
    else if number == 7 then Some roles.Qualifier
    else if number == 8 then Some roles.Languages
    else if number == 9 then Some roles.Text
    else None
