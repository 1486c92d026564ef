-- Roles and media (document 01, "Choice": "Wired, wireless, BLE is the speed order; unknown has none"; the tiers are
-- the Rust's `tier`, the numbers the order in which the Rust declares them).
use Rattle.std.specs.Prelude.{ℕ, ◌%◌, Bool, cond, ◌&&◌, eqb, ltb}
use Rattle.select.specs.declared.types.Role.{Role}
use Rattle.select.specs.declared.types.Role.TheVariants as role
use Rattle.select.specs.declared.types.Medium.{Medium}
use Rattle.select.specs.declared.types.Medium.TheVariants as medium

-- a normal or preferred transport above a backup one, and one that is never to carry paths below both
abbrev pub tier_of : Role → ℕ
tier_of role.Never = 0
tier_of role.Backup = 1
tier_of role.Normal = 2
tier_of role.Preferred = 2

-- wired, wireless, BLE is the speed order; 3 stands for unknown, which has none
abbrev pub speed_of : Medium → ℕ
speed_of medium.Wired = 0
speed_of medium.Wireless = 1
speed_of medium.Ble = 2
speed_of medium.Unknown = 3

-- a is a quicker medium than b, both known
abbrev pub quicker_of : Medium → Medium → Bool
quicker_of a b = ltb (speed_of b) 3 && ltb (speed_of a) (speed_of b)

-- the number of a medium
abbrev pub medium_bits : Medium → ℕ
medium_bits medium.Ble = 0
medium_bits medium.Wired = 1
medium_bits medium.Wireless = 2
medium_bits medium.Unknown = 3

-- a medium and a role by their numbers, modulo 4
abbrev pub medium_of : ℕ → Medium
medium_of x =
    cond (eqb (x % 4) 0) medium.Ble (cond (eqb (x % 4) 1) medium.Wired
    (cond (eqb (x % 4) 2) medium.Wireless medium.Unknown))

abbrev pub role_of : ℕ → Role
role_of x = cond (eqb (x % 4) 0) role.Never (cond (eqb (x % 4) 1) role.Backup
    (cond (eqb (x % 4) 2) role.Normal role.Preferred))
