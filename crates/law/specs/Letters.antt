-- The letters of the eleven calls.
use Rattle.std.specs.Prelude.{ℕ, Bool, cond, ◌==◌}

-- which call a letter names
pub data Letter : Type 0 where
  begins reads writes files closes drops delivers trims restarts versions counts unknown : Letter

-- the byte of a letter; a byte that names no call counts as 0
abbrev pub byte_of : Letter → ℕ
byte_of begins = 66
byte_of reads = 82
byte_of writes = 87
byte_of files = 70
byte_of closes = 67
byte_of drops = 88
byte_of delivers = 68
byte_of trims = 84
byte_of restarts = 85
byte_of versions = 86
byte_of counts = 78
byte_of unknown = 0

-- the letter of a byte: B R W F C X D T U V N
abbrev pub letter_of : ℕ → Letter
letter_of n =
    cond (n == 66) begins
    (cond (n == 82) reads
    (cond (n == 87) writes
    (cond (n == 70) files
    (cond (n == 67) closes
    (cond (n == 88) drops
    (cond (n == 68) delivers
    (cond (n == 84) trims
    (cond (n == 85) restarts
    (cond (n == 86) versions
    (cond (n == 78) counts unknown))))))))))

-- two letters are one
abbrev pub same : Letter → Letter → Bool
same a b = byte_of a == byte_of b
