-- The coding of counts: the word of a number is the number modulo 4294967296.
use Rattle.std.specs.Prelude.{ℕ, suc, ◌-◌, cond, ℤ, pos, negsuc, ◌≤ℤ◌, nat_lt}
use Rattle.std.proofs.Common.{arith, to_z}
use Rattle.std.proofs.lemmas.Int.{ints}
use Rattle.std.specs.Int.Signed.{le_z_yes}
use Rattle.std.specs.Int.{w32}
use Rattle.entries.specs.declared.values.Count.{Count}
use Rattle.entries.specs.Codings.{Coding}

-- the word of a number: -1, which is `negsuc 0`, has the word 4294967295
abbrev pub number_word : ℤ → ℕ
number_word (pos n) = n
number_word (negsuc n) = 4294967296 - suc n

-- the number of a word below 4294967296: from 2147483648 on it is the word less 4294967296
abbrev pub word_number : ℕ → ℤ
word_number w = cond (nat_lt w 2147483648) (pos w) (negsuc (4294967296 - suc w))

-- it fits 32 bits: it is the number that the library reads from the bits w, `to_z w32 w`
pub word_number-low : (w : ℕ) → negsuc 2147483647 ≤ℤ word_number w
word_number-low w = let fit : negsuc 2147483647 ≤ℤ to_z w32 w = omega (arith, ints) in fit

pub word_number-high : (w : ℕ) → word_number w ≤ℤ pos 2147483647
word_number-high w = let fit : to_z w32 w ≤ℤ pos 2147483647 = omega (arith, ints) in fit

-- the blank: 0
abbrev pub no_count : Count
no_count = record { number = pos 0; low = le_z_yes tt; high = le_z_yes tt }

-- the count of a word below 4294967296
abbrev pub count_of : ℕ → Count
count_of w = record { number = word_number w; low = word_number-low w; high = word_number-high w }

-- the count of a word: 4294967296 and more have none
abbrev pub word_count : ℕ → Count
word_count w = cond (nat_lt w 4294967296) (count_of w) no_count

-- the kind
abbrev pub count_coding : Coding Count
count_coding = record { blank = no_count; word = λ c. number_word c.number; value = word_count }
