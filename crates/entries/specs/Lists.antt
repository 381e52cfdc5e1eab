-- What a write list means, and what putting a write into it answers and leaves.
use Rattle.std.specs.Prelude.{ℕ, Bool, cond, ◌||◌, List, length, take, Ok, Err, Result, nat_lt}
use Rattle.entries.specs.declared.writes.Write.{Write}
use Rattle.entries.specs.declared.lists.ListFull.{ListFull}
use Rattle.entries.specs.declared.lists.WriteList.{WriteList}
use Rattle.entries.specs.Writes.{names, put_in}

-- the writes of a list
abbrev pub writes : WriteList → List Write
writes l = take l.len l.slots

-- a write is taken if its item is there already, or fewer than eight are
abbrev pub may_put : List Write → ℕ → Bool
may_put ws i = names ws i || nat_lt (length ws) 8

abbrev pub put_answer : List Write → ℕ → Result (Unit {0}) ListFull
put_answer ws i = cond (may_put ws i) (Ok tt) (Err (record {}))

abbrev pub after_put : List Write → ℕ → ℕ → List Write
after_put ws i x = cond (may_put ws i) (put_in ws i x) ws
