-- The codes of answers.
use Rattle.std.specs.Prelude.{ℕ, Bool, ◌||◌, ◌==◌}
use Rattle.law.specs.declared.codes.Code.{Code}
use Rattle.law.specs.declared.codes.Code.TheVariants.{Accepted, NoSuchLetter, NoSuchSite, NoSuchSlot, WrongState, NoSuchItem, ListFull, SnapshotTrimmed, Conflicting, NumbersUsedUp, LedgerFull, NotDelivered, NothingToDeliver, ReplicaFull, AboveHead, SiteBehind, TooFewAnswers}

-- the number of a code
abbrev pub code_number : Code → ℕ
code_number Accepted = 0
code_number NoSuchLetter = 1
code_number NoSuchSite = 2
code_number NoSuchSlot = 3
code_number WrongState = 4
code_number NoSuchItem = 5
code_number ListFull = 6
code_number SnapshotTrimmed = 7
code_number Conflicting = 8
code_number NumbersUsedUp = 9
code_number LedgerFull = 10
code_number NotDelivered = 11
code_number NothingToDeliver = 12
code_number ReplicaFull = 13
code_number AboveHead = 14
code_number SiteBehind = 15
code_number TooFewAnswers = 16

-- the call was carried out
abbrev pub accepts : Code → Bool
accepts c = code_number c == 0

-- the filing was turned away for good: its transaction is over
abbrev pub turns_away : Code → Bool
turns_away c = code_number c == 7 || code_number c == 8
