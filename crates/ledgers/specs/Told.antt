-- What a refusal says to a person.
use Rattle.std.specs.Prelude.{ℕ, List, ◌++◌, codes}
use Rattle.std.specs.Fmt.{decimal}
use Rattle.ledgers.specs.declared.ledger.LedgerRefusal.{LedgerRefusal}
use Rattle.ledgers.specs.declared.ledger.LedgerRefusal.TheVariants.{BelowFloor, Conflict, NoWrites, LastVersion, Full}

abbrev pub refusal_text : LedgerRefusal → List ℕ
refusal_text (BelowFloor floor) = codes "begin again: the ledger was trimmed to version " ++ decimal floor
refusal_text (Conflict version) = codes "what it read was written by version " ++ decimal version
refusal_text NoWrites = codes "the number of its writes is 0"
refusal_text LastVersion = codes "no version comes after 999999"
refusal_text Full = codes "trim the ledger first: its room for more sets is 0"
