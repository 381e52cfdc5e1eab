-- What filing a list answers and leaves.
use Rattle.std.specs.Prelude.{ℕ, Bool, cond, List, is_ok, Some, None, Ok, Err, Option, Result}
use Rattle.entries.specs.declared.writes.Write.{Write}
use Rattle.ledgers.specs.declared.ledger.LedgerRefusal.{LedgerRefusal}
use Rattle.ledgers.specs.declared.ledger.LedgerRefusal.TheVariants.{Conflict}
use Rattle.ledgers.specs.Model.{LedgerModel, newest_answer, add_answer, after_add}

-- what the newest conflict makes of the answer of an add
abbrev pub certified : Result (Option ℕ) LedgerRefusal → Result ℕ LedgerRefusal → Result ℕ LedgerRefusal
certified (Err e) added = Err e
certified (Ok (Some v)) added = Err (Conflict v)
certified (Ok None) added = added

abbrev pub file_answer : LedgerModel → ℕ → List Bool → List Write → Result ℕ LedgerRefusal
file_answer m snapshot items ws = certified (newest_answer m snapshot items) (add_answer m ws)

-- a list that is filed is added, and a refusal leaves the ledger
abbrev pub after_file : ℕ → List Bool → List Write → LedgerModel → LedgerModel
after_file snapshot items ws m = cond (is_ok (file_answer m snapshot items ws)) (after_add ws m) m
