-- Short histories that can be followed by hand, with what the definitions answer in each.
use Rattle.std.specs.Prelude.{◌≡◌, ℕ, List, [], ◌∷◌, ◌++◌, map, replicate, ℤ, pos, negsuc}
use Rattle.std.proofs.Common.{lit<}
use Rattle.std.specs.Int.Signed.{le_z_yes}
use Rattle.entries.specs.declared.values.Card.{Card}
use Rattle.entries.specs.declared.values.Count.{Count}
use Rattle.entries.specs.declared.values.Stage.TheVariants.{OnBench}
use Rattle.entries.specs.declared.writes.Write.{Write}
use Rattle.entries.specs.Cards.{card_word}
use Rattle.entries.specs.Counts.{count_coding, no_count}
use Rattle.replicas.specs.Model.{ReplicaModel}
use Rattle.ledgers.specs.Model.{LedgerModel}
use Rattle.law.specs.declared.calls.Call.{Call}
use Rattle.law.specs.declared.calls.Answer.{Answer}
use Rattle.law.specs.Codes.{code_number}
use Rattle.law.specs.Letters.{Letter, byte_of}
use Rattle.law.specs.Letters.Letter.{begins, reads, writes, files, closes, drops, delivers, trims, restarts, versions, counts}
use Rattle.law.specs.Books.{BookModel}
use Rattle.law.specs.Layouts.{laid_out, book_in_use}
use Rattle.law.specs.Runs.{answers_to}
use Rattle.law.specs.History.{Accepted, History, told}
use Rattle.law.specs.Serial.{serial_order}

-- sets that a replica or a ledger still holds from an earlier use
abbrev pub leftover : List (List Write)
leftover = (record { item = 1; word = 44 } ∷ record { item = 6; word = 45 } ∷ []) ∷ (record { item = 2; word = 46 } ∷ []) ∷ []

-- a replica of 16 items that was used before, with room for so many records
abbrev pub used_replica : ℕ → ReplicaModel
used_replica records = record { base = 7; contents = replicate 16 43; sets = leftover; capacity = records }

-- a ledger of capacity 64 that was used before
abbrev pub used_ledger : LedgerModel
used_ledger = record { floor = 7; sets = leftover; capacity = 64 }

-- the book of three such replicas and the ledger, laid out anew and in use
abbrev pub book_with : ℕ → BookModel
book_with records = book_in_use count_coding (laid_out count_coding used_ledger (replicate 3 (used_replica records)))

-- the count 5, which the writes store
abbrev pub five : Count
five = record { number = pos 5; low = le_z_yes tt; high = le_z_yes tt }

-- the count -1
abbrev pub minus_one : Count
minus_one = record { number = negsuc 0; low = le_z_yes tt; high = le_z_yes tt }

-- the card of a job on bench 2, with part 5 and 1 minute
abbrev pub bench_card : Card
bench_card =
    record {
      stage = OnBench;
      bench = 2;
      part = 5;
      minutes = 1;
      bench_fits = lit< tt;
      part_fits = lit< tt;
      minutes_fit = lit< tt;
    }

-- a call with this letter
abbrev pub call : Letter → ℕ → ℕ → ℕ → Count → Call Count
call letter site slot arg value = record { letter = byte_of letter; site = site; slot = slot; arg = arg; value = value }

-- B: begin a transaction at a site, in a slot
abbrev pub begin : ℕ → ℕ → Call Count
begin site slot = call begins site slot 0 no_count

-- R: read an item
abbrev pub read : ℕ → ℕ → ℕ → Call Count
read site slot item = call reads site slot item no_count

-- W: write 5 to an item
abbrev pub write : ℕ → ℕ → ℕ → Call Count
write site slot item = call writes site slot item five

-- F: file
abbrev pub file : ℕ → ℕ → Call Count
file site slot = call files site slot 0 no_count

-- C: close
abbrev pub close : ℕ → ℕ → Call Count
close site slot = call closes site slot 0 no_count

-- X: drop
abbrev pub drop : ℕ → ℕ → Call Count
drop site slot = call drops site slot 0 no_count

-- D: deliver the next version to a site
abbrev pub deliver : ℕ → Call Count
deliver site = call delivers site 0 0 no_count

-- T: trim the ledger up to a version
abbrev pub trim : ℕ → Call Count
trim to = call trims 0 0 to no_count

-- U: start a site anew
abbrev pub restart : ℕ → Call Count
restart site = call restarts site 0 0 no_count

-- V: ask for the version of a site
abbrev pub version : ℕ → Call Count
version site = call versions site 0 0 no_count

-- N: ask how many filings were turned away
abbrev pub count : Call Count
count = call counts 0 0 0 no_count

-- a call, and what it is answered: the code's number, the number and the value
abbrev pub Row : Type 0
Row = Call Count × ℕ × ℕ × ℤ

-- the call of a row
abbrev pub call_of : Row → Call Count
call_of row = row.0

-- the answer of a row
abbrev pub answer_of : Row → ℕ × ℕ × ℤ
answer_of row = (row.1, row.2, row.3)

-- the code's number, the number and the value of an answer
abbrev pub in_numbers : Answer Count → ℕ × ℕ × ℤ
in_numbers a = (code_number a.code, a.number, a.value.number)

-- the calls of the rows, made in order on a new book whose replicas have room for so many records, are answered as the rows say
abbrev pub Answers : ℕ → List Row → Type 0
Answers records rows = map in_numbers (answers_to count_coding (book_with records) (map call_of rows)) ≡ map answer_of rows

-- one update at site 0, from its begin to its close
abbrev pub one_update : List Row
one_update =
    (begin 0 0, 0, 0, pos 0)
    ∷ (write 0 0 3, 0, 1, pos 0)
    ∷ (file 0 0, 0, 1, pos 0)
    ∷ (close 0 0, 11, 0, pos 0)
    ∷ (deliver 0, 0, 1, pos 0)
    ∷ (close 0 0, 0, 1, pos 0)
    ∷ []

-- each of two sites reads the item that the other writes
abbrev pub skew : List Row
skew =
    (begin 0 0, 0, 0, pos 0)
    ∷ (begin 1 0, 0, 0, pos 0)
    ∷ (read 0 0 1, 0, 0, pos 0)
    ∷ (write 0 0 2, 0, 1, pos 0)
    ∷ (read 1 0 2, 0, 0, pos 0)
    ∷ (write 1 0 1, 0, 1, pos 0)
    ∷ (file 0 0, 0, 1, pos 0)
    ∷ (file 1 0, 8, 1, pos 0)
    ∷ []

-- two sites write one item that neither reads
abbrev pub blind_writers : List Row
blind_writers =
    (begin 0 0, 0, 0, pos 0)
    ∷ (begin 1 0, 0, 0, pos 0)
    ∷ (write 0 0 3, 0, 1, pos 0)
    ∷ (write 1 0 3, 0, 1, pos 0)
    ∷ (file 0 0, 0, 1, pos 0)
    ∷ (file 1 0, 8, 1, pos 0)
    ∷ []

-- a site with one open and one filed transaction is started anew
abbrev pub started_anew : List Row
started_anew =
    (begin 0 0, 0, 0, pos 0)
    ∷ (write 0 0 3, 0, 1, pos 0)
    ∷ (file 0 0, 0, 1, pos 0)
    ∷ (begin 0 1, 0, 0, pos 0)
    ∷ (restart 0, 0, 1, pos 0)
    ∷ (write 0 1 3, 4, 0, pos 0)
    ∷ (begin 0 0, 4, 2, pos 0)
    ∷ (version 0, 0, 0, pos 0)
    ∷ []

-- after the one update, site 1 reads the written item at snapshot 0, before and after its delivery, and then at snapshot 1
abbrev pub old_snapshot : List Row
old_snapshot =
    one_update
    ++ ((begin 1 0, 0, 0, pos 0)
    ∷ (read 1 0 3, 0, 0, pos 0)
    ∷ (deliver 1, 0, 1, pos 0)
    ∷ (read 1 0 3, 0, 0, pos 0)
    ∷ (begin 1 1, 0, 1, pos 0)
    ∷ (read 1 1 3, 0, 1, pos 5)
    ∷ [])

-- a transaction is open since snapshot 0 while version 1 is delivered everywhere and trimmed away
abbrev pub trimmed_away : List Row
trimmed_away =
    (begin 1 1, 0, 0, pos 0)
    ∷ (write 1 1 4, 0, 1, pos 0)
    ∷ (begin 0 0, 0, 0, pos 0)
    ∷ (write 0 0 3, 0, 1, pos 0)
    ∷ (file 0 0, 0, 1, pos 0)
    ∷ (deliver 0, 0, 1, pos 0)
    ∷ (deliver 1, 0, 1, pos 0)
    ∷ (deliver 2, 0, 1, pos 0)
    ∷ (trim 1, 0, 1, pos 0)
    ∷ (file 1 1, 7, 1, pos 0)
    ∷ (count, 0, 1, pos 0)
    ∷ []

-- the head is 1, and site 2 is still at 0
abbrev pub lagging : List Row
lagging =
    (begin 0 0, 0, 0, pos 0)
    ∷ (write 0 0 3, 0, 1, pos 0)
    ∷ (file 0 0, 0, 1, pos 0)
    ∷ (deliver 0, 0, 1, pos 0)
    ∷ (deliver 1, 0, 1, pos 0)
    ∷ (trim 1, 15, 2, pos 0)
    ∷ (trim 2, 14, 1, pos 0)
    ∷ []

-- an open transaction writes eight different items
abbrev pub eight_writes : ℕ → ℕ → List Row
eight_writes site slot =
    (write site slot 7, 0, 1, pos 0)
    ∷ (write site slot 1, 0, 2, pos 0)
    ∷ (write site slot 0, 0, 3, pos 0)
    ∷ (write site slot 2, 0, 4, pos 0)
    ∷ (write site slot 3, 0, 5, pos 0)
    ∷ (write site slot 4, 0, 6, pos 0)
    ∷ (write site slot 5, 0, 7, pos 0)
    ∷ (write site slot 6, 0, 8, pos 0)
    ∷ []

-- after eight different items, a ninth, and then one of the eight again
abbrev pub ninth_item : List Row
ninth_item =
    ((begin 0 0, 0, 0, pos 0) ∷ eight_writes 0 0)
    ++ ((write 0 0 8, 6, 8, pos 0)
    ∷ (write 0 0 3, 0, 8, pos 0)
    ∷ [])

-- the snapshot of an open transaction keeps the records of site 1, which has room for eight
abbrev pub full_replica : List Row
full_replica =
    ((begin 1 0, 0, 0, pos 0) ∷ (begin 0 0, 0, 0, pos 0) ∷ eight_writes 0 0)
    ++ ((file 0 0, 0, 1, pos 0)
    ∷ (deliver 1, 0, 1, pos 0)
    ∷ (deliver 0, 0, 1, pos 0)
    ∷ (begin 0 1, 0, 1, pos 0)
    ∷ (write 0 1 9, 0, 1, pos 0)
    ∷ (file 0 1, 0, 2, pos 0)
    ∷ (deliver 1, 13, 8, pos 0)
    ∷ (drop 1 0, 0, 0, pos 0)
    ∷ (deliver 1, 0, 2, pos 0)
    ∷ [])

-- two updates of site 0, and readers of the snapshots 2, 1 and 0, filed in this order
abbrev pub mixed_calls : List (Call Count)
mixed_calls =
    begin 0 0 ∷ begin 2 0 ∷ write 0 0 3 ∷ file 0 0 ∷ deliver 0
    ∷ begin 0 1 ∷ begin 0 2 ∷ read 0 1 3 ∷ write 0 1 4 ∷ file 0 1 ∷ deliver 0
    ∷ begin 0 3 ∷ read 0 3 4 ∷ file 0 3 ∷ read 0 2 3 ∷ file 0 2 ∷ read 2 0 3 ∷ file 2 0
    ∷ []

-- two readers of snapshot 0, filed after an update, first that of site 2 and then that of site 1
abbrev pub two_readers : List (Call Count)
two_readers = begin 1 0 ∷ begin 2 0 ∷ begin 0 0 ∷ write 0 0 3 ∷ file 0 0 ∷ file 2 0 ∷ file 1 0 ∷ []

-- the history of calls on a new book
abbrev pub history_of : List (Call Count) → History Count
history_of calls = told [] calls (answers_to count_coding (book_with 32) calls)

-- the number, the site and the time of filing of accepted transactions
abbrev pub places : List (Accepted Count) → List (ℕ × ℕ × ℕ)
places ts = map (λ t. (t.number, t.site, t.filed)) ts

-- what the definitions answer in these histories
pub record WorkedCases : Type 0 where
  -- begin, write, file, close, deliver, close: the close waits for the delivery
  pub update_is_answered_in_order : Answers 32 one_update
  -- of two sites that read what the other writes, the second to file is refused
  pub write_skew_is_refused : Answers 32 skew
  -- of two sites that write one item, the second to file is refused, though neither read it
  pub blind_write_is_refused : Answers 32 blind_writers
  -- a restart loses open transactions and tells how many; filed ones stay
  pub restart_loses_open_transactions : Answers 32 started_anew
  -- a snapshot shows its own values after a delivery, and a later transaction the new ones
  pub old_snapshot_is_still_read : Answers 32 old_snapshot
  -- a filing whose snapshot is below the floor is refused and counted
  pub filing_below_the_floor_is_refused : Answers 32 trimmed_away
  -- a trim is refused where a site lags, with the site, and above the head, with the head
  pub early_trims_are_refused : Answers 32 lagging
  -- a ninth item is refused, and one of the eight is still written
  pub ninth_item_is_refused : Answers 32 ninth_item
  -- a replica without room refuses a delivery until the transaction that keeps its records is dropped
  pub drop_frees_full_replica : Answers 8 full_replica
  -- the word of a card holds stage, bench, part and minutes from the low end on
  pub word_of_card : card_word bench_card ≡ 4295295491
  -- the word of a negative count is the count plus 4294967296
  pub word_of_negative_count : count_coding.word minus_one ≡ 4294967295
  -- updates stand in the order of their numbers, and each reader after its snapshot's update, whenever it was filed
  pub readers_stand_at_their_snapshots :
      places (serial_order (history_of mixed_calls)) ≡ (0, 2, 17) ∷ (1, 0, 3) ∷ (1, 0, 15) ∷ (2, 0, 9) ∷ (2, 0, 13) ∷ []
  -- readers of one snapshot stand in the order of their filings
  pub readers_of_one_snapshot_stand_as_filed : places (serial_order (history_of two_readers)) ≡ (0, 2, 5) ∷ (0, 1, 6) ∷ (1, 0, 4) ∷ []
