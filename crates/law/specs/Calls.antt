-- What each of the eleven calls answers and leaves. The tests stand in the order of their codes.
use Rattle.std.specs.Prelude.{ℕ, ◌+◌, Bool, true, false, cond, List, [], ◌∷◌, map, length, set, replicate, Some, None, Ok, Err, Option, Result, nat_le, nat_lt}
use Rattle.entries.specs.declared.writes.Write.{Write}
use Rattle.entries.specs.Codings.{Coding}
use Rattle.entries.specs.Writes.{word_of, put_in}
use Rattle.entries.specs.Lists.{may_put}
use Rattle.entries.specs.Items.{with_items}
use Rattle.replicas.specs.declared.replica.Refusal.{Refusal}
use Rattle.replicas.specs.Model.{ReplicaModel, version_of, used_of, read_answer, take_answer, after_take, last_version}
use Rattle.ledgers.specs.declared.ledger.LedgerRefusal.{LedgerRefusal}
use Rattle.ledgers.specs.declared.ledger.LedgerRefusal.TheVariants.{BelowFloor, Conflict, NoWrites, LastVersion, Full}
use Rattle.ledgers.specs.Model.{LedgerModel, head_of, fetched, trimmed}
use Rattle.ledgers.specs.Filing.{file_answer, after_file}
use Rattle.law.specs.declared.calls.Call.{Call}
use Rattle.law.specs.declared.calls.Answer.{Answer}
use Rattle.law.specs.declared.codes.Code.{Code}
use Rattle.law.specs.declared.codes.Code.TheVariants.{Accepted, NoSuchLetter, NoSuchSite, NoSuchSlot, WrongState, NoSuchItem, ListFull, SnapshotTrimmed, Conflicting, NumbersUsedUp, LedgerFull, NotDelivered, NothingToDeliver, ReplicaFull, AboveHead, SiteBehind}
use Rattle.law.specs.Letters.{Letter, letter_of}
use Rattle.law.specs.Letters.Letter.{begins, reads, writes, files, closes, drops, delivers, trims, restarts, versions, counts, unknown}
use Rattle.law.specs.Slots.{SlotModel, slot_count, state_number, restarted, open_count}
use Rattle.law.specs.Slots.SlotModel.{idle, opened, filed}
use Rattle.law.specs.Books.{BookModel, site_count, item_count, replica_of, site_version, row_at, slot_at, with_ledger, with_replica, with_row, with_slot, counted, settled}

-- what a call answers, and the book that it leaves
pub record Outcome (V : Type 0) : Type 0 where
  pub book : BookModel
  pub answer : Answer V

-- the lowest site whose version is below v, where the first of the replicas is that of `site`
abbrev pub behind : ℕ → ℕ → List ReplicaModel → Option ℕ
behind v site [] = None
behind v site (r ∷ rs) = cond (nat_lt (version_of r) v) (Some site) (behind v (site + 1) rs)

module _ {V : Type 0} (k : Coding V) where
  -- an answer that shows no value
  abbrev pub plain : Code → ℕ → Answer V
  plain code number = record { code = code; number = number; value = k.blank }

  -- a refusal leaves the book
  abbrev pub refuse : BookModel → Code → ℕ → Outcome V
  refuse b code number = record { book = b; answer = plain code number }

  -- an acceptance answers a number
  abbrev pub accept : BookModel → ℕ → Outcome V
  accept b number = record { book = b; answer = plain Accepted number }

  -- a read answers a value too
  abbrev pub show : BookModel → ℕ → V → Outcome V
  show b number v = record { book = b; answer = record { code = Accepted; number = number; value = v } }

  -- a filing that is turned away leaves its slot idle and is counted
  abbrev pub turned_away : BookModel → ℕ → ℕ → Code → ℕ → Outcome V
  turned_away b site slot code number =
      record { book = counted (settled (with_slot b site slot idle) site); answer = plain code number }

  -- a call that looks at a site
  unfoldable pub at_site : BookModel → ℕ → Outcome V → Outcome V
  at_site b site r = cond (nat_lt site (site_count b)) r (refuse b NoSuchSite (site_count b))

  -- a call that looks at a slot of a site
  unfoldable pub at_known_slot : BookModel → ℕ → ℕ → Outcome V → Outcome V
  at_known_slot b site slot r = at_site b site (cond (nat_lt slot slot_count) r (refuse b NoSuchSlot slot_count))

  -- a call on an item
  unfoldable pub at_known_item : BookModel → ℕ → Outcome V → Outcome V
  at_known_item b item r = cond (nat_lt item (item_count b)) r (refuse b NoSuchItem (item_count b))

  -- a call that does not fit the state of its slot
  abbrev pub wrong_state : BookModel → SlotModel → Outcome V
  wrong_state b x = refuse b WrongState (state_number x)

  -- begin: an idle slot is open at the site's version, with nothing read or written
  unfoldable pub begin_on : BookModel → ℕ → ℕ → SlotModel → Outcome V
  begin_on b site slot idle = accept (with_slot b site slot (opened (site_version b site) [] (replicate 256 false))) (site_version b site)
  begin_on b site slot (opened s ws items) = wrong_state b (opened s ws items)
  begin_on b site slot (filed n) = wrong_state b (filed n)

  -- what the replica's word shows: its value, or the blank where the replica refused
  abbrev pub shown_as : Result ℕ Refusal → V
  shown_as (Ok word) = k.value word
  shown_as (Err e) = k.blank

  -- the value that a read shows: the transaction's own write, else the replica at the snapshot
  unfoldable pub word_read : BookModel → ℕ → ℕ → ℕ → ℕ → List Write → List Bool → Option ℕ → Outcome V
  word_read b site slot item s ws items (Some word) = show b s (k.value word)
  word_read b site slot item s ws items None =
      show (with_slot b site slot (opened s ws (set items item true))) s (shown_as (read_answer (replica_of b site) s item))

  -- read: only what the replica shows joins the items read
  unfoldable pub read_on : BookModel → ℕ → ℕ → ℕ → SlotModel → Outcome V
  read_on b site slot item idle = wrong_state b idle
  read_on b site slot item (opened s ws items) = at_known_item b item (word_read b site slot item s ws items (word_of ws item))
  read_on b site slot item (filed n) = wrong_state b (filed n)

  -- write: the item gets the word of the value; eight items fill the list
  unfoldable pub write_on : BookModel → ℕ → ℕ → ℕ → V → SlotModel → Outcome V
  write_on b site slot item value idle = wrong_state b idle
  write_on b site slot item value (opened s ws items) =
      at_known_item b item
      (cond (may_put ws item)
      (accept (with_slot b site slot (opened s (put_in ws item (k.word value)) items)) (length (put_in ws item (k.word value))))
      (refuse b ListFull 8))
  write_on b site slot item value (filed n) = wrong_state b (filed n)

  -- what becomes of a filing, by what the ledger answers
  unfoldable pub file_by : BookModel → ℕ → ℕ → ℕ → LedgerModel → Result ℕ LedgerRefusal → Outcome V
  file_by b site slot s l (Ok n) = accept (settled (with_slot (with_ledger b l) site slot (filed n)) site) n
  file_by b site slot s l (Err (BelowFloor f)) = turned_away b site slot SnapshotTrimmed f
  file_by b site slot s l (Err (Conflict v)) = turned_away b site slot Conflicting v
  file_by b site slot s l (Err NoWrites) = accept (settled (with_slot b site slot idle) site) s
  file_by b site slot s l (Err LastVersion) = refuse b NumbersUsedUp last_version
  file_by b site slot s l (Err Full) = refuse b LedgerFull b.ledger.capacity

  -- file: a transaction without writes ends; the ledger certifies one with writes by all items read or written
  unfoldable pub file_on : BookModel → ℕ → ℕ → SlotModel → Outcome V
  file_on b site slot idle = wrong_state b idle
  file_on b site slot (opened s [] items) = accept (settled (with_slot b site slot idle) site) s
  file_on b site slot (opened s (w ∷ ws) items) =
      file_by b site slot s (after_file s (with_items items (w ∷ ws)) (w ∷ ws) b.ledger)
      (file_answer b.ledger s (with_items items (w ∷ ws)) (w ∷ ws))
  file_on b site slot (filed n) = wrong_state b (filed n)

  -- close: a filed slot is idle once its number has been delivered
  unfoldable pub close_on : BookModel → ℕ → ℕ → SlotModel → Outcome V
  close_on b site slot idle = wrong_state b idle
  close_on b site slot (opened s ws items) = wrong_state b (opened s ws items)
  close_on b site slot (filed n) =
      cond (nat_le n (site_version b site)) (accept (with_slot b site slot idle) n) (refuse b NotDelivered (site_version b site))

  -- drop: an open slot is idle
  unfoldable pub drop_on : BookModel → ℕ → ℕ → SlotModel → Outcome V
  drop_on b site slot idle = wrong_state b idle
  drop_on b site slot (opened s ws items) = accept (settled (with_slot b site slot idle) site) s
  drop_on b site slot (filed n) = wrong_state b (filed n)

  -- what becomes of a delivery, by what the replica answers
  unfoldable pub deliver_by : BookModel → ℕ → List Write → Result ℕ Refusal → Outcome V
  deliver_by b site set (Ok version) = accept (settled (with_replica b site (after_take set (replica_of b site))) site) version
  deliver_by b site set (Err e) = refuse b ReplicaFull (used_of (replica_of b site))

  -- deliver: the replica takes the set of the next version
  unfoldable pub deliver_on : BookModel → ℕ → Outcome V
  deliver_on b site =
      cond (nat_lt (site_version b site) (head_of b.ledger))
      (deliver_by b site (fetched b.ledger (site_version b site + 1))
      (take_answer (replica_of b site) (fetched b.ledger (site_version b site + 1))))
      (refuse b NothingToDeliver (site_version b site))

  -- what becomes of a trim, by the lowest site that would still need what is let go
  unfoldable pub trim_by : BookModel → ℕ → Option ℕ → Outcome V
  trim_by b to (Some site) = refuse b SiteBehind site
  trim_by b to None = accept (with_ledger b (trimmed to b.ledger)) (trimmed to b.ledger).floor

  -- begin a transaction
  unfoldable pub begin_call : BookModel → ℕ → ℕ → Outcome V
  begin_call b site slot = at_known_slot b site slot (begin_on b site slot (slot_at b site slot))

  -- read an item
  unfoldable pub read_call : BookModel → ℕ → ℕ → ℕ → Outcome V
  read_call b site slot item = at_known_slot b site slot (read_on b site slot item (slot_at b site slot))

  -- write an item
  unfoldable pub write_call : BookModel → ℕ → ℕ → ℕ → V → Outcome V
  write_call b site slot item value = at_known_slot b site slot (write_on b site slot item value (slot_at b site slot))

  -- file a transaction
  unfoldable pub file_call : BookModel → ℕ → ℕ → Outcome V
  file_call b site slot = at_known_slot b site slot (file_on b site slot (slot_at b site slot))

  -- close a filed slot
  unfoldable pub close_call : BookModel → ℕ → ℕ → Outcome V
  close_call b site slot = at_known_slot b site slot (close_on b site slot (slot_at b site slot))

  -- drop a transaction
  unfoldable pub drop_call : BookModel → ℕ → ℕ → Outcome V
  drop_call b site slot = at_known_slot b site slot (drop_on b site slot (slot_at b site slot))

  -- deliver the next version to a site
  unfoldable pub deliver_call : BookModel → ℕ → Outcome V
  deliver_call b site = at_site b site (deliver_on b site)

  -- trim the ledger
  unfoldable pub trim_call : BookModel → ℕ → Outcome V
  trim_call b to = cond (nat_lt (head_of b.ledger) to) (refuse b AboveHead (head_of b.ledger)) (trim_by b to (behind to 0 b.replicas))

  -- start a site anew: its open slots are idle, and it tells how many transactions are lost
  unfoldable pub restart_call : BookModel → ℕ → Outcome V
  restart_call b site =
      at_site b site (accept (settled (with_row b site (map restarted (row_at b site))) site) (open_count (row_at b site)))

  -- tell the version of a site
  unfoldable pub version_call : BookModel → ℕ → Outcome V
  version_call b site = at_site b site (accept b (site_version b site))

  -- tell how many filings were turned away
  unfoldable pub count_call : BookModel → Outcome V
  count_call b = accept b b.refusals

  -- the call that a letter names
  unfoldable pub step_by : Letter → BookModel → Call V → Outcome V
  step_by begins b c = begin_call b c.site c.slot
  step_by reads b c = read_call b c.site c.slot c.arg
  step_by writes b c = write_call b c.site c.slot c.arg c.value
  step_by files b c = file_call b c.site c.slot
  step_by closes b c = close_call b c.site c.slot
  step_by drops b c = drop_call b c.site c.slot
  step_by delivers b c = deliver_call b c.site
  step_by trims b c = trim_call b c.arg
  step_by restarts b c = restart_call b c.site
  step_by versions b c = version_call b c.site
  step_by counts b c = count_call b
  step_by unknown b c = refuse b NoSuchLetter 0

  -- one call
  unfoldable pub step : BookModel → Call V → Outcome V
  step b c = step_by (letter_of c.letter) b c
