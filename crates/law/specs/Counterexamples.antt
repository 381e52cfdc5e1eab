-- Histories that books with a broken rule would make, and the part of the law that each history breaks.
use Rattle.std.specs.Prelude.{◌≡◌, ℕ, true, List, [], ◌∷◌, map, replicate}
use Rattle.entries.specs.declared.values.Count.{Count}
use Rattle.entries.specs.Counts.{count_coding, no_count}
use Rattle.law.specs.declared.calls.Call.{Call}
use Rattle.law.specs.declared.calls.Answer.{Answer}
use Rattle.law.specs.declared.codes.Code.TheVariants.{Accepted}
use Rattle.law.specs.History.{History, told, whole}
use Rattle.law.specs.Serial.{serial_order, Replays}
use Rattle.law.specs.Law.{SameSiteOrder}
use Rattle.law.specs.Cases.{five, begin, read, write, file, close, deliver}

-- a call that was accepted, with the number and the value that it was answered
abbrev pub Taken : Type 0
Taken = Call Count × ℕ × Count

-- the call
abbrev pub call_taken : Taken → Call Count
call_taken t = t.0

-- its answer
abbrev pub answer_taken : Taken → Answer Count
answer_taken t = record { code = Accepted; number = t.1; value = t.2 }

-- the history of calls that were all accepted
abbrev pub taken : List Taken → History Count
taken ts = told [] (map call_taken ts) (map answer_taken ts)

-- a history on 16 blank items does not replay: the serial book shows another value than some read was answered
abbrev pub DoesNotReplay : History Count → Type 0
DoesNotReplay h = Replays no_count (replicate 16 no_count) (serial_order h) → ⊥

-- broken rule: a filing is certified by the items that it wrote and not by those that it read, so both are accepted here
abbrev pub reads_not_certified : History Count
reads_not_certified =
    taken
    ((begin 0 0, 0, no_count)
    ∷ (begin 1 0, 0, no_count)
    ∷ (read 0 0 1, 0, no_count)
    ∷ (write 0 0 2, 1, no_count)
    ∷ (read 1 0 2, 0, no_count)
    ∷ (write 1 0 1, 1, no_count)
    ∷ (file 0 0, 1, no_count)
    ∷ (file 1 0, 2, no_count)
    ∷ [])

-- broken rule: a read shows the item at the site's version, so that after a delivery the transaction sees another value
abbrev pub reads_at_site_version : History Count
reads_at_site_version =
    taken
    ((begin 0 0, 0, no_count)
    ∷ (write 0 0 3, 1, no_count)
    ∷ (file 0 0, 1, no_count)
    ∷ (begin 1 0, 0, no_count)
    ∷ (read 1 0 3, 0, no_count)
    ∷ (deliver 1, 1, no_count)
    ∷ (read 1 0 3, 0, five)
    ∷ (file 1 0, 0, no_count)
    ∷ [])

-- broken rule: a close does not wait for the delivery, so the next transaction of the site begins at an older snapshot
abbrev pub closes_before_delivery : History Count
closes_before_delivery =
    taken
    ((begin 0 0, 0, no_count)
    ∷ (write 0 0 3, 1, no_count)
    ∷ (file 0 0, 1, no_count)
    ∷ (close 0 0, 1, no_count)
    ∷ (begin 0 0, 0, no_count)
    ∷ (file 0 0, 0, no_count)
    ∷ [])

-- what each of these histories breaks
pub record BrokenRulesBreakTheLaw : Type 0 where
  -- the histories are well formed: none of their calls is lost
  pub no_call_is_lost : (whole reads_not_certified ≡ true) × (whole reads_at_site_version ≡ true) × (whole closes_before_delivery ≡ true)
  -- the replay fails: the first transaction wrote the item that the second, after it in the serial order, read as blank
  pub uncertified_reads_do_not_replay : DoesNotReplay reads_not_certified
  -- the replay fails: no one state of the serial book shows both values of the item
  pub reads_at_site_version_do_not_replay : DoesNotReplay reads_at_site_version
  -- the order at a site fails: the update ended before the reader began, and stands after it
  pub early_close_breaks_same_site_order : SameSiteOrder count_coding closes_before_delivery → ⊥
