-- How a call comes to its slot: the tests of site, slot and state.
use Rattle.std.specs.Prelude.{ℕ, cond, Ok, Err, Result, nat_lt}
use Rattle.entries.specs.Codings.{Coding}
use Rattle.law.specs.declared.codes.Code.{Code}
use Rattle.law.specs.declared.codes.Code.TheVariants.{NoSuchSite, NoSuchSlot, WrongState, NoSuchItem}
use Rattle.law.specs.Slots.{slot_count}
use Rattle.law.specs.Books.{BookModel, site_count, item_count, site_version, slot_at, with_slot}
use Rattle.law.specs.Calls.{Outcome, refuse}
use Rattle.slots.specs.declared.slots.State.{State}
use Rattle.slots.specs.Slots.{number_of, admit_answer, after_admit}
use Rattle.book.specs.declared.answers.Refused.{Refused}

-- the version of a site, or that there is no such site
abbrev pub version_in : BookModel → ℕ → Result ℕ Refused
version_in b site =
    cond (nat_lt site (site_count b)) (Ok (site_version b site)) (Err (record { code = NoSuchSite; number = site_count b }))

-- an item that every replica has, or that there is no such item
abbrev pub item_in : BookModel → ℕ → Result ℕ Refused
item_in b item = cond (nat_lt item (item_count b)) (Ok item) (Err (record { code = NoSuchItem; number = item_count b }))

-- what a slot answers: the number that it goes by, or that the call does not fit its state
abbrev pub by_slot : Result ℕ State → Result ℕ Refused
by_slot (Ok number) = Ok number
by_slot (Err state) = Err (record { code = WrongState; number = number_of state })

-- the book that is left, and the number that the slot goes by, or why the call is refused
pub record Entry : Type 0 where
  pub book : BookModel
  pub verdict : Result ℕ Refused

-- a book that is left, with the verdict
abbrev pub entry : BookModel → Result ℕ Refused → Entry
entry b r = record { book = b; verdict = r }

-- a call is refused before it comes to a slot
abbrev pub barred : BookModel → Code → ℕ → Entry
barred b code number = record { book = b; verdict = Err (record { code = code; number = number }) }

-- by what the slot answers to the letter: it moves on, or refuses with the number of its state
abbrev pub admitted_by : BookModel → ℕ → ℕ → ℕ → Result ℕ State → Entry
admitted_by b letter site slot (Ok n) =
    record { book = with_slot b site slot (after_admit letter (site_version b site) (slot_at b site slot)); verdict = Ok n }
admitted_by b letter site slot (Err state) = barred b WrongState (number_of state)

-- a call by its letter at a slot of a site
abbrev pub entered : BookModel → ℕ → ℕ → ℕ → Entry
entered b letter site slot =
    cond (nat_lt site (site_count b))
    (cond (nat_lt slot slot_count)
    (admitted_by b letter site slot (admit_answer letter (site_version b site) (slot_at b site slot)))
    (barred b NoSuchSlot slot_count))
    (barred b NoSuchSite (site_count b))

-- a call goes on with its book and its slot's number, or is refused
abbrev pub resumed : {V : Type 0} → Coding V → Entry → (BookModel → ℕ → Outcome V) → Outcome V
resumed {V} k e go = by e.verdict
  where
    by : Result ℕ Refused → Outcome V
    by (Ok n) = go e.book n
    by (Err r) = refuse k e.book r.code r.number
