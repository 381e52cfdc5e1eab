-- What can be told from watching the calls and, of their answers, code and number.
-- The values that reads were answered are kept beside them, to be compared and for nothing else.
use Rattle.std.specs.Prelude.{ℕ, Bool, true, false, cond, not, ◌&&◌, ◌||◌, List, [], ◌∷◌, ◌++◌, length, is_some, Some, None, Option, ◌==◌, nat_lt}
use Rattle.law.specs.declared.calls.Call.{Call}
use Rattle.law.specs.declared.calls.Answer.{Answer}
use Rattle.law.specs.declared.codes.Code.{Code}
use Rattle.law.specs.Codes.{accepts, turns_away}
use Rattle.law.specs.Letters.{Letter, letter_of, same}
use Rattle.law.specs.Letters.Letter.{begins, reads, writes, files, closes, drops, delivers, trims, restarts}

-- a call with its letter and its answer
pub record Event (V : Type 0) : Type 0 where
  pub letter : Letter
  pub call : Call V
  pub answer : Answer V

-- an accepted read with the value that it was answered, or an accepted write
pub data Operation (V : Type 0) : Type 0 where
  shown : ℕ → V → Operation V
  put : ℕ → V → Operation V

-- a transaction while it is open: its snapshot, the time when it began, and its operations in order
pub record Transaction (V : Type 0) : Type 0 where
  pub snapshot : ℕ
  pub began : ℕ
  pub operations : List (Operation V)

-- an accepted transaction: where it ran, the number and the time of its filing, and what it was while open
pub record Accepted (V : Type 0) : Type 0 where
  pub site : ℕ
  pub slot : ℕ
  pub number : ℕ
  pub filed : ℕ
  pub ran : Transaction V

-- an accepted read: its transaction as it was before, the item, and the value answered
pub record Reading (V : Type 0) : Type 0 where
  pub before : Transaction V
  pub item : ℕ
  pub value : V

-- the code and the number of an answer
pub record Verdict : Type 0 where
  pub code : Code
  pub number : ℕ

-- the filing of an open transaction: the transactions accepted before it, the floor then, and what it was answered
pub record Filing (V : Type 0) : Type 0 where
  pub ran : Transaction V
  pub earlier : List (Accepted V)
  pub floor : ℕ
  pub verdict : Verdict

-- calls and answers, the newest first; the time of one is how many there were before it
abbrev pub History : Type 0 → Type 0
History V = List (Event V)

module _ {V : Type 0} where
  -- a call beside its answer
  abbrev pub event : Letter → Call V → Answer V → Event V
  event l c a = record { letter = l; call = c; answer = a }

  -- a history with calls and their answers, given in order, added
  abbrev pub told : History V → List (Call V) → List (Answer V) → History V
  told h [] answers = h
  told h (c ∷ cs) [] = h
  told h (c ∷ cs) (a ∷ answers) = told (event (letter_of c.letter) c a ∷ h) cs answers

  -- an accepted call of this letter
  abbrev pub took : Letter → Event V → Bool
  took l e = same l e.letter && accepts e.answer.code

  -- it was at this slot
  abbrev pub at : Event V → ℕ → ℕ → Bool
  at e site slot = e.call.site == site && e.call.slot == slot

  -- an accepted F or X, or an F that was turned away
  abbrev pub ends : Event V → Bool
  ends e = took files e || took drops e || (same files e.letter && turns_away e.answer.code)

  -- a transaction that begins
  abbrev pub begun : Event V → ℕ → Transaction V
  begun e time = record { snapshot = e.answer.number; began = time; operations = [] }

  -- a transaction with one more operation
  abbrev pub grown : Operation V → Transaction V → Transaction V
  grown op t = record { snapshot = t.snapshot; began = t.began; operations = t.operations ++ (op ∷ []) }

  -- an open transaction, if there is one, with one more operation
  abbrev pub grow : Operation V → Option (Transaction V) → Option (Transaction V)
  grow op None = None
  grow op (Some t) = Some (grown op t)

  -- the transaction open at a slot: from an accepted B until the slot has an accepted F or X or an F that was turned away,
  -- or the site an accepted U
  abbrev pub open_at : History V → ℕ → ℕ → Option (Transaction V)
  open_at [] site slot = None
  open_at (e ∷ h) site slot =
      cond (took begins e) (cond (at e site slot) (Some (begun e (length h))) (open_at h site slot))
      (cond (took reads e) (cond (at e site slot) (grow (shown e.call.arg e.answer.value) (open_at h e.call.site e.call.slot)) (open_at h site slot))
      (cond (took writes e) (cond (at e site slot) (grow (put e.call.arg e.call.value) (open_at h e.call.site e.call.slot)) (open_at h site slot))
      (cond (ends e) (cond (at e site slot) None (open_at h site slot))
      (cond (took restarts e) (cond (e.call.site == site) None (open_at h site slot))
      (open_at h site slot)))))

  -- the transaction open where a call was made
  abbrev pub open_for : History V → Event V → Option (Transaction V)
  open_for h e = open_at h e.call.site e.call.slot

  -- one more, if there was an open transaction
  abbrev pub noted : {X : Type 0} → (Transaction V → X) → Option (Transaction V) → List X → List X
  noted f None xs = xs
  noted f (Some t) xs = f t ∷ xs

  -- an open transaction whose filing is accepted
  abbrev pub accepting : Event V → ℕ → Transaction V → Accepted V
  accepting e time t =
      record { site = e.call.site; slot = e.call.slot; number = e.answer.number; filed = time; ran = t }

  -- the accepted transactions, the last filed first
  abbrev pub accepted : History V → List (Accepted V)
  accepted [] = []
  accepted (e ∷ h) = cond (took files e) (noted (accepting e (length h)) (open_for h e) (accepted h)) (accepted h)

  -- a read of an open transaction
  abbrev pub reading : Event V → Transaction V → Reading V
  reading e t = record { before = t; item = e.call.arg; value = e.answer.value }

  -- the accepted reads
  abbrev pub readings : History V → List (Reading V)
  readings [] = []
  readings (e ∷ h) = cond (took reads e) (noted (reading e) (open_for h e) (readings h)) (readings h)

  -- the floor: the number of the last accepted T, or 0
  abbrev pub floor_seen : History V → ℕ
  floor_seen [] = 0
  floor_seen (e ∷ h) = cond (took trims e) e.answer.number (floor_seen h)

  -- the version of a site: the number of its last accepted D, or 0
  abbrev pub version_seen : History V → ℕ → ℕ
  version_seen [] site = 0
  version_seen (e ∷ h) site =
      cond (took delivers e) (cond (e.call.site == site) e.answer.number (version_seen h site)) (version_seen h site)

  -- a filing of an open transaction
  abbrev pub filing : Event V → History V → Transaction V → Filing V
  filing e h t =
      record { ran = t; earlier = accepted h; floor = floor_seen h; verdict = record { code = e.answer.code; number = e.answer.number } }

  -- the filings of open transactions
  abbrev pub filings : History V → List (Filing V)
  filings [] = []
  filings (e ∷ h) = cond (same files e.letter) (noted (filing e h) (open_for h e) (filings h)) (filings h)

  -- an accepted B finds its slot without a transaction, and an accepted R, W, F or X, or an F turned away, with one
  abbrev pub fits : History V → Event V → Bool
  fits h e =
      cond (took begins e) (not (is_some (open_for h e)))
      (cond (took reads e || took writes e || ends e) (is_some (open_for h e)) true)

  -- no accepted call of a transaction is lost
  abbrev pub whole : History V → Bool
  whole [] = true
  whole (e ∷ h) = fits h e && whole h

  -- an accepted transaction is an update if its own number is above its snapshot
  abbrev pub is_update : Accepted V → Bool
  is_update t = nat_lt t.ran.snapshot t.number

  -- a C at this time, of this number at this slot
  abbrev pub closing : Event V → ℕ → Accepted V → ℕ → Bool
  closing e now t time = now == time && at e t.site t.slot && e.answer.number == t.number

  -- an accepted C at this time closed the transaction
  abbrev pub closed_at : History V → Accepted V → ℕ → Bool
  closed_at [] t time = false
  closed_at (e ∷ h) t time = cond (took closes e) (closing e (length h) t time || closed_at h t time) (closed_at h t time)

  -- the end of an accepted transaction was answered at this time: an update's by its C, any other's by its F
  abbrev pub ended_at : History V → Accepted V → ℕ → Bool
  ended_at h t time = cond (is_update t) (closed_at h t time) (t.filed == time)
