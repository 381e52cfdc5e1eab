-- What a call is answered, by what became of it.
use Rattle.std.specs.Prelude.{ℕ, Ok, Err, Result}
use Rattle.entries.specs.declared.lists.ListFull.{ListFull as full}
use Rattle.entries.specs.Codings.{Coding}
use Rattle.law.specs.declared.calls.Answer.{Answer}
use Rattle.law.specs.declared.codes.Code.TheVariants.{Accepted, ListFull}
use Rattle.law.specs.Calls.{plain}
use Rattle.book.specs.declared.answers.Refused.{Refused}

-- what a write list answers to a write: its new length, or that it is full
abbrev pub by_list : Result ℕ full → Result ℕ Refused
by_list (Ok length) = Ok length
by_list (Err e) = Err (record { code = ListFull; number = 8 })

module _ {V : Type 0} (k : Coding V) where
  -- a refusal tells its code and its number
  abbrev pub refusal : Refused → Answer V
  refusal x = plain k x.code x.number

  -- what was done tells its number
  abbrev pub answer_of : Result ℕ Refused → Answer V
  answer_of (Ok number) = plain k Accepted number
  answer_of (Err x) = refusal x

  -- an answer, or why there is none
  abbrev pub answer_or_why : Result (Answer V) Refused → Answer V
  answer_or_why (Ok r) = r
  answer_or_why (Err x) = refusal x
