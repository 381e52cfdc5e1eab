-- A run: calls one after another.
use Rattle.std.specs.Prelude.{Bool, cond, List, [], ◌∷◌, ◌++◌, length, drop, nat_lt}
use Rattle.entries.specs.Codings.{Coding}
use Rattle.law.specs.declared.calls.Call.{Call}
use Rattle.law.specs.declared.calls.Answer.{Answer}
use Rattle.law.specs.declared.codes.Code.TheVariants.{Accepted, TooFewAnswers}
use Rattle.law.specs.Books.{BookModel}
use Rattle.law.specs.Calls.{plain, step}

-- there are fewer places for answers than calls
abbrev pub too_few : {V : Type 0} → List (Call V) → List (Answer V) → Bool
too_few calls answers = nat_lt (length answers) (length calls)

-- the calls that a run makes: all, or none where there are too few places
abbrev pub calls_made : {V : Type 0} → List (Call V) → List (Answer V) → List (Call V)
calls_made calls answers = cond (too_few calls answers) [] calls

module _ {V : Type 0} (k : Coding V) where
  -- the book after calls
  abbrev pub book_after : BookModel → List (Call V) → BookModel
  book_after b [] = b
  book_after b (c ∷ cs) = book_after (step k b c).book cs

  -- the answers to calls
  abbrev pub answers_to : BookModel → List (Call V) → List (Answer V)
  answers_to b [] = []
  answers_to b (c ∷ cs) = (step k b c).answer ∷ answers_to (step k b c).book cs

  -- a run answers how many calls it was given; first it refuses where there are too few places for the answers
  abbrev pub run_answer : List (Call V) → List (Answer V) → Answer V
  run_answer calls answers =
      cond (too_few calls answers) (plain k TooFewAnswers (length calls)) (plain k Accepted (length calls))

  -- the book after a run
  abbrev pub after_run : BookModel → List (Call V) → List (Answer V) → BookModel
  after_run b calls answers = book_after b (calls_made calls answers)

  -- the list of answers after a run: one for each call made, and the places past them as they were
  abbrev pub answers_after_run : BookModel → List (Call V) → List (Answer V) → List (Answer V)
  answers_after_run b calls answers =
      answers_to b (calls_made calls answers) ++ drop (length (calls_made calls answers)) answers
