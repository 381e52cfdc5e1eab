-- The coding of cards: stage, bench, part and minutes lie side by side in the word, from its low end on.
use Rattle.std.specs.Prelude.{ℕ, ◌+◌, ◌*◌, ◌/◌, ◌%◌, cond, Some, None, Option, ◌==◌, nat_lt}
use Rattle.std.proofs.Common.{mod-lt, lit<}
use Rattle.entries.specs.declared.values.Card.{Card}
use Rattle.entries.specs.declared.values.Stage.{Stage}
use Rattle.entries.specs.declared.values.Stage.TheVariants.{Received, Waiting, OnBench, Ready, Gone}
use Rattle.entries.specs.Codings.{Coding}

-- the number of a stage
abbrev pub stage_number : Stage → ℕ
stage_number Received = 1
stage_number Waiting = 2
stage_number OnBench = 3
stage_number Ready = 4
stage_number Gone = 5

-- the stage of a number: 0, 6 and more have none
abbrev pub stage_of_number : ℕ → Option Stage
stage_of_number n =
    cond (n == 1) (Some Received)
    (cond (n == 2) (Some Waiting)
    (cond (n == 3) (Some OnBench)
    (cond (n == 4) (Some Ready)
    (cond (n == 5) (Some Gone) None))))

-- the blank: received, and zeros
abbrev pub no_card : Card
no_card =
    record {
      stage = Received;
      bench = 0;
      part = 0;
      minutes = 0;
      bench_fits = lit< tt;
      part_fits = lit< tt;
      minutes_fit = lit< tt;
    }

-- the word of a card
abbrev pub card_word : Card → ℕ
card_word c = stage_number c.stage + 256 * c.bench + 65536 * c.part + 4294967296 * c.minutes

-- the card at a stage, or the blank at none, with the other fields of a word
abbrev pub card_at : Option Stage → ℕ → Card
card_at None w = no_card
card_at (Some s) w =
    record {
      stage = s;
      bench = w / 256 % 256;
      part = w / 65536 % 65536;
      minutes = w / 4294967296 % 65536;
      bench_fits = mod-lt (w / 256) (lit< tt);
      part_fits = mod-lt (w / 65536) (lit< tt);
      minutes_fit = mod-lt (w / 4294967296) (lit< tt);
    }

-- the card of a word: a word of 281474976710656 or more has none, nor has one whose low byte is no stage's number
abbrev pub word_card : ℕ → Card
word_card w = cond (nat_lt w 281474976710656) (card_at (stage_of_number (w % 256)) w) no_card

-- the kind
abbrev pub card_coding : Coding Card
card_coding = record { blank = no_card; word = card_word; value = word_card }
