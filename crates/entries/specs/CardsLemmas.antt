-- Cards: equality, and the two laws of their coding.
use Rattle.std.specs.Prelude.{◌≡◌, ℕ, ◌/◌, ◌%◌, ◌<◌, Some, None, Option, ◌≢◌, nat_lt, refl}
use Rattle.std.proofs.Common.{sym, ◌∙◌, ap, arith, lit<}
use mathlib.Core.HLevel.{is_prop→PathP}
use Rattle.std.proofs.Math.Bridge.{le_prop}
use Rattle.std.proofs.lemmas.Nat.{shr-shr}
use Rattle.std.proofs.lemmas.Bool.{cond-true, cond_both, lt-ltb, ltb-true}
use Rattle.std.proofs.lemmas.Bool.Decides.{nat_tests}
use Rattle.entries.specs.declared.values.Card.{Card}
use Rattle.entries.specs.declared.values.Stage.{Stage}
use Rattle.entries.specs.declared.values.Stage.TheVariants.{Received, Waiting, OnBench, Ready, Gone}
use Rattle.entries.specs.Codings.{Faithful, BlankElsewhere}
use Rattle.entries.specs.Cards.{card_coding, card_at, card_word, word_card, no_card, stage_number, stage_of_number}

-- two cards of one stage, bench, part and minutes are equal: each ghost fact has one proof at most
pub same-card : (a b : Card) → a.stage ≡ b.stage → a.bench ≡ b.bench → a.part ≡ b.part → a.minutes ≡ b.minutes → a ≡ b
same-card a b s n p m =
    λ i. record {
      stage = s i;
      bench = n i;
      part = p i;
      minutes = m i;
      bench_fits = is_prop→PathP (λ j. n j < 256) (λ j. le_prop) a.bench_fits b.bench_fits i;
      part_fits = is_prop→PathP (λ j. p j < 65536) (λ j. le_prop) a.part_fits b.part_fits i;
      minutes_fit = is_prop→PathP (λ j. m j < 65536) (λ j. le_prop) a.minutes_fit b.minutes_fit i;
    }

-- a stage's number is a byte
pub stage-fits : (s : Stage) → stage_number s < 256
stage-fits Received = lit< tt
stage-fits Waiting = lit< tt
stage-fits OnBench = lit< tt
stage-fits Ready = lit< tt
stage-fits Gone = lit< tt

-- the stage of a stage's number is the stage
pub stage-back : (s : Stage) → stage_of_number (stage_number s) ≡ Some s
stage-back Received = refl
stage-back Waiting = refl
stage-back OnBench = refl
stage-back Ready = refl
stage-back Gone = refl

-- the number of a number's stage is the number
pub number-back : (n : ℕ) (s : Stage) → stage_of_number n ≡ Some s → stage_number s ≡ n
number-back n s e = grind (arith, nat_tests)

-- a card that has the fields of a word below 281474976710656 is the word's card
pub card-of-word : (c : Card) (w : ℕ) → w < 281474976710656 → stage_of_number (w % 256) ≡ Some c.stage
    → c.bench ≡ w / 256 % 256 → c.part ≡ w / 65536 % 65536 → c.minutes ≡ w / 4294967296 % 65536 → c ≡ word_card w
card-of-word c w h s b p m =
    same-card c (card_at (Some c.stage) w) refl b p m
    ∙ ap (λ o. card_at o w) (sym s)
    ∙ sym (cond-true _ _ _ (lt-ltb w 281474976710656 h))

-- the word of the card that a word below 281474976710656 has at its stage is the word
pub word-of-card : (w : ℕ) (s : Stage) → w < 281474976710656 → stage_of_number (w % 256) ≡ Some s → card_word (card_at (Some s) w) ≡ w
word-of-card w s h e =
    let top : w / 4294967296 % 65536 ≡ w / 4294967296 = omega arith in
    omega (arith, number-back (w % 256) s e, shr-shr w 8 8, shr-shr w 16 16)

-- a card's word decodes to the card
pub faithful : Faithful card_coding
faithful c =
    let low : stage_number c.stage < 256 = stage-fits c.stage in
    sym (card-of-word c (card_word c) (omega arith)
    (let first : card_word c % 256 ≡ stage_number c.stage = omega arith in ap stage_of_number first ∙ stage-back c.stage)
    (omega arith) (omega arith) (omega arith))

-- at a stage the word codes a card, and at none its card is the blank
by-stage : (w : ℕ) (o : Option Stage) → w < 281474976710656 → stage_of_number (w % 256) ≡ o → ((c : Card) → card_word c ≢ w)
    → card_at o w ≡ no_card
by-stage w None h e none = refl
by-stage w (Some s) h e none = absurd (none (card_at (Some s) w) (word-of-card w s h e))

-- a word that codes no card decodes to the blank
pub elsewhere : BlankElsewhere card_coding
elsewhere w none =
    cond_both (nat_lt w 281474976710656) (card_at (stage_of_number (w % 256)) w) no_card (λ c. c ≡ no_card)
    (λ t. by-stage w (stage_of_number (w % 256)) (ltb-true w 281474976710656 t) refl none)
    (λ _. refl)
