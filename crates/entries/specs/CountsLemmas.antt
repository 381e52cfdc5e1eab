-- Counts: equality, and the two laws of their coding.
use Rattle.std.specs.Prelude.{◌≡◌, ℕ, ◌<◌, pos, negsuc, ◌≤ℤ◌, nat_lt, refl}
use Rattle.std.proofs.Common.{sym, ◌∙◌, arith, to_z, of_z}
use mathlib.Core.HLevel.{is_prop→PathP}
use Rattle.std.proofs.Props.{props}
use Rattle.std.specs.Int.{w32}
use Rattle.std.proofs.lemmas.Bool.{cond-true, cond_both, lt-ltb, ltb-true}
use Rattle.std.proofs.lemmas.Int.{of_z-to_z, ints}
use Rattle.entries.specs.declared.values.Count.{Count}
use Rattle.entries.specs.Codings.{Faithful, BlankElsewhere}
use Rattle.entries.specs.Counts.{count_coding, count_of, word_count, no_count}

-- two counts of one number are equal: each ghost fact has one proof at most
pub same_count : (a b : Count) → a.number ≡ b.number → a ≡ b
same_count a b e =
    λ i. record {
      number = e i;
      low = is_prop→PathP (λ j. negsuc 2147483647 ≤ℤ e j) (λ j. hlevel props) a.low b.low i;
      high = is_prop→PathP (λ j. e j ≤ℤ pos 2147483647) (λ j. hlevel props) a.high b.high i;
    }

-- a count that has the number of a word below 4294967296 is the word's count
pub count-of-word : (c : Count) (w : ℕ) → w < 4294967296 → c.number ≡ to_z w32 w → c ≡ word_count w
count-of-word c w h e = same_count c (count_of w) e ∙ sym (cond-true _ _ _ (lt-ltb w 4294967296 h))

-- a count's word decodes to the count
pub faithful : Faithful count_coding
faithful c = sym (count-of-word c (of_z w32 c.number) (omega (arith, ints)) (omega (arith, ints)))

-- a word that codes no count decodes to the blank
pub elsewhere : BlankElsewhere count_coding
elsewhere w none =
    cond_both (nat_lt w 4294967296) (count_of w) no_count (λ c. c ≡ no_count)
    (λ t. absurd (none (count_of w) (of_z-to_z w32 w (ltb-true w 4294967296 t))))
    (λ _. refl)
