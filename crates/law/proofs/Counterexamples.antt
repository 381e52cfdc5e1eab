-- The histories of broken rules, held to the law.
use Rattle.std.proofs.Common.{◌≡◌, ℕ, ◌<◌, refl, ap, arith}
use Rattle.entries.specs.Counts.{count_coding, no_count}
use Rattle.law.specs.Law.{SameSiteOrder}
use Rattle.law.specs.Cases.{five}
use Rattle.law.specs.Counterexamples.{DoesNotReplay, reads_not_certified, reads_at_site_version, closes_before_delivery, BrokenRulesBreakTheLaw}

-- the count 5 is not the blank: their words differ
five-not-blank : five ≡ no_count → ⊥
five-not-blank e = let words : ◌≡◌ {A = ℕ} 5 0 = ap count_coding.word e in omega arith

-- nor is the blank the count 5
blank-not-five : no_count ≡ five → ⊥
blank-not-five e = let words : ◌≡◌ {A = ℕ} 0 5 = ap count_coding.word e in omega arith

-- the second update reads item 2, which the first wrote, as blank
uncertified-reads : DoesNotReplay reads_not_certified
uncertified-reads replay = five-not-blank replay.1.0.0

-- the reader stands before the update, where its second read is not 5
site-version-reads : DoesNotReplay reads_at_site_version
site-version-reads replay = blank-not-five replay.0.1.0

-- the update was closed at time 3 and stands second, the reader began at time 4 and stands first
early-close : SameSiteOrder count_coding closes_before_delivery → ⊥
early-close order = let second-first : 1 < 0 = order 1 0 3 _ _ refl refl (omega arith) refl refl (omega arith) in omega arith

-- each history is whole, and breaks its part of the law
pub broken-rules-break-the-law : BrokenRulesBreakTheLaw
broken-rules-break-the-law =
    record {
      no_call_is_lost = (refl, refl, refl);
      uncertified_reads_do_not_replay = uncertified-reads;
      reads_at_site_version_do_not_replay = site-version-reads;
      early_close_breaks_same_site_order = early-close;
    }
