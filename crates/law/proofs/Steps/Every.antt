-- Every call keeps the invariant.
use Rattle.std.proofs.Common.{List}
use Rattle.entries.specs.Codings.{Coding, Faithful}
use Rattle.law.specs.declared.calls.Call.{Call}
use Rattle.law.specs.Letters.{Letter, letter_of}
use Rattle.law.specs.Letters.Letter.{begins, reads, writes, files, closes, drops, delivers, trims, restarts, versions, counts, unknown}
use Rattle.law.specs.Books.{BookModel}
use Rattle.law.specs.Calls.{version_call, count_call, step_by, step}
use Rattle.law.specs.History.{History}
use Rattle.law.proofs.Invariant.{view}
use Rattle.law.proofs.Steps.{at-site, Good, Kept, still}
use Rattle.law.proofs.Steps.Begins.{kept-begins}
use Rattle.law.proofs.Steps.Reads.{kept-reads}
use Rattle.law.proofs.Steps.Writes.{kept-writes}
use Rattle.law.proofs.Steps.Files.{kept-files}
use Rattle.law.proofs.Steps.Closes.{kept-closes}
use Rattle.law.proofs.Steps.Drops.{kept-drops}
use Rattle.law.proofs.Steps.Delivers.{kept-delivers}
use Rattle.law.proofs.Steps.Trims.{kept-trims}
use Rattle.law.proofs.Steps.Restarts.{kept-restarts}

module _ {V : Type 0} (k : Coding V) (back : Faithful k) (opening : List V) (b : BookModel) (h : History V) (g : Good k back opening b (view h)) (c : Call V) where
  kept_by : (l : Letter) → Kept k back opening h l c (step_by k l b c)
  unfolding step_by version_call count_call
  kept_by begins = kept-begins k back opening b h g c
  kept_by reads = kept-reads k back opening b h g c
  kept_by writes = kept-writes k back opening b h g c
  kept_by files = kept-files k back opening b h g c
  kept_by closes = kept-closes k back opening b h g c
  kept_by drops = kept-drops k back opening b h g c
  kept_by delivers = kept-delivers k back opening b h g c
  kept_by trims = kept-trims k back opening b h g c
  kept_by restarts = kept-restarts k back opening b h g c
  kept_by versions = at-site k (Kept k back opening h versions c) b c.site _ (still k back opening b h g) (λ _. still k back opening b h g)
  kept_by counts = still k back opening b h g
  kept_by unknown = still k back opening b h g

  pub kept : Kept k back opening h (letter_of c.letter) c (step k b c)
  unfolding step
  kept = kept_by (letter_of c.letter)
