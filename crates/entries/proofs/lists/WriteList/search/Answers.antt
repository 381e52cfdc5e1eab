use Rattle.std.proofs.Common.{ltb, sym, ap, ◌∙◌, arith}
use Rattle.std.proofs.lemmas.List.{length-take-le, get_or-take}
use Rattle.std.proofs.lemmas.List.Sums.{prefix_len-le-length}
use Rattle.entries.specs.Lists.{writes}
use Rattle.entries.proofs.Blanks.{no_write}
use Rattle.entries.proofs.Searches.{item-there, item-nowhere}
use Rattle.entries.proofs.lists.WriteList.search.Goals as goal
use Rattle.entries.proofs.lists.WriteList.search.Goals.{else-at-self-via-then-at-self+else-self-at, else-at-self-via-else-at-self}

pub returns-then-self-at : goal.returns-then-self-at
returns-then-self-at c =
    let l = c.args.self.now in
    let h = length-take-le l.len l.slots (omega arith) in
    let at = c.place-at.result in
    let same = ap (λ w. w.item) (get_or-take l.len l.slots at no_write c.if-at-self.true) in
    (item-there (writes l) c.args.item at (omega arith) (same ∙ c.if-self-at.true), c.place-at.ensures, omega arith)

pub returns-else-at-self : goal.returns-else-at-self
returns-else-at-self c =
    let l = c.args.self.now in
    let h = length-take-le l.len l.slots (omega arith) in
    let at = c.place-at.result in
    let upto = prefix_len-le-length (λ w. ltb w.item c.args.item) (writes l) in
    elim c.else-at-self.branch [
      | else-at-self-via-then-at-self+else-self-at w ↦ (
          let same = ap (λ w. w.item) (get_or-take l.len l.slots at no_write w.if-at-self.true) in
          (item-nowhere (writes l) l.sorted c.args.item at c.place-at.ensures (λ _ e. w.if-self-at.false (sym same ∙ e)), c.place-at.ensures, omega arith)
          )
      | else-at-self-via-else-at-self w ↦ (item-nowhere (writes l) l.sorted c.args.item at c.place-at.ensures (λ less. absurd (omega arith)), c.place-at.ensures, omega arith)
    ]
