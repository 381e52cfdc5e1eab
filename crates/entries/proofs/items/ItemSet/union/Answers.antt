use Rattle.std.proofs.Common.{sym, ap, ◌∙◌, arith}
use Rattle.std.proofs.lemmas.List.{at_drop_all}
use Rattle.entries.specs.Lists.{writes}
use Rattle.entries.specs.Items.{flags_of, has, with_items}
use Rattle.entries.proofs.Flags.{has-union}
use Rattle.entries.proofs.items.ItemSet.union.Goals as goal

pub returns-clause-members : goal.returns-clause-members
returns-clause-members c = λ i h.
    let after = sym (at_drop_all (with_items (flags_of c.loop-w.items)) c.as_slice-w-items.result.now c.loop-w.w-index (omega arith))
    ∙ c.loop-w.invariant ∙ ap (with_items (flags_of c.args.self.now)) c.as_slice-w-items.ensures in
    ap (λ fs. has fs i) after ∙ has-union (flags_of c.args.self.now) (writes c.args.list.now) i (omega (arith, c.args.self.now.whole))
