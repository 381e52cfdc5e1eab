use Rattle.std.proofs.Common.{◌≡◌, drop}
use Rattle.entries.specs.Items.{flags_of, with_items}
use Rattle.entries.proofs.items.ItemSet.union.Given as goal

abbrev pub invariant-loop-w : goal.invariant-loop-w
invariant-loop-w l = with_items (flags_of l.items) (drop l.w-index l.w-items) ≡ with_items (flags_of l.self) l.w-items
