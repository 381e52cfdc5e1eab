use Rattle.entries.proofs.Inserts.{inserted-by-turning}
use Rattle.entries.proofs.lists.calls.insert_at.Goals as goal

pub returns : goal.returns
returns c =
    inserted-by-turning c.args.slots.now c.args.len c.args.at c.args.write c.rotate_right.new.self
    c.requires.place c.requires.room c.rotate_right.ensures.after
