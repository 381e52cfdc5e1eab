use Rattle.std.proofs.Common.{◌≡◌, arith}
use Rattle.std.proofs.lemmas.Grind.{common_steps}
use Rattle.entries.specs.Lists.{writes}
use Rattle.ledgers.specs.Index.{raised}
use Rattle.ledgers.proofs.Indexed.{tells-added}
use Rattle.ledgers.proofs.index.IndexFinder.note.Goals as goal

pub returns : goal.returns
returns c =
    let all : c.loop-w.self.last ≡ raised c.args.self.now.last (writes c.args.list.now) c.args.version = grind (arith, common_steps) in
    record {
      added = λ m tells e. rw all (tells-added m c.args.self.now.last (omega arith) tells (writes c.args.list.now) c.args.version e);
      index = all;
    }
