use Rattle.std.proofs.Common.{◌-◌, drop, refl, ap, ◌∙◌}
use Rattle.replicas.specs.Logs.{records, sets_of}
use Rattle.replicas.proofs.Logged.{rest-sets, rest-kept, rising-drop}
use Rattle.replicas.proofs.logs.Log.rebase.Goals as goal

pub invariant_of-self : goal.invariant_of-self
invariant_of-self c =
    let l = c.args.self.now in
    let left = c.drop_first.ensures.holds ∙ ap (λ n. drop n (records l)) c.requires.end in
    record {
      kept = rw left (rest-kept l.base l.version (records l) l.kept c.args.to c.requires.kept);
      rising = rw (left, rest-sets l.base l.version (records l) l.kept c.args.to c.requires.kept) (rising-drop (c.args.to - l.base) (sets_of l) l.rising);
    }

pub returns : goal.returns
returns c =
    let l = c.args.self.now in
    let left = c.drop_first.ensures.holds ∙ ap (λ n. drop n (records l)) c.requires.end in
    record { at = refl; with = rw left (rest-sets l.base l.version (records l) l.kept c.args.to c.requires.kept); room = c.drop_first.ensures.room }
