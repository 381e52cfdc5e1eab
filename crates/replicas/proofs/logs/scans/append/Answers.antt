use Rattle.std.proofs.Common.{◌++◌, get_or, take, sym, ap, ◌∙◌, arith}
use Rattle.std.proofs.lemmas.List.{take_more, length-take-le}
use Rattle.entries.proofs.Blanks.{no_write}
use Rattle.rings.specs.Held.{held}
use Rattle.replicas.specs.Records.{marked}
use Rattle.replicas.proofs.Turns.{push-more}
use Rattle.replicas.proofs.logs.scans.append.Goals as goal

pub loop-w-preserved : goal.loop-w-preserved
loop-w-preserved c =
    let set = c.args.set.now in
    let i = c.loop-w.w-index in
    let n = length-take-le i set (omega arith) in (
      c.push.ensures.holds
          ∙ push-more c.loop-w.ring (held c.args.ring.now) c.args.version (take i set) (get_or set i no_write) c.loop-w.invariant.0 (omega (arith, c.loop-w.invariant.1, c.requires))
          ∙ ap (λ ws. held c.args.ring.now ++ marked c.args.version ws) (sym (take_more set i no_write (omega arith))),
      c.push.ensures.room ∙ c.loop-w.invariant.1,
    )
