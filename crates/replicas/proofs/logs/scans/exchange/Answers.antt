use Rattle.std.proofs.Common.{◌++◌, get_or, take, set, sym, ap, ◌∙◌, arith}
use Rattle.std.proofs.lemmas.List.{length-take-le}
use Rattle.entries.proofs.Blanks.{no_write}
use Rattle.rings.specs.Held.{held, pushed}
use Rattle.replicas.specs.Overlay.{laid, replaced}
use Rattle.replicas.specs.Records.{marked}
use Rattle.replicas.proofs.Turns.{push-more, laid-write, replaced-write, length-replaced}
use Rattle.replicas.proofs.logs.scans.exchange.Goals as goal

pub loop-w-preserved : goal.loop-w-preserved
loop-w-preserved c =
    let ws = c.args.set.now in
    let i = c.loop-w.w-index in
    let w = get_or ws i no_write in
    let page = c.args.page.now in
    let same = c.from-item.ensures in
    let n = length-take-le i ws (omega arith) in
    let m = length-replaced page (take i ws) in (
      ap (λ z. set c.loop-w.page z w.word) same ∙ ap (λ p. set p w.item w.word) c.loop-w.invariant.0 ∙ sym (laid-write ws i (omega arith) page),
      c.push.ensures.holds
          ∙ ap (λ z. pushed c.loop-w.ring (record { item = w.item; version = c.args.version; word = get_or c.loop-w.page z 0 })) same
          ∙ ap (λ p. pushed c.loop-w.ring (record { item = w.item; version = c.args.version; word = get_or p w.item 0 })) c.loop-w.invariant.0
          ∙ push-more c.loop-w.ring (held c.args.ring.now) c.args.version (replaced page (take i ws)) (record { item = w.item; word = get_or (laid page (take i ws)) w.item 0 })
          c.loop-w.invariant.1 (omega (arith, c.loop-w.invariant.2, c.requires.room))
          ∙ ap (λ vs. held c.args.ring.now ++ marked c.args.version vs) (sym (replaced-write ws i (omega arith) page)),
      c.push.ensures.room ∙ c.loop-w.invariant.2,
    )
