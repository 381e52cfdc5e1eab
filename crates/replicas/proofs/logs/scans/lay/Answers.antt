use Rattle.std.proofs.Common.{◌≡◌, get_or, set, sym, ap, ◌∙◌, arith}
use Rattle.std.proofs.lemmas.List.{set_past}
use Rattle.replicas.specs.Records.{no_record}
use Rattle.replicas.proofs.Turns.{laid_more}
use Rattle.replicas.proofs.logs.scans.lay.Goals as goal
use Rattle.replicas.proofs.logs.scans.lay.Goals.{then-item-page, else-item-page}

pub loop-record-preserved : goal.loop-record-preserved
loop-record-preserved c =
    let r = get_or c.args.records.now c.loop-record.record-index no_record in
    let same = c.from-item.ensures in
    let is : c.if-item-page.page ≡ set c.loop-record.page r.item r.word =
    elim c.if-item-page.branch [ then-item-page w ↦ w.page-is ∙ ap (λ z. set c.loop-record.page z r.word) same | else-item-page w ↦ w.page-is ∙ sym (set_past c.loop-record.page r.item r.word (let past = w.if-item-page.false in omega arith)) ] in
    is ∙ ap (λ p. set p r.item r.word) c.loop-record.invariant ∙ sym (laid_more c.args.page.now c.args.records.now c.loop-record.record-index (omega arith))
