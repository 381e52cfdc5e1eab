use Rattle.std.proofs.Common.{length, leb, ◌+◌, sym, ap, ◌∙◌, arith}
use Rattle.std.proofs.lemmas.List.{length-append, take_all}
use Rattle.std.proofs.lemmas.List.Sums.{prefix_len-le-length}
use Rattle.std.proofs.lemmas.Bool.{ltb-true, ltb-false}
use Rattle.rings.specs.Held.{held}
use Rattle.replicas.proofs.Scans.{rises-left, rises-right, upto-first, upto-second}
use Rattle.replicas.proofs.logs.scans.end_of.Goals as goal

pub end_in-requires : goal.end_in-requires
end_in-requires c = rises-right (λ r. r.version) _ _ _ (c.range.ensures ∙ take_all _ (held c.args.ring.now) (omega arith)) c.requires

pub end_in-requires-else-begins_upto : goal.end_in-requires-else-begins_upto
end_in-requires-else-begins_upto c = rises-left (λ r. r.version) _ _ _ (c.range.ensures ∙ take_all _ (held c.args.ring.now) (omega arith)) c.requires

pub overflow_add-result : goal.overflow_add-result
overflow_add-result c =
    let n = ap length (c.range.ensures ∙ take_all _ (held c.args.ring.now) (omega arith)) in
    let m = length-append c.range.result.0.now c.range.result.1.now in
    let b = prefix_len-le-length (λ r. leb r.version c.args.to) c.range.result.1.now in
    omega arith

pub returns-then-begins_upto : goal.returns-then-begins_upto
returns-then-begins_upto c =
    let is = c.range.ensures ∙ take_all _ (held c.args.ring.now) (omega arith) in
    ap (λ n. length c.range.result.0.now + n) c.end_in.ensures
    ∙ sym (upto-second c.args.to _ _ _ is c.requires (ltb-true _ _ (sym c.begins_upto.ensures ∙ c.if-begins_upto.true)))

pub returns-else-begins_upto : goal.returns-else-begins_upto
returns-else-begins_upto c =
    let is = c.range.ensures ∙ take_all _ (held c.args.ring.now) (omega arith) in
    let none = ltb-false _ _ (sym c.begins_upto.ensures ∙ c.if-begins_upto.false) in
    c.end_in-else-begins_upto.ensures ∙ sym (upto-first c.args.to _ _ _ is (omega arith))
