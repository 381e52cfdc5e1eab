use Rattle.std.proofs.Common.{length, ap, ◌∙◌, arith}
use Rattle.std.proofs.lemmas.List.{length-take-le}
use Rattle.std.proofs.lemmas.Bool.{lt-ltb, or_left, or_right}
use Rattle.entries.specs.Rising.{rising}
use Rattle.entries.specs.Lists.{writes}
use Rattle.entries.proofs.Puts.{rising-put}
use Rattle.entries.proofs.Arrays.{put-over, put-between, put-taken}
use Rattle.entries.proofs.lists.WriteList.put.Goals as goal

-- over an earlier write of the item
pub invariant_of-self-clause-sorted : goal.invariant_of-self-clause-sorted
invariant_of-self-clause-sorted c =
    let l = c.args.self.now in
    let s = c.in-Ok.ensures in
    let h = length-take-le l.len l.slots (omega arith) in
    let is = put-over l.len l.slots c.args.item c.args.word c.in-Ok.at s.1 l.sorted s.0 (omega (arith, s.2)) in
    ap rising is ∙ rising-put c.args.item c.args.word (writes l) l.sorted

pub returns-in-Ok : goal.returns-in-Ok
returns-in-Ok c =
    let l = c.args.self.now in
    let s = c.in-Ok.ensures in
    let h = length-take-le l.len l.slots (omega arith) in
    let done = put-taken (writes l) _ c.args.item c.args.word (or_left _ _ s.0)
    (put-over l.len l.slots c.args.item c.args.word c.in-Ok.at s.1 l.sorted s.0 (omega (arith, s.2))) in
    record { answer = done.0; after = done.1; found = λ _. done.2 }

-- between the writes of its neighbours
pub invariant_of-self-in-Err-clause-sorted : goal.invariant_of-self-in-Err-clause-sorted
invariant_of-self-in-Err-clause-sorted c =
    let l = c.args.self.now in
    let s = c.in-Err.ensures in
    let is = put-between l.len l.slots c.args.item c.args.word c.in-Err.at s.1 _ s.0 c.insert_at.ensures in
    ap rising is ∙ rising-put c.args.item c.args.word (writes l) l.sorted

pub returns-else-len-ge-MOST : goal.returns-else-len-ge-MOST
returns-else-len-ge-MOST c =
    let l = c.args.self.now in
    let s = c.in-Err.ensures in
    let room = lt-ltb (length (writes l)) 8 (omega (arith, length-take-le l.len l.slots (omega arith))) in
    let done = put-taken (writes l) _ c.args.item c.args.word (or_right _ _ room)
    (put-between l.len l.slots c.args.item c.args.word c.in-Err.at s.1 _ s.0 c.insert_at.ensures) in
    record { answer = done.0; after = done.1; found = λ _. done.2 }
