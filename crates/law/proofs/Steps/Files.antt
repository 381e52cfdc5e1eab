-- File keeps the invariant.
use Rattle.std.proofs.Common.{◌≡◌, ℕ, suc, ◌+◌, ◌-◌, ◌<◌, ◌≤◌, Bool, true, false, cond, ◌&&◌, eqb, List, [], ◌∷◌, map, length, get_or, set, is_some, is_ok, Some, None, Ok, Err, Option, Result, sym, refl, ap, ◌∙◌, subst, arith}
use mathlib.Core.Path.{fun_ext}
use Rattle.std.specs.List.{AllByRecursion}
use Rattle.std.proofs.lemmas.Bool.{cond-true, cond-false, lt-ltb, le-ltb, or_left}
use Rattle.entries.specs.declared.writes.Write.{Write}
use Rattle.entries.specs.Codings.{Coding, Faithful}
use Rattle.entries.specs.Items.{has, with_items}
use Rattle.replicas.specs.Overlay.{over}
use Rattle.ledgers.specs.declared.ledger.LedgerRefusal.{LedgerRefusal}
use Rattle.ledgers.specs.declared.ledger.LedgerRefusal.TheVariants.{BelowFloor, Conflict, NoWrites, LastVersion, Full}
use Rattle.ledgers.specs.Model.{LedgerModel, head_of, newest, newest_answer, add_answer, after_add, last_version}
use Rattle.ledgers.specs.Filing.{file_answer, after_file}
use Rattle.ledgers.proofs.Fetches.{add-keeps-sets}
use Rattle.law.specs.declared.calls.Call.{Call}
use Rattle.law.specs.declared.calls.Answer.{Answer}
use Rattle.law.specs.declared.codes.Code.{Code}
use Rattle.law.specs.declared.codes.Code.TheVariants.{Accepted, NoSuchSite, NoSuchSlot, WrongState, SnapshotTrimmed, Conflicting, NumbersUsedUp, LedgerFull}
use Rattle.law.specs.Letters.Letter.{files}
use Rattle.law.specs.Slots.{SlotModel, slot_count}
use Rattle.law.specs.Slots.SlotModel.{idle, opened, filed}
use Rattle.law.specs.Books.{BookModel, site_count, row_at, with_ledger, with_slot, settled, counted}
use Rattle.law.specs.Calls.{plain, file_by, file_on, file_call}
use Rattle.law.specs.History.{History, Transaction, event, noted, accepting, filing, is_update, open_at, closed_at, version_seen, floor_seen, accepted, readings, filings, whole}
use Rattle.law.specs.History.{Accepted as AcceptedTransaction}
use Rattle.law.specs.Serial.{place, ordered, after, Shows}
use Rattle.law.specs.Certification.{touches, update_count, newest_conflict, verdict, due_by, due}
use Rattle.law.proofs.Elements.{all-each}
use Rattle.law.proofs.Touching.{names_by, has-with}
use Rattle.law.proofs.Tracking.{Agrees, same-by-words}
use Rattle.law.proofs.Order.{chain-below, chain-rising}
use Rattle.law.proofs.States.{certified}
use Rattle.law.proofs.SameSite.{SameSite, Earlier, from-slot, from-none, same-site-moves, same-site-reader, same-site-update}
use Rattle.law.proofs.OpenSlots.{Matches, slots-states}
use Rattle.law.proofs.Invariant.{View, view, Inv, Answered, least-256, inv-ticked, inv-settled, inv-counted, serial-reader, next, next-same, add-head, states-add, serial-update, answered-add, heard-add}
use Rattle.law.proofs.Tidy.{tidy-settled, tidy-counted, loose-row, loose-add}
use Rattle.law.proofs.Verdicts.{verdict_of, due-told, filed-free, free-sets, added-early, never-empty}
use Rattle.law.proofs.Steps.{at_slot, Good, Kept, still, OpenHere, here-matches, slot_view, moved-slots, inv-ended, ended-tidy}

module _ {V : Type 0} (k : Coding V) (back : Faithful k) (opening : List V) (b : BookModel) (h : History V) (g : Good k back opening b (view h)) (c : Call V) where
  abbrev S : ℕ → List V
  S = g.states

  abbrev l : LedgerModel
  l = b.ledger

  -- an F at a slot without an open transaction is no filing
  module _ (eo : open_at h c.site c.slot ≡ None) where
    -- what is told of it, by what is open at the slot
    abbrev unfiled : Answer V → Option (Transaction V) → View V
    unfiled a o =
        record {
          clock = suc (length h);
          opens = open_at h;
          closed = closed_at h;
          versions = version_seen h;
          floor = floor_seen h;
          accepts = accepted h;
          reads = readings h;
          files = noted (filing (event files c a) h) o (filings h);
          wholly = whole h;
        }

    no-filing : (a : Answer V) → Good k back opening b (unfiled a (open_at h c.site c.slot))
    no-filing a = subst (λ o. Good k back opening b (unfiled a o)) (sym eo) (still k back opening b h g)

  -- an accepted filing, the transaction that it accepts, and what is told of it by what was open at the slot
  abbrev yes : ℕ → Answer V
  yes n = plain k Accepted n

  abbrev accepting-at : ℕ → Transaction V → AcceptedTransaction V
  accepting-at n t = accepting (event files c (yes n)) (length h) t

  abbrev accept_view : ℕ → Option (Transaction V) → View V
  accept_view n z =
      record {
        clock = suc (length h);
        opens = λ s' j'. cond (eqb c.site s' && eqb c.slot j') None (open_at h s' j');
        closed = closed_at h;
        versions = version_seen h;
        floor = floor_seen h;
        accepts = noted (accepting-at n) z (accepted h);
        reads = readings h;
        files = noted (filing (event files c (yes n)) h) z (filings h);
        wholly = is_some z && whole h;
      }

  module _ (hs : c.site < site_count b) (hj : c.slot < slot_count) where
    module _ (s : ℕ) (ws : List Write) (items : List Bool) (t : Transaction V) (eo : open_at h c.site c.slot ≡ Some t)
        (o : OpenHere k back opening b h g c.site c.slot hs hj s ws items t) where
      abbrev touched : List Bool
      touched = with_items items ws

      -- the items read or written are those of the operations
      touched-told : (j : ℕ) → has touched j ≡ touches t.operations j
      touched-told j =
          let m256 : length opening ≤ 256 = subst (λ z. z ≤ 256) g.inv.states.items (least-256 b.replicas) in
          let fl = o.tracks.flags in
          has-with items ws j (all-each (λ w q. omega arith) ws o.tracks.below) ∙ o.tracks.touching j

      -- what the filing is due, told by the slot and the ledger
      due-here : (a : Answer V)
          → due l.capacity (filing (event files c a) h t)
          ≡ due_by (names_by (λ i. true) ws) s l.floor (newest_conflict (touches t.operations) s (accepted h)) (head_of l) l.capacity
      due-here a =
          let nc : ℕ → Option ℕ = λ x. newest_conflict (touches t.operations) x (accepted h) in
          ap (λ z. due_by z t.snapshot (floor_seen h) (nc t.snapshot) (update_count (accepted h)) l.capacity) (sym (o.tracks.writing (λ i. true)))
          ∙ ap (λ z. due_by (names_by (λ i. true) ws) z (floor_seen h) (nc z) (update_count (accepted h)) l.capacity) o.snapshot
          ∙ ap (λ z. due_by (names_by (λ i. true) ws) s z (nc s) (update_count (accepted h)) l.capacity) g.inv.heard.floors
          ∙ ap (λ z. due_by (names_by (λ i. true) ws) s l.floor (nc s) z l.capacity) g.inv.serial.updates

      -- one more filing, answered as it was due
      answered-more : (a : Answer V) → verdict a.code a.number ≡ due l.capacity (filing (event files c a) h t)
          → Answered k back opening S l (readings h) (noted (filing (event files c a) h) (Some t) (filings h)) (whole h)
      answered-more a e =
          record { lossless = g.inv.answered.lossless; shown = g.inv.answered.shown; decided = (e, g.inv.answered.decided) }

      -- a transaction without writes is accepted at its snapshot
      module _ (none : ws ≡ []) where
        abbrev reader : AcceptedTransaction V
        reader = accepting-at s t

        inv-reader : Inv k back opening S (with_slot b c.site c.slot idle) (accept_view s (Some t))
        inv-reader =
            let sn = o.snapshot in
            let kn = o.known in
            let re = g.inv.states.reached c.site hs in
            let hr = g.inv.heard.reaches c.site hs in
            let follow = o.tracks.follows (S s) (g.inv.states.sound s) (λ j z. refl) in
            let same : after (S s) t.operations ≡ S s =
            same-by-words k back _ _ (follow.1 ∙ ap (λ z. over (map k.word (S s)) z) none) in
            let ro : is_update reader ≡ false = le-ltb t.snapshot s (omega arith) in
            let pl : place reader ≡ s = cond-false (is_update reader) _ _ ro ∙ sn in
            let wait = g.inv.same_site.waiting c.site c.slot t eo in
            let chain = g.inv.serial.chain in
            record {
              states = g.inv.states;
              slots = moved-slots k back opening b h g c.site c.slot hs hj idle None tt;
              heard = g.inv.heard;
              serial =
                  serial-reader k back opening S l (accepted h) reader g.inv.serial ro (omega arith)
                  (subst (λ z. Shows k.blank (S z) t.operations) (sym pl) follow.0)
                  (subst (λ z. after (S z) t.operations ≡ S z) (sym pl) same);
              same_site =
                  same-site-moves (length h) (open_at h) (closed_at h) (version_seen h) (head_of l) _
                  (same-site-reader (length h) (open_at h) (closed_at h) (version_seen h) (head_of l) (ordered (accepted h)) g.inv.same_site reader ro refl wait.0 (omega arith)
                  (subst (λ z. AllByRecursion (Earlier (closed_at h) c.site t.began z) (ordered (accepted h))) (sn ∙ sym pl) wait.1)
                  (chain-rising k.blank S 0 (head_of l) (ordered (accepted h)) chain))
                  _
                  (from-slot (length h) (open_at h) (version_seen h) c.site c.slot None (from-none (length h) (open_at h) (version_seen h) c.site c.slot));
              answered =
                  answered-more (yes s)
                  (sym (due-here (yes s) ∙ ap (λ z. due_by (names_by (λ i. true) z) s l.floor (newest_conflict (touches t.operations) s (accepted h)) (head_of l) l.capacity) none));
            }

        kept-reader : Good k back opening (settled (with_slot b c.site c.slot idle) c.site) (accept_view s (open_at h c.site c.slot))
        kept-reader =
            record {
              states = S;
              inv =
                  subst (λ z. Inv k back opening S (settled (with_slot b c.site c.slot idle) c.site) (accept_view s z)) (sym eo)
                  (inv-settled k back opening S _ _ inv-reader c.site hs);
              tidy = ended-tidy k back opening b h g c.site c.slot hs hj idle tt;
            }

    module _ (s : ℕ) (w : Write) (ws : List Write) (items : List Bool) (t : Transaction V) (eo : open_at h c.site c.slot ≡ Some t)
        (o : OpenHere k back opening b h g c.site c.slot hs hj s (w ∷ ws) items t) where
      abbrev items' : List Bool
      items' = with_items items (w ∷ ws)

      -- the history and the ledger see the same newest conflict
      same-newest : l.floor ≤ s → newest_conflict (touches t.operations) s (accepted h) ≡ newest l s items'
      same-newest low =
          ap (λ (P : ℕ → Bool). newest_conflict P s (accepted h)) (sym (fun_ext (touched-told s (w ∷ ws) items t eo o)))
          ∙ g.inv.serial.conflicts s low items'

      -- so the ledger's answer is what was due
      due-is : (a : Answer V) (r : Result ℕ LedgerRefusal) → file_answer l s items' (w ∷ ws) ≡ r → verdict_of l s r ≡ due l.capacity (filing (event files c a) h t)
      due-is a r e =
          ap (verdict_of l s) (sym e) ∙ sym (due-here s (w ∷ ws) items t eo o a ∙ due-told l s items' w ws _ same-newest)

      -- turned away: the slot is idle
      away : (code : Code) (number : ℕ) → verdict code number ≡ due l.capacity (filing (event files c (plain k code number)) h t)
          → Good k back opening (counted (settled (with_slot b c.site c.slot idle) c.site))
          (slot_view k back opening b h g c.site c.slot hs hj None (readings h) (noted (filing (event files c (plain k code number)) h) (open_at h c.site c.slot) (filings h)) (is_some (open_at h c.site c.slot) && whole h))
      away code number e =
          record {
            states = S;
            inv =
                subst
                (λ z.
                Inv k back opening S (counted (settled (with_slot b c.site c.slot idle) c.site))
                (slot_view k back opening b h g c.site c.slot hs hj None (readings h) (noted (filing (event files c (plain k code number)) h) z (filings h)) (is_some z && whole h)))
                (sym eo)
                (inv-counted k back opening S _ _ (inv-ended k back opening b h g c.site c.slot hs hj _ (whole h) (answered-more s (w ∷ ws) items t eo o (plain k code number) e)));
            tidy = tidy-counted _ (ended-tidy k back opening b h g c.site c.slot hs hj idle tt);
          }

      -- refused, but still open
      stays : (code : Code) (number : ℕ) → verdict code number ≡ due l.capacity (filing (event files c (plain k code number)) h t)
          → Good k back opening b
          (record {
            clock = suc (length h);
            opens = open_at h;
            closed = closed_at h;
            versions = version_seen h;
            floor = floor_seen h;
            accepts = accepted h;
            reads = readings h;
            files = noted (filing (event files c (plain k code number)) h) (open_at h c.site c.slot) (filings h);
            wholly = whole h;
          })
      stays code number e =
          let calm = inv-ticked k back opening S b (view h) g.inv in
          record {
            states = S;
            inv =
                record {
                  states = calm.states;
                  slots = calm.slots;
                  heard = calm.heard;
                  serial = calm.serial;
                  same_site = calm.same_site;
                  answered =
                      subst (λ z. Answered k back opening S l (readings h) (noted (filing (event files c (plain k code number)) h) z (filings h)) (whole h)) (sym eo)
                      (answered-more s (w ∷ ws) items t eo o (plain k code number) e);
                };
            tidy = g.tidy;
          }

      -- accepted as the next version
      module _ (n : ℕ) (ok : file_answer l s items' (w ∷ ws) ≡ Ok n) where
        abbrev free : (l.floor ≤ s) × (newest_answer l s items' ≡ Ok None) × (add_answer l (w ∷ ws) ≡ Ok n)
        free = filed-free l s items' w ws n ok

        abbrev S' : ℕ → List V
        S' = next k back opening S l t.operations

        abbrev l' : LedgerModel
        l' = after_add (w ∷ ws) l

        -- nothing that the transaction read has changed since its snapshot
        agree : Agrees k back items (S (head_of l)) (S s)
        agree j e =
            let kn = o.known in
            let re = g.inv.states.reached c.site hs in
            let d : s + (head_of l - s) ≡ head_of l = omega arith in
            let m256 : length opening ≤ 256 = subst (λ z. z ≤ 256) g.inv.states.items (least-256 b.replicas) in
            let fl = o.tracks.flags in
            let there : has items' j ≡ true =
            has-with items (w ∷ ws) j (all-each (λ x q. omega arith) (w ∷ ws) o.tracks.below) ∙ or_left (has items j) _ e in
            ap (λ z. get_or (S z) j k.blank) (sym d)
            ∙ certified k (length opening) back S g.inv.states.sound l s items' g.inv.states.leads free.0
            (free-sets l s items' w ws free.0 free.1) (head_of l - s) (omega arith) j there

        abbrev update : AcceptedTransaction V
        update = accepting-at n t

        number_is : n ≡ head_of l + 1
        number_is = (add-keeps-sets l (w ∷ ws) n free.2).0

        inv-update : Inv k back opening S' (with_slot (with_ledger b l') c.site c.slot (filed n)) (accept_view n (Some t))
        inv-update =
            let sn = o.snapshot in
            let kn = o.known in
            let re = g.inv.states.reached c.site hs in
            let nu = number_is in
            let follow = o.tracks.follows (S (head_of l)) (g.inv.states.sound (head_of l)) agree in
            let up : is_update update ≡ true = lt-ltb t.snapshot n (omega arith) in
            let chain = g.inv.serial.chain in
            let wait = g.inv.same_site.waiting c.site c.slot t eo in
            record {
              states = states-add k back opening S l t.operations (w ∷ ws) n free.2 b.replicas g.inv.states follow.1 o.tracks.below;
              slots =
                  slots-states k back (length opening) S b.replicas _ _ (moved-slots k back opening b h g c.site c.slot hs hj (filed n) None tt) S' (head_of l)
                  (next-same k back opening S l t.operations) g.inv.states.reached;
              heard = heard-add k back opening S l t.operations (w ∷ ws) n free.2 b.replicas (floor_seen h) (version_seen h) g.inv.heard;
              serial =
                  serial-update k back opening S l t.operations (w ∷ ws) n free.2 (accepted h) update g.inv.serial refl up number_is follow.0 o.tracks.writing;
              same_site =
                  subst (λ z. SameSite (suc (length h)) (λ s' j'. cond (eqb c.site s' && eqb c.slot j') None (open_at h s' j')) (closed_at h) (version_seen h) z (ordered (update ∷ accepted h)))
                  (sym (add-head k back opening S l t.operations (w ∷ ws) n free.2))
                  (same-site-moves (length h) (open_at h) (closed_at h) (version_seen h) (head_of l + 1) _
                  (same-site-update (length h) (open_at h) (closed_at h) (version_seen h) (head_of l) (ordered (accepted h)) g.inv.same_site update up number_is wait.0
                  (chain-below k.blank S 0 (head_of l) (ordered (accepted h)) chain) (chain-rising k.blank S 0 (head_of l) (ordered (accepted h)) chain))
                  _
                  (from-slot (length h) (open_at h) (version_seen h) c.site c.slot None (from-none (length h) (open_at h) (version_seen h) c.site c.slot)));
              answered =
                  answered-add k back opening S l t.operations (w ∷ ws) n free.2 (readings h) _ (whole h)
                  (answered-more s (w ∷ ws) items t eo o (yes n) (due-is (yes n) (Ok n) ok));
            }

        kept-update : Good k back opening (settled (with_slot (with_ledger b (after_file s items' (w ∷ ws) l)) c.site c.slot (filed n)) c.site) (accept_view n (open_at h c.site c.slot))
        kept-update =
            subst (λ z. Good k back opening (settled (with_slot (with_ledger b z) c.site c.slot (filed n)) c.site) (accept_view n (open_at h c.site c.slot)))
            (sym (cond-true (is_ok (file_answer l s items' (w ∷ ws))) l' l (ap is_ok ok)))
            (record {
              states = S';
              inv =
                  subst (λ z. Inv k back opening S' (settled (with_slot (with_ledger b l') c.site c.slot (filed n)) c.site) (accept_view n z)) (sym eo)
                  (inv-settled k back opening S' _ _ inv-update c.site hs);
              tidy =
                  tidy-settled k back opening S' _ _ inv-update c.site hs
                  (loose-add _ c.site w ws n free.2 (added-early l s items' w ws n free.2)
                  (loose-row b c.site (set (row_at b c.site) c.slot (filed n)) g.tidy));
            })

      -- by what the ledger answers
      file-by : (r : Result ℕ LedgerRefusal) → file_answer l s items' (w ∷ ws) ≡ r
          → Kept k back opening h files c (file_by k b c.site c.slot s (after_file s items' (w ∷ ws) l) r)
      unfolding file_by
      file-by (Ok n) e = kept-update n e
      file-by (Err (BelowFloor f)) e = away SnapshotTrimmed f (due-is (plain k SnapshotTrimmed f) _ e)
      file-by (Err (Conflict v)) e = away Conflicting v (due-is (plain k Conflicting v) _ e)
      file-by (Err NoWrites) e = absurd (never-empty l s items' w ws e)
      file-by (Err LastVersion) e = stays NumbersUsedUp last_version (due-is (plain k NumbersUsedUp last_version) _ e)
      file-by (Err Full) e = stays LedgerFull l.capacity (due-is (plain k LedgerFull l.capacity) _ e)

    file-on : (x : SlotModel) (o : Option (Transaction V)) → open_at h c.site c.slot ≡ o
        → Matches (OpenHere k back opening b h g c.site c.slot hs hj) x o → Kept k back opening h files c (file_on k b c.site c.slot x)
    unfolding file_on
    file-on idle (Some t) eo m = absurd m
    file-on idle None eo m = no-filing eo (plain k WrongState 0)
    file-on (filed n) (Some t) eo m = absurd m
    file-on (filed n) None eo m = no-filing eo (plain k WrongState 2)
    file-on (opened s [] items) None eo m = absurd m
    file-on (opened s (w ∷ ws) items) None eo m = absurd m
    file-on (opened s [] items) (Some t) eo m = kept-reader s [] items t eo m refl
    file-on (opened s (w ∷ ws) items) (Some t) eo m = file-by s w ws items t eo m _ refl

  pub kept-files : Kept k back opening h files c (file_call k b c.site c.slot)
  unfolding file_call
  kept-files =
      at_slot k (Kept k back opening h files c) b c.site c.slot _
      (λ q. no-filing (g.inv.slots.outside c.site c.slot (λ a _. omega arith)) (plain k NoSuchSite (site_count b)))
      (λ q. no-filing (g.inv.slots.outside c.site c.slot (λ _ a. omega arith)) (plain k NoSuchSlot slot_count))
      (λ hs hj. file-on hs hj _ _ refl (here-matches k back opening b h g c.site c.slot hs hj))
