-- The law, proved.
use Rattle.std.proofs.Common.{◌≡◌, ℕ, ◌-◌, ◌≤◌, List, [], ◌∷◌, ◌++◌, map, length, get_or, replicate, sym, refl, ap, ◌∙◌, subst, subst₂, arith}
use Rattle.entries.specs.Codings.{Coding, Faithful}
use Rattle.replicas.specs.Model.{items_of}
use Rattle.ledgers.specs.Model.{head_of}
use Rattle.law.specs.declared.calls.Call.{Call}
use Rattle.law.specs.declared.calls.Answer.{Answer}
use Rattle.law.specs.Letters.{letter_of}
use Rattle.law.specs.Books.{BookModel, replica_of, site_version}
use Rattle.law.specs.Calls.{step}
use Rattle.law.specs.Layouts.{LayoutModel, OpeningValue, laid_out, after_lay, lay_all, book_in_use, opening_values}
use Rattle.law.specs.Runs.{book_after, answers_to, calls_made}
use Rattle.law.specs.History.{History, event, told, closed_at, version_seen, open_at, readings}
use Rattle.law.specs.Serial.{serial_order, serial_at, updates_to, after_all, Replays, last_put}
use Rattle.law.specs.Law.{Holds, Lawful, Led, KeepsLaw, Law, OpeningLaw, StepLaw, RunLaw}
use Rattle.law.specs.Steady.{StaysSteady}
use Rattle.law.proofs.Elements.{all-each}
use Rattle.law.proofs.Order.{chain-replays, chain-serial}
use Rattle.law.proofs.SameSite.{same-site-order}
use Rattle.law.proofs.Invariant.{view}
use Rattle.law.proofs.Tidy.{steady}
use Rattle.law.proofs.Steps.{Good}
use Rattle.law.proofs.Steps.Every.{kept}
use Rattle.law.proofs.Opening.{Laying, laying, good-open}

module _ {V : Type 0} (k : Coding V) (back : Faithful k) (opening : List V) where
  -- calls keep the invariant
  runs : (calls : List (Call V)) (b : BookModel) (h : History V) → Good k back opening b (view h)
      → Good k back opening (book_after k b calls) (view (told h calls (answers_to k b calls)))
  runs [] b h g = g
  runs (c ∷ cs) b h g = runs cs (step k b c).book (event (letter_of c.letter) c (step k b c).answer ∷ h) (kept k back opening b h g c)

  -- and the invariant is lawful
  lawful : (b : BookModel) (h : History V) → Good k back opening b (view h) → Lawful k opening h b.ledger b.replicas
  lawful b h g =
      let S : ℕ → List V = g.states in
      let i = g.inv in
      let serial : (v : ℕ) → v ≤ head_of b.ledger → S v ≡ serial_at opening h v =
      λ v l.
      sym (ap (λ z. after_all z (updates_to v (serial_order h))) (sym i.states.start)
      ∙ chain-serial k.blank S v 0 (head_of b.ledger) (serial_order h) (omega arith) l i.serial.chain) in
      record {
        wholly = i.answered.lossless;
        replay =
            subst (λ z. Replays k.blank z (serial_order h)) i.states.start
            (chain-replays k.blank S 0 (head_of b.ledger) (serial_order h) i.serial.chain);
        prefixes =
            λ s hs.
            let v : ℕ = site_version b s in
            let here : Holds k (replica_of b s) v (S v) =
            record {
              version = refl;
              words =
                  i.states.mirrors s hs v (omega arith) (omega arith)
                  ∙ ap (λ z. map k.word (S v) ++ replicate (items_of (replica_of b s) - z) (k.word k.blank)) (sym (i.states.sound v));
            } in
            subst (λ z. Holds k (replica_of b s) z (serial_at opening h z)) (sym (i.heard.reaches s hs))
            (subst (Holds k (replica_of b s) v) (serial v (i.states.reached s hs)) here);
        shown_right =
            all-each
            (λ r q. q.1 ∙ ap (λ z. last_put r.before.operations r.item (get_or z r.item k.blank)) (serial r.before.snapshot q.0))
            (readings h) i.answered.shown;
        same_site = same-site-order (length h) (open_at h) (closed_at h) (version_seen h) (head_of b.ledger) (serial_order h) i.same_site;
        decided = i.answered.decided;
      }

module _ {V : Type 0} (k : Coding V) where
  -- calls after calls
  told-on : (xs ys : List (Call V)) (b : BookModel) (h : History V)
      → told h (xs ++ ys) (answers_to k b (xs ++ ys)) ≡ told (told h xs (answers_to k b xs)) ys (answers_to k (book_after k b xs) ys)
  told-on [] ys b h = refl
  told-on (c ∷ xs) ys b h = told-on xs ys (step k b c).book _

  book-on : (xs ys : List (Call V)) (b : BookModel) → book_after k b (xs ++ ys) ≡ book_after k (book_after k b xs) ys
  book-on [] ys b = refl
  book-on (c ∷ xs) ys b = book-on xs ys (step k b c).book

  -- what stands in a list past the answers tells nothing
  told-past : (calls : List (Call V)) (b : BookModel) (h : History V) (rest : List (Answer V))
      → told h calls (answers_to k b calls ++ rest) ≡ told h calls (answers_to k b calls)
  told-past [] b h rest = refl
  told-past (c ∷ cs) b h rest = told-past cs (step k b c).book _ rest

  -- opening values after opening values
  lay-on : (os ps : List (OpeningValue V)) (y : LayoutModel) → lay_all k y (os ++ ps) ≡ lay_all k (lay_all k y os) ps
  lay-on [] ps y = refl
  lay-on (o ∷ os) ps y = lay-on os ps (after_lay k y o.item o.value)

  values-on : (os ps : List (OpeningValue V)) (p : List V) → opening_values k p (os ++ ps) ≡ opening_values k (opening_values k p os) ps
  values-on [] ps p = refl
  values-on (o ∷ os) ps p = values-on os ps _

  -- calls lead on from where a history led
  led_on : (b : BookModel) (calls : List (Call V)) (p : List V) (h : History V) → Led k p h b → Led k p (told h calls (answers_to k b calls)) (book_after k b calls)
  led_on b calls p h l =
      let start : BookModel = book_in_use k l.layout in
      record {
        layout = l.layout;
        laid = l.laid;
        calls = l.calls ++ calls;
        history =
            ap (λ z. told h calls (answers_to k z calls)) l.here
            ∙ ap (λ z. told z calls (answers_to k (book_after k start l.calls) calls)) l.history
            ∙ sym (told-on l.calls calls start []);
        here = ap (λ z. book_after k z calls) l.here ∙ sym (book-on l.calls calls start);
      }

  module _ (back : Faithful k) where
    -- a book that calls led to keeps the invariant
    led-good : (p : List V) (h : History V) (b : BookModel) → Led k p h b → Good k back p b (view h)
    led-good p h b l =
        let start : BookModel = book_in_use k l.layout in
        let open' : Laying k p l.layout = subst₂ (Laying k) (sym l.laid.values) (sym l.laid.made) (laying k l.laid.ledger l.laid.replicas l.laid.openings) in
        subst₂ (λ x y. Good k back p x (view y)) (sym l.here) (sym l.history)
        (runs k back p l.calls start [] (good-open k back p l.layout open'))

    keeps-law : (b : BookModel) (calls : List (Call V)) (rest : List (Answer V)) → KeepsLaw k b calls (answers_to k b calls ++ rest) (book_after k b calls)
    keeps-law b calls rest p h l =
        let l' = led_on b calls p h l in
        subst (λ z. Led k p z (book_after k b calls) × Lawful k p z (book_after k b calls).ledger (book_after k b calls).replicas) (sym (told-past calls b h rest))
        (l', lawful k back p _ _ (led-good p _ _ l'))

pub law : {V : Type 0} → Law V
law k back l rs os calls =
    lawful k back _ _ _ (runs k back _ calls _ [] (good-open k back _ _ (laying k l rs os)))

pub opening-law : {V : Type 0} → OpeningLaw V
opening-law k = (
  λ l rs. record { ledger = l; replicas = rs; openings = []; made = refl; values = refl },
  λ p y item value h.
      let o = record { item = item; value = value } ∷ [] in
      record {
        ledger = h.ledger;
        replicas = h.replicas;
        openings = h.openings ++ o;
        made = ap (λ z. after_lay k z item value) h.made ∙ sym (lay-on k h.openings o (laid_out k h.ledger h.replicas));
        values = ap (λ z. opening_values k z o) h.values ∙ sym (values-on k h.openings o _);
      },
  λ p y h. record { layout = y; laid = h; calls = []; history = refl; here = refl },
)

pub step-law : {V : Type 0} → StepLaw V
step-law k back b c = keeps-law k back b (c ∷ []) []

pub run-law : {V : Type 0} → RunLaw V
run-law k back b calls answers = keeps-law k back b (calls_made calls answers) _

pub stays-steady : {V : Type 0} → StaysSteady V
stays-steady k back p h b l = let g = led-good k back p h b l in steady k back p g.states b (view h) g.inv g.tidy
