-- Operations run on a serial book, and what an open slot knows of them.
use Rattle.std.proofs.Common.{◌≡◌, ℕ, ◌<◌, ◌≤◌, Bool, true, false, ◌||◌, eqb, ltb, List, [], ◌∷◌, ◌++◌, map, length, get_or, set, replicate, Some, None, unwrap_or, sym, refl, ap, ◌∙◌, arith}
use Rattle.std.proofs.lemmas.List.{length-set, length-map, get_or-set_same, map-set, get_or-map}
use Rattle.std.proofs.lemmas.Bool.{cond_both}
use Rattle.std.proofs.Math.Bool.{or-false}
use Rattle.entries.specs.declared.writes.Write.{Write}
use Rattle.entries.specs.Codings.{Coding, Faithful}
use Rattle.entries.specs.Writes.{names, word_of, put_in}
use Rattle.entries.specs.Items.{has}
use Rattle.replicas.specs.Overlay.{over}
use Rattle.replicas.proofs.Overlays.{get_or-set}
use Rattle.replicas.proofs.History.{over_word}
use Rattle.law.specs.History.{Operation}
use Rattle.law.specs.History.Operation.{shown, put}
use Rattle.law.specs.Serial.{after, Shows, last_put}
use Rattle.law.specs.Certification.{touches, writes_one_of}
use Rattle.law.proofs.Overlay.{Within, over-put}
use Rattle.law.proofs.Touching.{names_by, names-put, has-none, has_more, writes_more, touching-own, touching-read, touching-put}

module _ {V : Type 0} where
  pub after_more : (p : List V) (xs ys : List (Operation V)) → after p (xs ++ ys) ≡ after (after p xs) ys
  after_more p [] ys = refl
  after_more p (shown i v ∷ xs) ys = after_more p xs ys
  after_more p (put i v ∷ xs) ys = after_more (set p i v) xs ys

  shows_more : (b : V) (p : List V) (xs ys : List (Operation V)) → Shows b p xs → Shows b (after p xs) ys → Shows b p (xs ++ ys)
  shows_more b p [] ys h g = g
  shows_more b p (shown i v ∷ xs) ys h g = (h.0, shows_more b p xs ys h.1 g)
  shows_more b p (put i v ∷ xs) ys h g = shows_more b (set p i v) xs ys h g

  pub length-after : (p : List V) (ops : List (Operation V)) → length (after p ops) ≡ length p
  length-after p [] = refl
  length-after p (shown i v ∷ ops) = length-after p ops
  length-after p (put i v ∷ ops) = length-after (set p i v) ops ∙ length-set p i v

  -- what operations leave of an item is their last write of it
  pub after-last_put : (p : List V) (ops : List (Operation V)) (i : ℕ) (d : V) → i < length p → get_or (after p ops) i d ≡ last_put ops i (get_or p i d)
  after-last_put p [] i d h = refl
  after-last_put p (shown j v ∷ ops) i d h = after-last_put p ops i d h
  after-last_put p (put j v ∷ ops) i d h =
      after-last_put (set p j v) ops i d (rw length-set h) ∙ ap (λ (z : V). last_put ops i z) (get_or-set p j i v d h)

module _ {V : Type 0} (k : Coding V) (back : Faithful k) where
  -- words tell values apart
  pub same-by-word : (x y : V) → k.word x ≡ k.word y → x ≡ y
  same-by-word x y e = sym (back x) ∙ ap k.value e ∙ back y

  pub same-by-words : (p q : List V) → map k.word p ≡ map k.word q → p ≡ q
  same-by-words [] [] e = refl
  same-by-words [] (y ∷ ys) e = let z : ◌≡◌ {A = ℕ} 0 1 = cc in absurd (omega arith)
  same-by-words (x ∷ xs) [] e = let z : ◌≡◌ {A = ℕ} 0 1 = cc in absurd (omega arith)
  same-by-words (x ∷ xs) (y ∷ ys) e =
      let a = same-by-word x y (let q : k.word x ≡ k.word y = cc in q) in
      let b = same-by-words xs ys (let q : map k.word xs ≡ map k.word ys = cc in q) in
      cc

  -- two serial books agree on the items of a set
  abbrev pub Agrees : List Bool → List V → List V → Type 0
  Agrees items p q = (i : ℕ) → has items i ≡ true → get_or p i k.blank ≡ get_or q i k.blank

  -- what an open slot's write list and read set say of its operations: on every serial book that agrees with the book q of
  -- the snapshot on the items read, the operations show their values, and they leave that book with the write list laid over
  pub record Tracks (m : ℕ) (q : List V) (ws : List Write) (items : List Bool) (ops : List (Operation V)) : Type 0 where
    pub below : Within m ws
    pub flags : length items ≡ 256
    pub follows :
        (p : List V) → length p ≡ m → Agrees items p q
        → Shows k.blank p ops × (map k.word (after p ops) ≡ over (map k.word p) ws)
    pub writing : (P : ℕ → Bool) → names_by P ws ≡ writes_one_of P ops
    pub touching : (i : ℕ) → (has items i || names ws i) ≡ touches ops i

  pub tracks-none : (m : ℕ) (q : List V) → Tracks m q [] (replicate 256 false) []
  tracks-none m q =
      record { below = tt; flags = refl; follows = λ p l a. (tt, refl); writing = λ P. refl; touching = λ i. or-false _ ∙ has-none 256 i }

  module _ (m : ℕ) (q : List V) (ws : List Write) (items : List Bool) (ops : List (Operation V)) (t : Tracks m q ws items ops)
      (i : ℕ) (hi : i < m) (hm : m ≤ 256) where
    -- the word of an item after the operations
    word_after : (p : List V) → length p ≡ m → Agrees items p q
        → k.word (get_or (after p ops) i k.blank) ≡ unwrap_or (word_of ws i) (k.word (get_or p i k.blank))
    word_after p l a =
        let il : i < length p = omega arith in
        sym (get_or-map k.word (after p ops) i k.blank 0 (rw length-after il))
        ∙ ap (λ (z : List ℕ). get_or z i 0) (t.follows p l a).1
        ∙ over_word (map k.word p) ws i (rw length-map il)
        ∙ ap (unwrap_or (word_of ws i)) (get_or-map k.word p i k.blank 0 il)

    -- an item that was written shows the value of its word
    pub value-own : (x : ℕ) → word_of ws i ≡ Some x → (p : List V) → length p ≡ m → Agrees items p q
        → get_or (after p ops) i k.blank ≡ k.value x
    value-own x e p l a =
        sym (back (get_or (after p ops) i k.blank))
        ∙ ap k.value (word_after p l a ∙ ap (λ z. unwrap_or z (k.word (get_or p i k.blank))) e)

    -- another item shows what the book has
    pub value-else : word_of ws i ≡ None → (p : List V) → length p ≡ m → Agrees items p q
        → get_or (after p ops) i k.blank ≡ get_or p i k.blank
    value-else e p l a = same-by-word _ _ (word_after p l a ∙ ap (λ z. unwrap_or z (k.word (get_or p i k.blank))) e)

    -- one more read leaves the same writes
    writing-shown : (v : V) (P : ℕ → Bool) → names_by P ws ≡ writes_one_of P (ops ++ (shown i v ∷ []))
    writing-shown v P = t.writing P ∙ sym (writes_more P ops _ ∙ or-false (writes_one_of P ops))

    -- a read of an own write
    pub tracks-own : (x : ℕ) → word_of ws i ≡ Some x → Tracks m q ws items (ops ++ (shown i (k.value x) ∷ []))
    tracks-own x e =
        record {
          below = t.below;
          flags = t.flags;
          follows =
              λ p l a. (
                shows_more k.blank p ops _ (t.follows p l a).0 (value-own x e p l a, tt),
                ap (map k.word) (after_more p ops _) ∙ (t.follows p l a).1,
              );
          writing = writing-shown (k.value x);
          touching = touching-own ws items ops t.touching i x (k.value x) e;
        }

    -- a read of the snapshot
    pub tracks-read : word_of ws i ≡ None → Tracks m q ws (set items i true) (ops ++ (shown i (get_or q i k.blank) ∷ []))
    tracks-read e =
        let fl = t.flags in
        let il : i < length items = omega arith in
        let agree : (p : List V) → Agrees (set items i true) p q → Agrees items p q = λ p a j z. a j (has_more items i j il z) in
        let here : has (set items i true) i ≡ true = get_or-set_same items i true false il in
        record {
          below = t.below;
          flags = length-set items i true ∙ t.flags;
          follows =
              λ p l a. (
                shows_more k.blank p ops _ (t.follows p l (agree p a)).0 (value-else e p l (agree p a) ∙ a i here, tt),
                ap (map k.word) (after_more p ops _) ∙ (t.follows p l (agree p a)).1,
              );
          writing = writing-shown (get_or q i k.blank);
          touching = touching-read ws items ops t.touching i (get_or q i k.blank) il;
        }

    within-put : (x : ℕ) (us : List Write) → Within m us → Within m (put_in us i x)
    within-put x [] h = (hi, tt)
    within-put x (w ∷ us) h =
        cond_both (ltb w.item i) _ _ (Within m)
        (λ _. (h.0, within-put x us h.1))
        (λ _. cond_both (eqb w.item i) _ _ (Within m) (λ _. (hi, h.1)) (λ _. (hi, h)))

    -- a write
    pub tracks-put : (v : V) → Tracks m q (put_in ws i (k.word v)) items (ops ++ (put i v ∷ []))
    tracks-put v =
        record {
          below = within-put (k.word v) ws t.below;
          flags = t.flags;
          follows =
              λ p l a. (
                shows_more k.blank p ops _ (t.follows p l a).0 tt,
                ap (map k.word) (after_more p ops _)
                    ∙ map-set k.word (after p ops) i v
                    ∙ ap (λ (z : List ℕ). set z i (k.word v)) (t.follows p l a).1
                    ∙ sym (over-put (map k.word p) ws i (k.word v)),
              );
          writing =
              λ P.
              names-put P ws i (k.word v) ∙ ap (λ z. z || P i) (t.writing P)
              ∙ sym (writes_more P ops _ ∙ ap (λ z. writes_one_of P ops || z) (or-false (P i)));
          touching = touching-put ws items ops t.touching i (k.word v) v;
        }
