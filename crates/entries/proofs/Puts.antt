-- Laws of lists of writes with one more write put in.
use Rattle.std.proofs.Common.{◌≡◌, ℕ, ◌+◌, ◌<◌, ◌≤◌, true, false, cond, eqb, List, [], ◌∷◌, set, Some, refl, arith, one-add}
use Rattle.std.specs.List.{insert}
use Rattle.std.proofs.lemmas.Bool.Decides.{nat_tests}
use Rattle.entries.specs.declared.writes.Write.{Write}
use Rattle.entries.specs.Rising.{rising, rises_above}
use Rattle.entries.specs.Writes.{names, word_of, put_in, place}

-- an item at or below a bound that the items rise above is not there
pub names-above : (i low : ℕ) (ws : List Write) → i ≤ low → rises_above low ws ≡ true → names ws i ≡ false
names-above i low [] h r = refl
names-above i low (w ∷ ws) h r = grind (arith, nat_tests, names-above i w.item ws)

pub rising-rest : (w : Write) (ws : List Write) → rising (w ∷ ws) ≡ true → rising ws ≡ true
rising-rest w [] r = refl
rising-rest w (v ∷ ws) r = grind (arith, nat_tests)

module _ (i x : ℕ) where
  abbrev new : Write
  new = record { item = i; word = x }

  -- the write of an item that is there is replaced at its place
  pub put-named : (ws : List Write) → rising ws ≡ true → names ws i ≡ true → set ws (place ws i) new ≡ put_in ws i x
  put-named [] r n = grind (arith, nat_tests)
  put-named (w ∷ ws) r n = grind (arith, nat_tests, put-named ws (rising-rest w ws r), names-above i w.item ws)

  -- the write of another item is put in at its place
  pub put-unnamed : (ws : List Write) → names ws i ≡ false → insert ws (place ws i) new ≡ put_in ws i x
  put-unnamed [] n = refl
  put-unnamed (w ∷ ws) n =
      let later : insert (w ∷ ws) (1 + place ws i) new ≡ w ∷ insert ws (place ws i) new = rw one-add refl in
      grind (arith, nat_tests, later, put-unnamed ws)

  -- the items still rise
  rises-put : (low : ℕ) (ws : List Write) → low < i → rises_above low ws ≡ true → rises_above low (put_in ws i x) ≡ true
  rises-put low [] h r = grind (arith, nat_tests)
  rises-put low (w ∷ ws) h r = grind (arith, nat_tests, rises-put w.item ws)

  pub rising-put : (ws : List Write) → rising ws ≡ true → rising (put_in ws i x) ≡ true
  rising-put [] r = refl
  rising-put (w ∷ ws) r = grind (arith, nat_tests, rises-put w.item ws)

  -- afterwards the item has the word, and every other item what it had
  pub word-put : (ws : List Write) (j : ℕ) → word_of (put_in ws i x) j ≡ cond (eqb j i) (Some x) (word_of ws j)
  word-put [] j = grind (arith, nat_tests)
  word-put (w ∷ ws) j = let m = word-put ws j in grind (arith, nat_tests)
