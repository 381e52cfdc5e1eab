-- Rows of slots: a loop has come to one more slot.
use Rattle.std.proofs.Common.{◌≡◌, ℕ, ◌+◌, ◌<◌, min, List, [], ◌∷◌, ◌++◌, map, length, get_or, take, drop, set, Some, None, Option, unwrap_or, sym, refl, ap, ◌∙◌, arith}
use Rattle.std.proofs.lemmas.List.{at_drop_more, take_more, get_or-map, length-map, map-set, drop-set-lt}
use Rattle.std.proofs.lemmas.List.Edits.{map_over_more}
use Rattle.law.specs.Slots.{SlotModel, smallest_open_of, open_count, restarted}
use Rattle.law.specs.Slots.SlotModel.{idle, opened, filed}
use Rattle.slots.specs.declared.slots.Slot.{Slot}
use Rattle.slots.specs.Slots.{slot_model, snapshot_of, opens}

-- the smaller of two numbers, where there are such
abbrev pub smaller : Option ℕ → Option ℕ → Option ℕ
smaller o None = o
smaller o (Some s) = Some (min (unwrap_or o s) s)

-- an open slot at t in front, and one more slot at the end
open-front : (o next : Option ℕ) (t : ℕ) → Some (min t (unwrap_or (smaller o next) t)) ≡ smaller (Some (min t (unwrap_or o t))) next
open-front o None t = refl
open-front None (Some s) t = ap Some (omega arith)
open-front (Some m) (Some s) t = ap Some (omega arith)

-- one more slot at the end
smallest-push : (xs : List SlotModel) (x : SlotModel) → smallest_open_of (xs ++ x ∷ []) ≡ smaller (smallest_open_of xs) (snapshot_of x)
smallest-push [] idle = refl
smallest-push [] (opened s ws items) = refl
smallest-push [] (filed n) = refl
smallest-push (idle ∷ xs) x = smallest-push xs x
smallest-push (opened t ws items ∷ xs) x =
    ap (λ o. Some (min t (unwrap_or o t))) (smallest-push xs x) ∙ open-front (smallest_open_of xs) (snapshot_of x) t
smallest-push (filed n ∷ xs) x = smallest-push xs x

-- the first slot is counted by itself
count-first : (x : SlotModel) (xs : List SlotModel) → open_count (x ∷ xs) ≡ opens x + open_count xs
count-first idle xs = omega arith
count-first (opened s ws items) xs = omega arith
count-first (filed n) xs = omega arith

-- a loop over the slots xs has come to that at i; d is what would stand where there is none
module _ (xs : List Slot) (i : ℕ) (d : Slot) (h : i < length xs) where
  -- the smallest snapshot so far, and that of the slot at i
  pub smallest-more : (o next : Option ℕ) → o ≡ smallest_open_of (take i (map slot_model xs)) → next ≡ snapshot_of (slot_model (get_or xs i d)) →
      smaller o next ≡ smallest_open_of (take (i + 1) (map slot_model xs))
  smallest-more o next so_far is =
      let ms = map slot_model xs in
      let m = slot_model d in
      ap (smaller o) is ∙ ap (λ p. smaller p (snapshot_of (slot_model (get_or xs i d)))) so_far
      ∙ sym (ap smallest_open_of (take_more ms i m (omega (arith, length-map xs slot_model)))
      ∙ smallest-push (take i ms) (get_or ms i m)
      ∙ ap (λ x. smaller (smallest_open_of (take i ms)) (snapshot_of x)) (get_or-map slot_model xs i d m h))

  -- y takes the place of the slot at i: the slots after it are left to be counted
  pub count-more : (y : Slot) → open_count (drop i (map slot_model xs)) ≡ opens (slot_model (get_or xs i d)) + open_count (drop (i + 1) (map slot_model (set xs i y)))
  count-more y =
      let ms = map slot_model xs in
      let m = slot_model d in
      at_drop_more open_count ms i m (omega (arith, length-map xs slot_model)) ∙ count-first (get_or ms i m) (drop (i + 1) ms)
      ∙ ap (λ x. opens x + open_count (drop (i + 1) ms)) (get_or-map slot_model xs i d m h)
      ∙ ap (λ l. opens (slot_model (get_or xs i d)) + open_count l)
      (sym (ap (drop (i + 1)) (map-set slot_model xs i y) ∙ drop-set-lt (i + 1) ms i (slot_model y) (omega arith)))

  -- the slots ms before i are started anew, and now that at i
  pub restart-more : (ms : List SlotModel) (y : Slot) → length xs ≡ length ms → map slot_model xs ≡ map restarted (take i ms) ++ drop i ms →
      slot_model y ≡ restarted (slot_model (get_or xs i d)) → map slot_model (set xs i y) ≡ map restarted (take (i + 1) ms) ++ drop (i + 1) ms
  restart-more ms y same so_far e =
      let m = slot_model (get_or xs i d) in
      map-set slot_model xs i y ∙ ap (set (map slot_model xs) i) e
      ∙ map_over_more restarted ms (map slot_model xs) i m (omega arith) so_far (sym (get_or-map slot_model xs i d m h))
