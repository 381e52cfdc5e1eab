-- A write put into a list of writes that lies in the front of an array.
use Rattle.std.proofs.Common.{◌≡◌, ℕ, ◌<◌, true, false, cond, eqb, List, take, set, Some, Ok}
use lib.Seq.{take-set-lt}
use Rattle.std.specs.List.{insert}
use Rattle.entries.specs.declared.writes.Write.{Write}
use Rattle.entries.specs.Rising.{rising}
use Rattle.entries.specs.Writes.{names, put_in, place, word_of}
use Rattle.entries.specs.Lists.{may_put, put_answer, after_put}
use Rattle.entries.proofs.Puts.{put-named, put-unnamed, word-put}

module _ (n : ℕ) (l : List Write) (i x at : ℕ) (is : at ≡ place (take n l) i) where
  pub put-over : rising (take n l) ≡ true → names (take n l) i ≡ true → at < n
      → take n (set l at (record { item = i; word = x })) ≡ put_in (take n l) i x
  put-over r y h =
      let over = take-set-lt n l at (record { item = i; word = x }) h in
      let put = put-named i x (take n l) r y in
      cc

  pub put-between : (ys : List Write) → names (take n l) i ≡ false → ys ≡ insert (take n l) at (record { item = i; word = x }) → ys ≡ put_in (take n l) i x
  put-between ys un e = let put = put-unnamed i x (take n l) un in cc

-- what a put answers and leaves where it is taken
pub put-taken : (ws ws' : List Write) (i x : ℕ) → may_put ws i ≡ true → ws' ≡ put_in ws i x
    → (Ok tt ≡ put_answer ws i) × (ws' ≡ after_put ws i x) × ((j : ℕ) → word_of ws' j ≡ cond (eqb j i) (Some x) (word_of ws j))
put-taken ws ws' i x y e = (simp y, simp y e, λ j. rw e (word-put i x ws j))
