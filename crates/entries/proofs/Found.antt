-- What a pass over a list of writes finds.
use Rattle.std.proofs.Common.{◌≡◌, ℕ, eqb, Bool, true, false, cond, List, [], ◌∷◌, Some, Option, refl, ap, ◌∙◌}
use Rattle.std.specs.List.{find}
use Rattle.std.specs.Option.{option_map}
use Rattle.entries.specs.declared.writes.Write.{Write}
use Rattle.entries.specs.Writes.{word_of}

-- the word of a write that a test chooses, or else of what was found otherwise
word-cond : (b : Bool) (w : Write) (o : Option Write) → option_map (λ v. v.word) (cond b (Some w) o) ≡ cond b (Some w.word) (option_map (λ v. v.word) o)
word-cond true w o = refl
word-cond false w o = refl

-- the word of the first write of the item, or none
pub word-found : (ws : List Write) (item : ℕ) → option_map (λ w. w.word) (find (λ w. eqb w.item item) ws) ≡ word_of ws item
word-found [] item = refl
word-found (w ∷ ws) item =
    word-cond (eqb w.item item) w (find (λ v. eqb v.item item) ws) ∙ ap (cond (eqb w.item item) (Some w.word)) (word-found ws item)
