-- How the values of a kind are coded into words.
use Rattle.std.specs.Prelude.{◌≡◌, ℕ, ◌≢◌}

-- a kind: its blank, the word of each value, and the value of each word
pub record Coding (V : Type 0) : Type 0 where
  pub blank : V
  pub word : V → ℕ
  pub value : ℕ → V

-- decoding the word of a value gives the value
abbrev pub Faithful : {V : Type 0} → Coding V → Type 0
Faithful {V} k = (v : V) → k.value (k.word v) ≡ v

-- a word that codes no value decodes to the blank
abbrev pub BlankElsewhere : {V : Type 0} → Coding V → Type 0
BlankElsewhere {V} k = (w : ℕ) → ((v : V) → k.word v ≢ w) → k.value w ≡ k.blank
