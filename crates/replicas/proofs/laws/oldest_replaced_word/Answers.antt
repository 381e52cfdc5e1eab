use Rattle.replicas.proofs.History.{oldest-replaced-word}
use Rattle.replicas.proofs.laws.oldest_replaced_word.Goals as goal

pub returns : goal.returns
returns c = oldest-replaced-word
