use Rattle.std.proofs.Common.{◌∙◌, arith}
use Rattle.banks.proofs.Turns.{change-more}
use Rattle.banks.proofs.bank.Bank.open_word.Goals as goal

pub loop-site-preserved : goal.loop-site-preserved
loop-site-preserved g c =
    (c.loop-site.invariant.0, c.open_word_at.ensures.after ∙ change-more _ _ _ _ c.loop-site.invariant.1 (omega arith))
