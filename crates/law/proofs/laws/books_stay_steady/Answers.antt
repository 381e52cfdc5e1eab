use Rattle.law.proofs.Main.{stays-steady}
use Rattle.law.proofs.laws.books_stay_steady.Goals as goal

pub returns : goal.returns
returns g c = stays-steady
