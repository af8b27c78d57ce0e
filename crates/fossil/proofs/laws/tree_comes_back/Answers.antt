use Rattle.fossil.proofs.ReturningLaw.{tree_comes_back}
use Rattle.fossil.proofs.laws.tree_comes_back.Goals as goal

pub returns : goal.returns
returns c = record { law = tree_comes_back }
