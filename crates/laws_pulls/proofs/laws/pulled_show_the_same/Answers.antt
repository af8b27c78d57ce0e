use Rattle.laws_pulls.proofs.Both.{pulled_show_the_same}
use Rattle.laws_pulls.proofs.Running.{runs_each_way}
use Rattle.laws_pulls.proofs.laws.pulled_show_the_same.Goals as goal

pub returns : goal.returns
returns c = record { pulls = pulled_show_the_same; runs = runs_each_way c.is_one_file.ensures }
