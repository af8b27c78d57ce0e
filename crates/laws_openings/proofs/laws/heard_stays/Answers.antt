use Rattle.laws_openings.proofs.Tries.{heard_stays as it_stays}
use Rattle.laws_openings.proofs.laws.heard_stays.Goals as goal

pub returns : goal.returns
returns g c = it_stays (λ w. g.W.Work.puts w)
