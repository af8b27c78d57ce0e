use Rattle.laws_runs.specs.Runs.{states_of}
use Rattle.laws_runs.proofs.Chains.{all_survive}
use Rattle.laws_runs.proofs.laws.runs_survive.Goals as goal

pub returns : goal.returns
returns g c =
    all_survive (states_of g.S.Source.state g.K.Sink.state g.P.Disk.state g.N.Link.state g.C.Clock.told g.D.Disk.state)
    (λ d held model told. g.met.D.Disk.reads_as_image d held model told) (λ d b model since. g.met.D.Disk.only_now d b model since) c.some_file.ensures
