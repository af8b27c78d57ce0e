use Rattle.std.specs.Prelude.{[]}
use Rattle.laws_openings.proofs.Commits.{opened_moments, life_moments, life_done}
use Rattle.laws_openings.proofs.Tried.{ended}
use Rattle.laws_openings.proofs.living.live.Goals as goal

pub returns-in-Ok-clause-ended : goal.returns-in-Ok-clause-ended
returns-in-Ok-clause-ended g c =
    ended (g.W.Work.puts c.args.work.now) c.in-Ok.repo.seen.state.records (g.D.Disk.state c.args.disk) (g.D.Disk.state c.in-Ok.repo.disk)
    (g.D.Disk.state c.commit_work.result.disk) c.commit_work.result.ending c.in-Ok.ensures.opened.stands c.in-Ok.ensures.opened.faults c.commit_work.ensures.ended

pub returns-in-Ok-clause-any_moment : goal.returns-in-Ok-clause-any_moment
returns-in-Ok-clause-any_moment g c modelled low high tries here =
    life_moments (λ w. g.W.Work.puts w) c.is_one_file.ensures c.args.work.now c.in-Ok.repo.seen.state.records c.commit_work.result.ending
    (g.D.Disk.state c.args.disk) (g.D.Disk.state c.in-Ok.repo.disk) (g.D.Disk.state c.commit_work.result.disk) modelled
    (λ held told. g.met.D.Disk.reads_as_image c.args.disk held modelled.model told) (c.in-Ok.ensures.harmless modelled) c.in-Ok.ensures.keeps
    c.in-Ok.ensures.opened.stands c.commit_work.ensures low high tries here

pub returns-in-Ok-clause-done : goal.returns-in-Ok-clause-done
returns-in-Ok-clause-done g c ok modelled low high tries here =
    life_done (λ w. g.W.Work.puts w) c.is_one_file.ensures c.args.work.now c.in-Ok.repo.seen.state.records c.commit_work.result.ending
    (g.D.Disk.state c.args.disk) (g.D.Disk.state c.in-Ok.repo.disk) (g.D.Disk.state c.commit_work.result.disk) modelled
    (λ held told. g.met.D.Disk.reads_as_image c.args.disk held modelled.model told) (c.in-Ok.ensures.harmless modelled) c.in-Ok.ensures.keeps
    c.in-Ok.ensures.opened.stands c.commit_work.ensures low high tries here ok

pub returns-in-Err-clause-any_moment : goal.returns-in-Err-clause-any_moment
returns-in-Err-clause-any_moment g c modelled low high tries here =
    opened_moments (λ w. g.W.Work.puts w) c.is_one_file.ensures (g.D.Disk.state c.args.disk) (g.D.Disk.state c.in-Err.disk) modelled
    (λ held told. g.met.D.Disk.reads_as_image c.args.disk held modelled.model told) (c.in-Err.ensures.harmless modelled) c.args.work.now [] low high tries here
