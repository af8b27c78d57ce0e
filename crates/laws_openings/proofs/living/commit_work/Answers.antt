use Rattle.std.proofs.Common.{sym, subst, ◌∙◌}
use Rattle.laws_openings.specs.declared.living.Ending.TheVariants.{Unworked}
use Rattle.laws_openings.specs.Lives.{IsTried}
use Rattle.laws_openings.proofs.Tried.{tried, unworked}
use Rattle.laws_openings.proofs.living.commit_work.Goals as goal

pub returns-in-Ok : goal.returns-in-Ok
returns-in-Ok g c =
    tried (λ d. g.D.Disk.state d) (g.W.Work.puts c.args.work.now) c.args.repo c.work.new.repo (record { opened = c.of-opened.result; worked = c.of-worked.result })
    c.of-opened.ensures c.of-worked.ensures c.requires c.in-Ok.ensures.put (g.D.Disk.state c.commit_put.result.disk) c.commit_put.ensures.keeps
    c.commit_put.ensures.any_moment c.commit_put.result.ending c.commit_put.ensures.ended c.commit_put.ensures.durable

pub returns-in-Err : goal.returns-in-Err
returns-in-Err g c =
    subst (λ d. IsTried (g.W.Work.puts c.args.work.now) c.args.repo.seen.state.records Unworked (g.D.Disk.state c.args.repo.disk) (g.D.Disk.state d))
    (sym (c.close.ensures ∙ c.work.ensures.disk))
    (unworked (λ d. g.D.Disk.state d) (g.W.Work.puts c.args.work.now) c.args.repo c.requires (λ b modelled since. g.met.D.Disk.only_now c.args.repo.disk b modelled.model since) c.is_whole.ensures)
