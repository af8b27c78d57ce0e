use Rattle.std.proofs.Common.{rules, ◌≡◌, subst}
use Rattle.std.specs.Prelude.{IfOk, IfSome, ◌+◌}
use Rattle.fsl_repo.specs.Onward.{IsLaterOn}
use Rattle.fsl_repo.specs.Whole.{stored}
use Rattle.fsl_serve.specs.Ordered.{IsOneHistory}
use Rattle.fsl_history.specs.Entries.{first_state-is}
use Rattle.fsl_serve.proofs.Ordering.{err_first}
use Rattle.fsl_serve.proofs.crews.serve_crews.Goals as goal

pub serve_housed-requires-clause-first : goal.serve_housed-requires-clause-first
serve_housed-requires-clause-first g c = let born = c.in-Ok.ensures.born in let is = first_state-is _ c.args.repo born in search (rules, is, born)

pub returns-in-Ok-clause-later : goal.returns-in-Ok-clause-later
returns-in-Ok-clause-later g c =
    let is = first_state-is _ c.args.repo c.in-Ok.ensures.born in
    subst (λ o. IfOk c.serve_housed.result (λ s. IfSome o (λ f. IsLaterOn (g.D.Disk.state f.disk) (g.D.Disk.state s.repo.disk) f s.repo))) is c.serve_housed.ensures.later

pub returns-in-Ok-clause-stored : goal.returns-in-Ok-clause-stored
returns-in-Ok-clause-stored g c =
    let is = first_state-is _ c.args.repo c.in-Ok.ensures.born in
    subst (λ o. IfOk c.serve_housed.result (λ s. IfSome o (λ f. stored s.repo.seen ≡ stored f.seen + s.stored))) is c.serve_housed.ensures.stored

pub returns-in-Ok-clause-history : goal.returns-in-Ok-clause-history
returns-in-Ok-clause-history g c =
    let is = first_state-is _ c.args.repo c.in-Ok.ensures.born in
    subst (λ o. IfOk c.serve_housed.result (λ s. IfSome o (λ f. IsOneHistory g.D.Disk.state (λ x. g.A.Link.state x.door) (λ x. g.G.Gate.passed x.gate) (λ x. g.C.Clock.told x.clock) c.args.users.now c.args.project c.args.requests s.works.items c.args.crews.items s.crews.items f s.repo))) is c.serve_housed.ensures.history

pub returns-in-Ok-clause-refused : goal.returns-in-Ok-clause-refused
returns-in-Ok-clause-refused g c =
    let is = first_state-is _ c.args.repo c.in-Ok.ensures.born in
    err_first c.serve_housed.result _ c.args.repo (λ cs. cs.items ≡ c.args.crews.items) is c.serve_housed.ensures.refused
