use Rattle.std.proofs.Common.{List, ℕ, Some, None, sym, subst}
use Rattle.fsl_repo.specs.declared.Event.{Event}
use Rattle.fsl_repo.specs.declared.Answer.TheVariants as answer
use Rattle.fsl_repo.specs.Machine.{ArriveStep}
use Rattle.fsl_repo.specs.Onward.{Step}
use Rattle.fsl_repo.proofs.repo.Repo.obey.Goals as goal

pub returns-in-Arrive-clause-step : goal.returns-in-Arrive-clause-step
returns-in-Arrive-clause-step g c =
    let F : Event → Type 0 = λ e. Step c.args.self.now.seen.state e (answer.Arrive c.arrive.result) c.arrive.new.self.seen.state in
    let G : List ℕ → Type 0 = λ bytes. ArriveStep c.args.self.now.seen.state c.in-Arrive.name None bytes c.in-Arrive.private c.arrive.result c.arrive.new.self.seen.state in
    subst F (sym c.in-Arrive.is) (subst G c.bytes.ensures c.arrive.ensures.step)

pub returns-in-Receive-clause-step : goal.returns-in-Receive-clause-step
returns-in-Receive-clause-step g c =
    let F : Event → Type 0 = λ e. Step c.args.self.now.seen.state e (answer.Receive c.receive.result) c.receive.new.self.seen.state in
    let G : List ℕ → Type 0 = λ bytes. ArriveStep c.args.self.now.seen.state c.in-Receive.name (Some c.in-Receive.receipt) bytes c.in-Receive.private c.receive.result c.receive.new.self.seen.state in
    subst F (sym c.in-Receive.is) (subst G c.bytes-in-Receive.ensures c.receive.ensures.step)
