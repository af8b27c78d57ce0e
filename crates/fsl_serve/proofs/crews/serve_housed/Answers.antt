use mir.Syntax.{of_param}
use denote.Param.{param}
use denote.Param.Send.{Quiet-if}
use Rattle.fsl_repo.specs.contracts.machine.RepoMachine.TheImpl as machine
use Rattle.std.proofs.Common.{◌≡◌, Some, sym, ap, ◌∙◌, arith, length}
use Rattle.std.proofs.lemmas.List.{length-map}
use Rattle.fsl_repo.specs.contracts.Event.{the_row as event_row}
use Rattle.fsl_repo.specs.contracts.Answer.{the_row as answer_row}
use Rattle.fsl_repo.specs.contracts.repo.Repo.{the_row as repo_row}
use Rattle.fsl_repo.specs.Laters.{later_through}
use Rattle.fsl_history.proofs.ticketed.TicketPass.TheSendSync as passes
use Rattle.fsl_history.proofs.ticketed.Ticketed.TheSendSync as ticketed
use Rattle.fsl_history.proofs.Lists.{if_on}
use Rattle.fsl_serve.proofs.Sent.{repo_sent}
use Rattle.fsl_serve.proofs.Staffing.{all_worked, all_gated}
use Rattle.fsl_serve.proofs.Ordering.{one_history, job_pass, length-newcomers}
use Rattle.fsl_serve.proofs.crews.serve_housed.Goals as goal

pub finish-repo-requires : goal.finish-repo-requires
finish-repo-requires g c =
    let js = c.staffed-jobs.result.items in
    let ks = c.run_all.new.jobs.items in
    let n : length js ≡ length c.args.crews.items = sym (length-map js (λ j. j.crew)) ∙ ap length c.staffed-jobs.ensures.crews in
    let m : length c.dismissed-works.new.passes.items ≡ length ks = ap length c.dismissed-works.ensures.passes ∙ length-map ks (λ j. j.pass) in
    omega (arith, n, m, c.requires.passes)

pub returns-clause-later : goal.returns-clause-later
returns-clause-later g c = if_on g.B.Chronicle.first _ _ (λ f since. later_through _ _ _ _ _ _ since c.settle.ensures.later) c.finish-repo.ensures.later

pub returns-clause-stored : goal.returns-clause-stored
returns-clause-stored g c = if_on g.B.Chronicle.first _ _ (λ f rise. c.settle.ensures.stored ∙ rise) c.finish-repo.ensures.rise

pub returns-clause-worked : goal.returns-clause-worked
returns-clause-worked g c =
    let js = c.staffed-jobs.result.items in
    let ks = c.run_all.new.jobs.items in
    all_worked g.D.Disk.state (λ j. j.crew) (λ j. j.work) (λ k. (g.A.Link.state k.door).present) (λ k. (g.A.Link.state k.door).standing) c.args.users.now c.args.project c.args.requests (λ j. Some j.pass.mine) js ks c.args.crews.items c.dismissed-works.new.crews.items c.dismissed-works.result.items
    c.staffed-jobs.ensures.crews (sym c.dismissed-works.ensures.crews) (sym c.dismissed-works.ensures.works) (omega arith) (λ i d l. (c.run_all.ensures.each i d (omega arith)).0.worked)

pub returns-clause-gates : goal.returns-clause-gates
returns-clause-gates g c =
    let js = c.staffed-jobs.result.items in
    let ks = c.run_all.new.jobs.items in
    all_gated g.D.Disk.state (λ j. j.crew) (λ j. j.work) (λ k. (g.A.Link.state k.door).present) (λ k. (g.A.Link.state k.door).standing) (λ k. g.G.Gate.passed k.gate) (λ k. g.C.Clock.told k.clock) c.args.users.now c.args.project c.args.requests (λ j. Some j.pass.mine) js ks c.args.crews.items c.dismissed-works.new.crews.items c.dismissed-works.result.items
    c.staffed-jobs.ensures.crews (sym c.dismissed-works.ensures.crews) (sym c.dismissed-works.ensures.works) (omega arith) (λ i d l. (c.run_all.ensures.each i d (omega arith)).0)

pub make-requires-clause-table : goal.make-requires-clause-table
make-requires-clause-table g c = c.requires.table

pub make-requires-clause-first : goal.make-requires-clause-first
make-requires-clause-first g c = c.requires.first

pub returns-clause-settled : goal.returns-clause-settled
returns-clause-settled g c = c.settle.ensures.settled

pub make-requires-clause-all : goal.make-requires-clause-all
make-requires-clause-all g c = omega (arith, c.len-count.ensures, c.requires.passes)

pub make-requires-clause-few : goal.make-requires-clause-few
make-requires-clause-few g c = let crews = c.requires.crews in (omega (arith, c.len-count.ensures, crews.0), omega (arith, c.len-count.ensures, crews.1))

pub staffed-jobs-requires-clause-each : goal.staffed-jobs-requires-clause-each
staffed-jobs-requires-clause-each g c =
    let passes = c.in-Ok-make.made.1.ok.0 ∙ ap (λ l. length l) c.in-Ok-make.ensures.passes ∙ length-newcomers _ _ c.len-count.result in
    omega (arith, passes, c.len-count.ensures)

pub dismissed-works-requires-clause-room : goal.dismissed-works-requires-clause-room
dismissed-works-requires-clause-room g c =
    let js = c.staffed-jobs.result in
    let ks = c.run_all.new.jobs in
    let n : length js.items ≡ length c.args.crews.items = sym (length-map js.items (λ j. j.crew)) ∙ ap length c.staffed-jobs.ensures.crews in
    let many : length c.in-Ok-make.made.1.items ≡ c.len-count.result = ap (λ l. length l) c.in-Ok-make.ensures.passes ∙ length-newcomers _ _ c.len-count.result in
    let room = c.staffed-jobs.ensures.room in
    let crews = c.args.crews.ok in
    let passes = c.in-Ok-make.made.1.ok in (
      omega (arith, n, js.ok.0, crews.0, crews.1, room.0, c.run_all.ensures.len),
      omega (arith, n, js.ok.0, crews.0, many, passes.0, passes.1, room.1, c.run_all.ensures.len, c.len-count.ensures),
      omega (arith, n, js.ok.0, crews.0, c.in-Ok-with_capacity.ensures.capacity, c.run_all.ensures.len),
    )

pub returns-clause-history : goal.returns-clause-history
returns-clause-history g c =
    let js = c.staffed-jobs.result.items in
    let ks = c.run_all.new.jobs.items in
    let n : length js ≡ length c.args.crews.items = sym (length-map js (λ j. j.crew)) ∙ ap length c.staffed-jobs.ensures.crews in
    let many : length js ≡ c.len-count.result = omega (arith, n, c.args.crews.ok.0, c.len-count.ensures) in
    let new = c.staffed-jobs.ensures.passes ∙ c.in-Ok-make.ensures.passes in
    let long : length ks ≡ length js = omega (arith, c.run_all.ensures.len, c.run_all.new.jobs.ok.0, c.staffed-jobs.result.ok.0) in
    let was = job_pass (λ j. j.pass) js c.len-count.result new many in
    if_on g.B.Chronicle.first _ _
    (λ f done. one_history g.D.Disk.state (λ j. j.crew) (λ j. j.work) (λ k. g.A.Link.state k.door) (λ k. g.G.Gate.passed k.gate) (λ k. g.C.Clock.told k.clock) c.args.users.now c.args.project c.args.requests
    _ (λ j. j.pass) f c.finish-repo.result.0 c.settle.new.repo c.settle.ensures.step.0 js ks c.args.crews.items c.dismissed-works.new.crews.items c.dismissed-works.result.items c.dismissed-works.new.passes.items
    c.staffed-jobs.ensures.crews (sym c.dismissed-works.ensures.crews) (sym c.dismissed-works.ensures.works) (sym c.dismissed-works.ensures.passes) long (sym n)
    (λ i d l. ap (λ t. t.mine) (was i d l))
    (λ i d l. (c.run_all.ensures.each i d (omega (arith, l, c.staffed-jobs.result.ok.0))).1.number ∙ ap (λ t. t.number) (was i d l))
    (λ i d l. (c.run_all.ensures.each i d (omega (arith, l, c.staffed-jobs.result.ok.0))).0)
    done c.settle.ensures.step.1)
    c.finish-repo.ensures.history

pub staffed-jobs-requires-clause-empty : goal.staffed-jobs-requires-clause-empty
staffed-jobs-requires-clause-empty g c = c.in-Ok.ensures.len

pub staffed-jobs-requires-clause-room : goal.staffed-jobs-requires-clause-room
staffed-jobs-requires-clause-room g c = omega (arith, c.in-Ok.ensures.capacity)

pub dismissed-works-requires-clause-empty : goal.dismissed-works-requires-clause-empty
dismissed-works-requires-clause-empty g c = (c.staffed-jobs.ensures.empty.0, c.staffed-jobs.ensures.empty.1, c.in-Ok-with_capacity.ensures.len)

pub run_all-requires-sync-T : goal.run_all-requires-sync-T
run_all-requires-sync-T g c κs within =
    let disk = param 1 g.row.D in
    record { shared = (ticketed.the_sync (repo_row disk g.D.Disk) (param 0 g.row.B) event_row answer_row (machine.ghosts disk g.D.Disk g.D.Disk-dict) g.B.Chronicle (repo_sent disk g.D.Disk c.type_bounds.send-D)).shared }

pub run_all-requires-send-T-Pass : goal.run_all-requires-send-T-Pass
run_all-requires-send-T-Pass g c κs within =
    let disk = param 1 g.row.D in
    let sent = passes.the_send (repo_row disk g.D.Disk) (param 0 g.row.B) event_row answer_row (machine.ghosts disk g.D.Disk g.D.Disk-dict) g.B.Chronicle (repo_sent disk g.D.Disk c.type_bounds.send-D) in
    record { owned = sent.owned; leaving = λ k. Quiet-if (k (of_param 6)) _ _ (λ x w. tt) (λ x w. tt) }
