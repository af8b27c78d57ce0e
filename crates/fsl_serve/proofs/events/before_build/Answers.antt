use Rattle.std.proofs.Common.{◌∷◌, [], false, Some, None, Err, List, subst}
use Rattle.std.specs.Prelude.{filter_map, Result, OnErr, IsTrue}
use Rattle.std.specs.List.{list_any}
use Rattle.fsl_answer.specs.Refusals.{is_push}
use Rattle.fsl_answer.specs.Contents.{is_pull}
use Rattle.fsl_repo.specs.declared.Event.TheVariants as event
use Rattle.std.specs.Result.{result_err}
use Rattle.fsl_wire.specs.declared.WireCard.{WireCard}
use Rattle.fsl_serve.specs.declared.said.Halt.{Halt}
use Rattle.fsl_outside.specs.declared.gate.Point.TheVariants as point
use Rattle.fsl_serve.specs.Calls.{Gains, Phase, asked}
use Rattle.fsl_serve.specs.Points.{Passes, arrived, is_late}
use Rattle.fsl_serve.proofs.Passing.{not_arrived, not_arrived_twice, did_arrive, arrivals_not_late, where_announced_not_late}
use Rattle.fsl_serve.specs.Session.{announcement, arrivals, where_so}
use Rattle.fsl_serve.proofs.Runs.{first_halts, second_halts, third_halts, two_done, three_done}
use Rattle.fsl_serve.proofs.events.before_build.Goals as goal

pub returns-in-Err-clause-made : goal.returns-in-Err-clause-made
returns-in-Err-clause-made g c =
    let m = c.args.cards.now in
    let r = c.args.receipt.now in
    let z : Result (Unit {0}) Halt = Err c.in-Err.halt in
    first_halts (arrivals r false m) (where_so (list_any is_push m) (filter_map (announcement c.args.caps) m)) (where_so (list_any is_pull m) (event.Cluster ∷ [])) c.arrive_all.result z z _ _ c.in-Err.halt
    (λ made. Passes (g.G.Gate.passed c.args.gate.now) (g.G.Gate.passed c.args.gate.now) c.args.number (arrived made))
    (λ xs p. not_arrived (g.G.Gate.passed c.args.gate.now) c.args.number (arrivals r false m) xs (Some c.in-Err.halt) (arrivals_not_late r false m) p) c.arrive_all.ensures.made c.in-Err.is

pub returns-in-Err-announce_where_pushed-clause-made : goal.returns-in-Err-announce_where_pushed-clause-made
returns-in-Err-announce_where_pushed-clause-made g c =
    let m = c.args.cards.now in
    let r = c.args.receipt.now in
    let A : List WireCard → Type 0 = λ l. Gains g.D.Disk.state (g.T.Calls.calls c.arrive_all.new.pass) (g.T.Calls.calls c.announce_where_pushed.new.pass) (λ made. Phase (where_so (list_any is_push l) (filter_map (announcement c.args.caps) l)) made (result_err c.announce_where_pushed.result)) in
    let announced = subst A c.in-Ok.ensures.kept c.announce_where_pushed.ensures.made in
    let announcements = where_so (list_any is_push m) (filter_map (announcement c.args.caps) m) in
    second_halts (arrivals r false m) announcements (where_so (list_any is_pull m) (event.Cluster ∷ [])) c.arrive_all.result c.announce_where_pushed.result c.announce_where_pushed.result _ _ _
    c.in-Ok.notices c.in-Err-announce_where_pushed.halt
    (λ made. Passes (g.G.Gate.passed c.args.gate.now) (g.G.Gate.passed c.args.gate.now) c.args.number (arrived made))
    (λ xs ys p q.
    not_arrived_twice (g.G.Gate.passed c.args.gate.now) c.args.number (arrivals r false m) announcements xs ys None (Some c.in-Err-announce_where_pushed.halt) (arrivals_not_late r false m)
    (where_announced_not_late (list_any is_push m) c.args.caps m) p q)
    c.arrive_all.ensures.made c.in-Ok.is announced c.in-Err-announce_where_pushed.is

pub returns-in-Err-cluster_where_pulled-clause-made : goal.returns-in-Err-cluster_where_pulled-clause-made
returns-in-Err-cluster_where_pulled-clause-made g c =
    let m = c.args.cards.now in
    let r = c.args.receipt.now in
    let A : List WireCard → Type 0 = λ l. Gains g.D.Disk.state (g.T.Calls.calls c.arrive_all.new.pass) (g.T.Calls.calls c.announce_where_pushed.new.pass) (λ made. Phase (where_so (list_any is_push l) (filter_map (announcement c.args.caps) l)) made (result_err c.announce_where_pushed.result)) in
    let announced = subst A c.in-Ok.ensures.kept c.announce_where_pushed.ensures.made in
    let B : List WireCard → Type 0 = λ l. Gains g.D.Disk.state (g.T.Calls.calls c.announce_where_pushed.new.pass) (g.T.Calls.calls c.cluster_where_pulled.new.pass) (λ made. Phase (where_so (list_any is_pull l) (event.Cluster ∷ [])) made (result_err c.cluster_where_pulled.result) × OnErr c.cluster_where_pulled.result (IsTrue (list_any is_late (asked made)))) in
    let clustered = subst B c.in-Ok.ensures.kept c.cluster_where_pulled.ensures.made in
    let a = arrivals r false m in
    let b = where_so (list_any is_push m) (filter_map (announcement c.args.caps) m) in
    let d = where_so (list_any is_pull m) (event.Cluster ∷ []) in
    let s = c.announce_where_pushed.result in
    let t = c.cluster_where_pulled.result in
    third_halts a b d c.arrive_all.result s t _ _ _ c.in-Ok.notices c.in-Err-cluster_where_pulled.halt
    (λ made. Passes (g.G.Gate.passed c.args.gate.now) (g.G.Gate.passed c.pass.new.self) c.args.number (arrived made))
    (λ xs ys late. did_arrive (g.G.Gate.passed c.args.gate.now) (g.G.Gate.passed c.pass.new.self) c.args.number xs ys c.pass.ensures late)
    (two_done a b d c.arrive_all.result s t _ _ _ c.in-Ok.notices tt c.arrive_all.ensures.made c.in-Ok.is announced c.in-Ok-announce_where_pushed.is)
    clustered c.in-Err-cluster_where_pulled.is

pub returns-clause-made : goal.returns-clause-made
returns-clause-made g c =
    let m = c.args.cards.now in
    let r = c.args.receipt.now in
    let A : List WireCard → Type 0 = λ l. Gains g.D.Disk.state (g.T.Calls.calls c.arrive_all.new.pass) (g.T.Calls.calls c.announce_where_pushed.new.pass) (λ made. Phase (where_so (list_any is_push l) (filter_map (announcement c.args.caps) l)) made (result_err c.announce_where_pushed.result)) in
    let announced = subst A c.in-Ok.ensures.kept c.announce_where_pushed.ensures.made in
    let B : List WireCard → Type 0 = λ l. Gains g.D.Disk.state (g.T.Calls.calls c.announce_where_pushed.new.pass) (g.T.Calls.calls c.cluster_where_pulled.new.pass) (λ made. Phase (where_so (list_any is_pull l) (event.Cluster ∷ [])) made (result_err c.cluster_where_pulled.result) × OnErr c.cluster_where_pulled.result (IsTrue (list_any is_late (asked made)))) in
    let clustered = subst B c.in-Ok.ensures.kept c.cluster_where_pulled.ensures.made in
    let a = arrivals r false m in
    let b = where_so (list_any is_push m) (filter_map (announcement c.args.caps) m) in
    let d = where_so (list_any is_pull m) (event.Cluster ∷ []) in
    let s = c.announce_where_pushed.result in
    let t = c.cluster_where_pulled.result in
    three_done a b d c.arrive_all.result s t _ _ _ c.in-Ok.notices tt
    (Passes (g.G.Gate.passed c.args.gate.now) (g.G.Gate.passed c.pass.new.self) c.args.number (point.Arrived ∷ [])) c.pass.ensures
    (two_done a b d c.arrive_all.result s t _ _ _ c.in-Ok.notices tt c.arrive_all.ensures.made c.in-Ok.is announced c.in-Ok-announce_where_pushed.is)
    clustered c.in-Ok-cluster_where_pulled.is
