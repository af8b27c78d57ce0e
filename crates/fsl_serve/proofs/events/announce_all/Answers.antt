use Rattle.std.proofs.Common.{◌∙◌, ap, subst, ◌+◌, drop, List}
use Rattle.std.specs.Prelude.{filter_map, option_to_list}
use Rattle.fsl_repo.specs.declared.Event.{Event}
use Rattle.fsl_serve.specs.Session.{announcement}
use Rattle.fsl_serve.specs.Calls.{Gains}
use Rattle.fsl_serve.proofs.Runs.{IsAt, at_card, filter_map_first, loop_goes_on_plain, loop_halts_plain}
use Rattle.fsl_serve.proofs.events.announce_all.Goals as goal

pub returns-in-Err-clause-made : goal.returns-in-Err-clause-made
returns-in-Err-clause-made g c =
    let f = announcement c.args.caps in
    let i = c.loop-card.card-index in
    let cs = c.args.cards.now in
    let x = c.card-item.result in
    let eq = ap (filter_map f) (at_card cs i x c.loop-card-test.true c.card-item.is) ∙ filter_map_first f x (drop (i + 1) cs) in
    let F : List Event → Type 0 = λ d. Gains g.D.Disk.state (g.T.Calls.calls c.args.pass.now) (g.T.Calls.calls c.loop-card.pass) (λ made. IsAt (filter_map f cs) made d) in
    loop_halts_plain _ _ _ (filter_map f cs) (option_to_list (f x)) (filter_map f (drop (i + 1) cs)) c.announce_card.result c.in-Err.halt (subst F eq c.loop-card.invariant.1) c.announce_card.ensures.made c.in-Err.is

pub loop-card-preserved : goal.loop-card-preserved
loop-card-preserved g c = (
  g.met.T.Calls.grows_through c.args.pass.now c.loop-card.pass c.announce_card.new.pass c.loop-card.invariant.0 c.announce_card.ensures.grown,
  let f = announcement c.args.caps in
      let i = c.loop-card.card-index in
      let cs = c.args.cards.now in
      let x = c.card-item.result in
      let eq = ap (filter_map f) (at_card cs i x c.loop-card-test.true c.card-item.is) ∙ filter_map_first f x (drop (i + 1) cs) in
      let F : List Event → Type 0 = λ d. Gains g.D.Disk.state (g.T.Calls.calls c.args.pass.now) (g.T.Calls.calls c.loop-card.pass) (λ made. IsAt (filter_map f cs) made d) in
      loop_goes_on_plain _ _ _ (filter_map f cs) (option_to_list (f x)) (filter_map f (drop (i + 1) cs)) c.announce_card.result (subst F eq c.loop-card.invariant.1) c.announce_card.ensures.made c.in-Ok.is,
)
