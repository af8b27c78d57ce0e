use Rattle.std.proofs.Common.{◌∙◌, sym, ap, [], ◌∷◌}
use Rattle.std.specs.Prelude.{option_map, option_to_list}
use Rattle.std.specs.Result.{result_err}
use Rattle.fsl_repo.specs.declared.Event.TheVariants as event
use Rattle.fsl_serve.specs.Session.{announcement}
use Rattle.fsl_serve.proofs.Runs.{due_is}
use Rattle.fsl_serve.proofs.events.announce_card.Goals as goal

pub returns-in-Some-clause-made : goal.returns-in-Some-clause-made
returns-in-Some-clause-made g c =
    due_is _ _ (event.Announce c.in-Some.name ∷ []) (option_to_list (announcement c.args.caps c.args.card.now)) (result_err c.announce.result)
    (sym (ap option_to_list (c.announced.ensures ∙ ap (option_map event.Announce) c.in-Some.is))) c.announce.ensures.made
