use Rattle.std.proofs.Common.{◌≡◌, List, map, ap, subst, ◌∙◌}
use Rattle.std.specs.Prelude.{IfOk, filter_map}
use Rattle.std.specs.Option.{option_map}
use Rattle.std.specs.FinMap as map_of
use Rattle.fsl_blobs.specs.Fold.{contents}
use Rattle.fsl_answer.specs.Contents as reply
use Rattle.fsl_repo.specs.Replies.{held_at}
use Rattle.fsl_repo.specs.Sending.{as_held}
use Rattle.fsl_repo.proofs.Fronts.{front_placed}
use Rattle.fsl_repo.proofs.placed.public_from.Goals as goal

pub returns-in-Ok-clause-held : goal.returns-in-Ok-clause-held
returns-in-Ok-clause-held c =
    subst (λ (due : List reply.Held). IfOk c.placed_over.result (λ list. map as_held list.items ≡ due))
    (ap (λ names. filter_map (λ p. option_map (held_at p) (map_of.get (contents c.args.blobs.now.records).held p.1)) (map (λ p. (p.place, p.name)) names)) c.items.ensures
    ∙ ap (filter_map (λ p. option_map (held_at p) (map_of.get (contents c.args.blobs.now.records).held p.1))) c.in-Ok.ensures
    ∙ front_placed c.args.blobs.now.records c.args.place) c.placed_over.ensures.held
