use Rattle.std.proofs.Common.{sym, ◌∙◌, arith}
use Rattle.std.specs.Option.{option_map}
use Rattle.std.specs.FinMap as map_of
use Rattle.fsl_blobs.specs.Fold.{contents}
use Rattle.fsl_repo.specs.Replies.{held_at}
use Rattle.fsl_repo.proofs.Loops.{placed_of, filter_map-map, walk_end}
use Rattle.fsl_repo.proofs.placed.placed_over.Goals as goal

pub returns-clause-held : goal.returns-clause-held
returns-clause-held c =
    sym (walk_end (placed_of c.args.blobs.now.records) c.args.names.now c.loop-placed.placed-index _ _ (omega (arith, c.loop-placed-test.false)) c.loop-placed.invariant.0)
    ∙ sym (filter_map-map (λ p. option_map (held_at p) (map_of.get (contents c.args.blobs.now.records).held p.1)) (λ p. (p.place, p.name)) c.args.names.now)

pub returns-clause-sized : goal.returns-clause-sized
returns-clause-sized c = c.loop-placed.invariant.1
