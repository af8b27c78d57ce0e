use Rattle.std.proofs.Common.{map, false, ap, ◌∙◌}
use Rattle.fsl_blobs.specs.Fold.{contents, held_as_from, size_in, walked}
use Rattle.fsl_blobs.specs.Listing.{pair_of, size_at}
use Rattle.fsl_blobs.specs.Seen.{Seen}
use Rattle.fsl_blobs.proofs.ByPlace.{by_place_from, walked_alike}
use Rattle.fsl_blobs.proofs.Sources.{sized-from}
use Rattle.fsl_blobs.proofs.blobs.Blobs.public_front.Goals as goal

pub returns : goal.returns
returns c =
    let most = c.args.most in
    let each = c.args.each in
    ap (map pair_of) c.from_vec.ensures ∙ c.in_ok-names.ensures.names
    ∙ ap (walked most each (size_at c.self.inside.held.entries) 0) (by_place_from (map (λ s. s.value) c.self.inside.records.items) c.self.inside.held.entries c.self.invariant.kept.held c.is_map.ensures.ordered c.self.invariant.kept.places c.is_map.ensures.found c.self.inside.order c.self.invariant.ordered false c.front_from.ensures.ordered c.args.from)
    ∙ walked_alike (map (λ s. s.value) c.self.inside.records.items) c.self.inside.held.entries c.self.invariant.kept.held (sized-from _ _ _ c.self.invariant.from) most each 0 _
    ∙ ap (λ (b : Seen). walked most each (size_in (contents b.records).held) 0 (held_as_from false b.records c.args.from)) c.self.view_is
