use Rattle.std.proofs.Common.{Bool, map, true, false, sym, ap, ◌∙◌}
use Rattle.fsl_blobs.specs.Fold.{held_as_from}
use Rattle.fsl_blobs.specs.Seen.{Seen}
use Rattle.fsl_blobs.proofs.ByPlace.{by_place}
use Rattle.fsl_blobs.proofs.blobs.Blobs.names_by_place.Goals as goal

pub returns-then-private : goal.returns-then-private
returns-then-private c =
    c.from_vec.ensures ∙ c.in_ok-hidden.ensures.names
    ∙ ap (map (λ p. p.1)) (by_place (map (λ s. s.value) c.self.inside.records.items) c.self.inside.held.entries c.self.invariant.kept.held c.is_map.ensures.ordered c.self.invariant.kept.places c.is_map.ensures.found c.self.inside.order c.self.invariant.ordered true c.names_over.ensures.ordered)
    ∙ ap (λ (b : Seen). map (λ p. p.1) (held_as_from true b.records 0)) c.self.view_is
    ∙ sym (ap (λ (kind : Bool). map (λ p. p.1) (held_as_from kind c.args.self.now.records 0)) c.if-private.true)

pub returns : goal.returns
returns c =
    c.from_vec-2.ensures ∙ c.in_ok-names.ensures.names
    ∙ ap (map (λ p. p.1)) (by_place (map (λ s. s.value) c.self.inside.records.items) c.self.inside.held.entries c.self.invariant.kept.held c.is_map.ensures.ordered c.self.invariant.kept.places c.is_map.ensures.found c.self.inside.order c.self.invariant.ordered false c.names_over-2.ensures.ordered)
    ∙ ap (λ (b : Seen). map (λ p. p.1) (held_as_from false b.records 0)) c.self.view_is
    ∙ sym (ap (λ (kind : Bool). map (λ p. p.1) (held_as_from kind c.args.self.now.records 0)) c.if-private.false)
