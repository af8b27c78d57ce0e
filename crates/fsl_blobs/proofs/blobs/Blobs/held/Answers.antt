use Rattle.std.proofs.Common.{◌≡◌, ◌++◌, ap, ◌∙◌, map, filter, rules}
use Rattle.std.specs.Prelude.{nat_le}
use Rattle.std.proofs.lemmas.List.{map-append}
use Rattle.std.proofs.lemmas.List.Sorted.{IsNonDecreasingBy-from_sort_by_key}
use Rattle.fsl_blobs.specs.Seen.{Seen}
use Rattle.fsl_blobs.specs.Listing.{pair_of}
use Rattle.fsl_blobs.proofs.ByPlace.{listed, all_listed}
use Rattle.fsl_blobs.proofs.blobs.Blobs.held.Goals as goal

pub returns-clause-names : goal.returns-clause-names
returns-clause-names c =
    let names = c.in_ok-names.names.items in
    let private = c.in_ok-private.private.items in
    let all : map pair_of c.extend_from_slice.new.self.items ≡ filter (λ p. nat_le c.args.from p.0) c.self.inside.order.public.entries ++ filter (λ p. nat_le c.args.from p.0) c.self.inside.order.private.entries =
    ap (map pair_of) (c.in_ok-extend_from_slice.ensures.items ∙ ap (λ xs. names ++ xs) c.deref.ensures.value) ∙ map-append pair_of names private
    ∙ (λ i. c.in_ok-names.ensures.names i ++ c.in_ok-private.ensures.names i) in
    ap (map pair_of) c.from_vec.ensures
    ∙ listed _ _ c.self.invariant.kept.held c.is_map.ensures.ordered c.self.invariant.kept.places c.is_map.ensures.found c.self.inside.order c.self.invariant.ordered
    c.placed_from.ensures.ordered c.placed_from-2.ensures.ordered c.args.from c.extend_from_slice.new.self.items c.sort_unstable_by_key.new.self.items all c.sort_unstable_by_key.ensures.permutation
    (IsNonDecreasingBy-from_sort_by_key (λ p. p.place) _ c.sort_unstable_by_key.ensures.sorted (λ a r q k. search rules))
    c.args.self.now (ap (λ (b : Seen). b.records) c.self.view_is)

pub returns-clause-all : goal.returns-clause-all
returns-clause-all c =
    let names = c.in_ok-names.names.items in
    let private = c.in_ok-private.private.items in
    let all : map pair_of c.extend_from_slice.new.self.items ≡ filter (λ p. nat_le c.args.from p.0) c.self.inside.order.public.entries ++ filter (λ p. nat_le c.args.from p.0) c.self.inside.order.private.entries =
    ap (map pair_of) (c.in_ok-extend_from_slice.ensures.items ∙ ap (λ xs. names ++ xs) c.deref.ensures.value) ∙ map-append pair_of names private
    ∙ (λ i. c.in_ok-names.ensures.names i ++ c.in_ok-private.ensures.names i) in
    all_listed _ _ c.self.invariant.kept.held c.is_map.ensures.ordered c.self.invariant.kept.places c.is_map.ensures.found c.self.inside.order c.self.invariant.ordered
    c.placed_from.ensures.ordered c.placed_from-2.ensures.ordered c.args.from c.extend_from_slice.new.self.items c.sort_unstable_by_key.new.self.items all c.sort_unstable_by_key.ensures.permutation
    (IsNonDecreasingBy-from_sort_by_key (λ p. p.place) _ c.sort_unstable_by_key.ensures.sorted (λ a r q k. search rules))
    c.args.self.now (ap (λ (b : Seen). b.records) c.self.view_is)
