use Rattle.std.proofs.Common.{◌≡◌, [], map, filter, sym, ◌∙◌, rules, arith}
use Rattle.std.specs.Prelude.{nat_le}
use Rattle.std.specs.Map.Iter.{deref_pair}
use Rattle.std.proofs.lemmas.List.{map-append}
use Rattle.std.proofs.lemmas.Map.Iter.{rest_so_far, rest_more, iter_end}
use Rattle.fsl_blobs.specs.Listing.{size_at}
use Rattle.fsl_blobs.proofs.Walking.{walk_stops, walk_ends, walk_goes}
use Rattle.fsl_blobs.proofs.listing.front_from.Goals as goal

pub returns-then-sum-from-clause-names : goal.returns-then-sum-from-clause-names
returns-then-sum-from-clause-names c =
    let late : c.range-place-items.result ≡ filter (λ p. nat_le c.args.from p.0) c.args.order.now.entries = search rules in
    walk_stops c.args.most c.args.each (size_at c.args.held.now.entries) _ (map deref_pair c.loop-place.yielded) _ _ c.loop-place.names.items c.push.new.self.items c.loop-place.sum
    (record { place = c.in-Some.place.now; name = c.in-Some.name.now }) c.loop-place.invariant
    (sym late ∙ sym c.into_iter-place-iterator.ensures.into_iter_gives ∙ rest_so_far deref_pair c.loop-place.yielded _ _ c.loop-place.yielded_by)
    (rest_more deref_pair _ _ _ _ c.in-Some.is c.next.ensures.steps) (omega (arith, c.if-sum-from.true, c.from.ensures)) c.in_ok-push.ensures.items

pub loop-place-preserved : goal.loop-place-preserved
loop-place-preserved c =
    walk_goes c.args.most c.args.each (size_at c.args.held.now.entries) [] (map deref_pair c.loop-place.yielded) [] [] c.loop-place.names.items c.push.new.self.items c.loop-place.sum
    (record { place = c.in-Some.place.now; name = c.in-Some.name.now }) c.loop-place.invariant
    _ c.from-in-loop-place.result c.from-in-loop-place-2.result (map-append deref_pair c.loop-place.yielded _)
    (omega (arith, c.if-sum-from.false, c.from.ensures)) (omega (arith, c.ranges.most.fits)) (omega (arith, c.ranges.each.fits)) (omega (arith, c.from-in-loop-place.ensures, c.size_of.type_inv))
    (c.from-in-loop-place.ensures ∙ c.size_of.ensures) c.from-in-loop-place-2.ensures c.in_ok-push.ensures.items

pub returns-clause-names : goal.returns-clause-names
returns-clause-names c =
    let late : c.range-place-items.result ≡ filter (λ p. nat_le c.args.from p.0) c.args.order.now.entries = search rules in
    let all : map deref_pair c.loop-place.yielded ≡ c.range-place-items.result = search (rules, iter_end) in
    walk_ends c.args.most c.args.each (size_at c.args.held.now.entries) _ (map deref_pair c.loop-place.yielded) [] [] c.loop-place.names.items [] c.loop-place.sum
    (record { place = 0; name = [] }) c.loop-place.invariant (sym late ∙ sym all)
