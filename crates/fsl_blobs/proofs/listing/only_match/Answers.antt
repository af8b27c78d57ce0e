use Rattle.std.proofs.Common.{sym, ◌∙◌}
use Rattle.std.specs.Map.Iter.{deref}
use Rattle.std.proofs.lemmas.Map.Iter.{rest_so_far, rest_more}
use Rattle.fsl_blobs.specs.Listing.{begins}
use Rattle.fsl_blobs.proofs.HeldLists.{several}
use Rattle.fsl_blobs.proofs.listing.only_match.Goals as goal

pub returns-then-is_some-clause-found : goal.returns-then-is_some-clause-found
returns-then-is_some-clause-found c =
    several (begins c.args.prefix.now) _ _ _ _ c.loop-name.first c.in-Some.name.now
    (sym (c.into_iter-name-iterator.ensures.into_iter_gives ∙ c.keys-name-items.ensures.rest) ∙ rest_so_far deref c.loop-name.yielded _ _ c.loop-name.yielded_by)
    (rest_more deref _ _ _ _ c.in-Some.is c.next.ensures.steps)
    c.loop-name.invariant (sym c.is_some.ensures ∙ c.if-is_some.true) (sym c.begins.ensures ∙ c.if-begins.true)
