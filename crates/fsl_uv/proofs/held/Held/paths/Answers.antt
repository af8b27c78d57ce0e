use Rattle.std.proofs.Common.{◌≡◌, [], map, ap, ◌∙◌, rules}
use Rattle.std.specs.Map.{keys_of}
use Rattle.std.specs.Map.Iter.{deref_pair}
use Rattle.std.proofs.lemmas.Map.Iter.{iter_end}
use Rattle.fsl_uv.specs.Reading.{first_offers}
use Rattle.fsl_uv.proofs.OfferLemmas.{paths-more}
use Rattle.fsl_uv.proofs.held.Held.paths.Goals as goal

pub loop-path-preserved : goal.loop-path-preserved
loop-path-preserved c =
    paths-more deref_pair c.loop-path.yielded (c.in-Some.path, c.in-Some.field-0-1) c.loop-path.paths.entries c.note.new.offers.entries c.loop-path.invariant c.in_ok-note.ensures

pub returns : goal.returns
returns c =
    let all : map deref_pair c.loop-path.yielded ≡ c.args.self.now = search (rules, iter_end) in
    c.loop-path.invariant ∙ ap (λ m. first_offers (keys_of m) []) all
