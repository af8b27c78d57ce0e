use Rattle.std.proofs.Common.{◌≡◌, List, ℕ, map, ap, ◌∙◌, rules}
use Rattle.std.specs.Map.Iter.{deref_pair}
use Rattle.std.proofs.lemmas.Map.Iter.{iter_end}
use Rattle.fsl_blobs.specs.declared.blobs.HeldArtifact.{HeldArtifact}
use Rattle.fsl_blobs.specs.Listing.{entry_of, known_of}
use Rattle.fsl_blobs.proofs.listing.holdings.Goals as goal

pub returns-clause-holdings : goal.returns-clause-holdings
returns-clause-holdings c =
    let all : map deref_pair c.loop-name.yielded ≡ c.args.held.now.entries = search (rules, iter_end) in
    c.loop-name.invariant.0 ∙ ap (λ (es : List (List ℕ × HeldArtifact)). map entry_of es) all

pub returns-clause-known : goal.returns-clause-known
returns-clause-known c =
    let all : map deref_pair c.loop-name.yielded ≡ c.args.held.now.entries = search (rules, iter_end) in
    c.loop-name.invariant.1 ∙ ap (λ (es : List (List ℕ × HeldArtifact)). map known_of es) all
