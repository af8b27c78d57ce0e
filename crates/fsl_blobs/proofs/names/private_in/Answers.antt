use Rattle.std.proofs.Common.{◌≡◌, List, ℕ, map, filter, ap, ◌∙◌, rules}
use Rattle.std.specs.Map.Iter.{deref_pair}
use Rattle.std.proofs.lemmas.Map.Iter.{iter_end}
use Rattle.fsl_blobs.specs.declared.blobs.HeldArtifact.{HeldArtifact}
use Rattle.fsl_blobs.proofs.names.private_in.Goals as goal

pub returns-clause-names : goal.returns-clause-names
returns-clause-names c =
    let all : map deref_pair c.loop-name.yielded ≡ c.args.held.now.entries = search (rules, iter_end) in
    c.loop-name.invariant ∙ ap (λ (es : List (List ℕ × HeldArtifact)). map (λ e. e.0) (filter (λ e. e.1.private) es)) all
