use Rattle.std.proofs.Common.{◌≡◌, map, ap, ◌∙◌, rules}
use Rattle.std.specs.Map.Iter.{deref_pair}
use Rattle.std.proofs.lemmas.Map.Iter.{iter_end}
use Rattle.fsl_uv.specs.Cards.{message_text}
use Rattle.fsl_uv.specs.Syncing.{offered}
use Rattle.fsl_uv.proofs.RecordLemmas.{offered_more}
use Rattle.fsl_uv.proofs.held.Held.offer.Goals as goal

pub loop-path-preserved : goal.loop-path-preserved
loop-path-preserved c =
    offered_more deref_pair c.loop-path.yielded (c.in-Some.path, c.in-Some.version) c.loop-path.text c.add_igot.new.into c.loop-path.invariant c.in_ok-add_igot.ensures

pub returns : goal.returns
returns c =
    let all : map deref_pair c.loop-path.yielded ≡ c.args.self.now = search (rules, iter_end) in
    c.loop-path.invariant ∙ ap (λ m. message_text (offered m)) all
