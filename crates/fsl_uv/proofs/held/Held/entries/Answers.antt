use Rattle.std.proofs.Common.{◌≡◌, map, ap, ◌∙◌, rules}
use Rattle.std.specs.Map.Iter.{deref_pair}
use Rattle.std.proofs.lemmas.Map.Iter.{iter_end}
use Rattle.fsl_uv.specs.Syncing.{entries_of}
use Rattle.fsl_uv.proofs.RecordLemmas.{entries_more}
use Rattle.fsl_uv.proofs.held.Held.entries.Goals as goal

pub loop-path-preserved : goal.loop-path-preserved
loop-path-preserved c =
    entries_more deref_pair c.loop-path.yielded (c.in-Some.path, c.in-Some.version) c.loop-path.entries c.append.new.self c.in_ok-entry.entry c.loop-path.invariant c.in_ok-entry.ensures c.in_ok-append.ensures.ok

pub returns : goal.returns
returns c =
    let all : map deref_pair c.loop-path.yielded ≡ c.args.self.now = search (rules, iter_end) in
    c.loop-path.invariant ∙ ap entries_of all
