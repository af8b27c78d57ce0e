use Rattle.std.proofs.Common.{◌≡◌, map, ap, ◌∙◌, rules}
use Rattle.std.specs.Map.Iter.{deref_pair}
use Rattle.std.proofs.lemmas.Map.Iter.{iter_end}
use Rattle.fsl_uv.specs.Reports.{listed}
use Rattle.fsl_uv.proofs.Listings.{listed_more}
use Rattle.fsl_uv.proofs.held.Held.list.Goals as goal

pub loop-path-preserved : goal.loop-path-preserved
loop-path-preserved c =
    listed_more deref_pair c.loop-path.yielded (c.in-Some.path, c.in-Some.version) c.loop-path.text c.add_line.new.into c.loop-path.invariant c.in_ok-add_line.ensures

pub returns : goal.returns
returns c =
    let all : map deref_pair c.loop-path.yielded ≡ c.args.self.now = search (rules, iter_end) in
    c.loop-path.invariant ∙ ap listed all
