use Rattle.std.proofs.Common.{sym}
use Rattle.fsl_cluster.specs.declared.Fact.{Fact}
use Rattle.tests_tables.proofs.Own.{has_put}
use Rattle.tests_tables.proofs.clusters.gather.Goals as goal

pub returns-in-Ok : goal.returns-in-Ok
returns-in-Ok g c = has_put {F = Fact} (λ f. f.name) c.args.name _ c.args.clusters.now.facts c.change.new.self.facts c.in-Ok.ensures.facts (sym c.in_ok-fact.ensures)
