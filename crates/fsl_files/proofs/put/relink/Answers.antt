use Rattle.fsl_table.proofs.Outcomes.{both_ok}
use Rattle.fsl_files.proofs.Linked.{relinked}
use Rattle.fsl_files.proofs.put.relink.Goals as goal

pub returns-clause-pairs : goal.returns-clause-pairs
returns-clause-pairs g c =
    both_ok c.link.result
    (λ ordered pairs first of_ is. relinked first c.args.name c.args.old c.args.new c.args.pairs.now.held.entries c.unlink.new.self.held.entries c.link.new.self.held.entries of_ is ordered c.in_ok-unlink.ensures.pairs pairs)
    c.link.ensures.ordered c.link.ensures.pairs
