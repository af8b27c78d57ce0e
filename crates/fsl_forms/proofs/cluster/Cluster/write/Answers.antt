use Rattle.fsl_forms.specs.Writing.{IsClusterText, cluster_cards}
use Rattle.fsl_forms.proofs.ClusterAgain.{cluster_again}
use Rattle.fsl_grammar.proofs.SealingLemmas.{sealed}
use Rattle.fsl_forms.proofs.cluster.Cluster.write.Goals as goal

pub returns : goal.returns
returns c =
    let v = c.args.self.now in
    let text : IsClusterText c.finish.new.lines v = sealed _ _ _ (cluster_cards v) c.empty-lines.ensures c.in_ok-write_cards.ensures c.in_ok-finish.ensures.ok in
    record { written = text; read = cluster_again v (rw c.items.ensures at c.know_refs.ensures) c.requires c.finish.new.lines text }
