use Rattle.fsl_cluster.specs.Kept.{tables_in}
use Rattle.fsl_cluster.proofs.Changed.{changed_is}
use Rattle.fsl_cluster.proofs.rows.put_new.Goals as goal

pub returns-clause-changed : goal.returns-clause-changed
returns-clause-changed g c =
    changed_is (tables_in c.args.maps.now) (tables_in c.put_fact.new.maps) c.new-flips.result c.put_fact.new.flips c.put_fact.result c.requires.kept c.new-flips.ensures.unclustered c.new-flips.ensures.missing
    c.put_fact.ensures.kept c.put_fact.ensures.flips c.put_fact.ensures.list c.put_fact.ensures.rising
