use Rattle.fossil.proofs.CloneLemmas.{due_text}
use Rattle.fossil.proofs.commands.clone.clone_onto.Goals as goal

pub returns : goal.returns
returns g c = record {
  result = c.clone_from-disk.result.1;
  clones = c.clone_from-disk.ensures.clones;
  counts = c.clone_from-disk.ensures.counts;
  steady = c.clone_from-disk.ensures.steady;
  untouched = c.clone_from-disk.ensures.untouched;
  keeps = c.clone_from-disk.ensures.keeps;
  tells = due_text c.clone_from-disk.result.1 c.sync_due.result c.sync_due.ensures;
}
