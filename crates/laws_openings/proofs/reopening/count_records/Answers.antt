use Rattle.std.proofs.Common.{length, ap, ◌∙◌}
use Rattle.laws_openings.proofs.Loads.{loaded_contents}
use Rattle.laws_openings.proofs.reopening.count_records.Goals as goal

pub returns-in-Ok-clause-answer : goal.returns-in-Ok-clause-answer
returns-in-Ok-clause-answer g c = record {
  records = c.in-Ok.records;
  counted = c.count-count.ensures ∙ ap length c.in-Ok.ensures.loaded.records;
  stands = c.in-Ok.ensures.stands;
  contents = loaded_contents c.in-Ok.journal c.in-Ok.records (g.D.Disk.state c.load.new.disk) c.in-Ok.ensures.loaded c.in-Ok.ensures.belongs;
  faults = c.in-Ok.ensures.count;
  durable = c.in-Ok.ensures.durable;
}
