use Rattle.fsl_journal.proofs.Belonging.{belongs_append}
use Rattle.tests_log.proofs.versions.commit_empty.Goals as goal

pub commit-requires : goal.commit-requires
commit-requires g c = belongs_append c.args.journal.now c.append.new.self c.in_ok-entry.entry c.in_ok-at.at (g.D.Disk.state c.args.disk.now) c.requires.belongs c.requires.runs c.in_ok-at.ensures.ok
