use Rattle.fsl_checkin.proofs.HavingLemmas.{absent_same, content_read, damaged_fails, disk_fails}
use Rattle.fsl_checkin.proofs.contents.content_at.Goals as goal

pub returns-in-Ok-clause-content : goal.returns-in-Ok-clause-content
returns-in-Ok-clause-content g c = content_read c.args.repo.now.seen.state c.args.name c.in-Ok.text c.in-Ok.ensures.bytes

pub returns-in-Absent-clause-count : goal.returns-in-Absent-clause-count
returns-in-Absent-clause-count g c = absent_same c.args.repo.now.seen.state c.content.new.self.seen.state c.args.name (rw c.in-Absent.is at c.in-Err.ensures.fault) c.content.ensures.state

pub returns-in-Disk-clause-fault : goal.returns-in-Disk-clause-fault
returns-in-Disk-clause-fault g c = disk_fails c.args.repo.now.seen.state c.content.new.self.seen.state c.args.name (rw c.in-Disk.is at c.in-Err.ensures.fault)

pub returns-in-Damaged-clause-fault : goal.returns-in-Damaged-clause-fault
returns-in-Damaged-clause-fault g c = damaged_fails c.args.repo.now.seen.state c.content.new.self.seen.state c.args.name c.in-Damaged.found (rw c.in-Damaged.is at c.in-Err.ensures.fault)
