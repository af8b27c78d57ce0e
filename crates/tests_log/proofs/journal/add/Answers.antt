use Rattle.std.proofs.Common.{sym, subst}
use Rattle.fsl_journal.specs.Journal.{Belongs}
use Rattle.fsl_journal.specs.Log.{Log}
use Rattle.fsl_journal.proofs.Belonging.{belongs_append}
use Rattle.tests_log.proofs.journal.add.Goals as goal

pub returns-in_err-append-clause-belongs : goal.returns-in_err-append-clause-belongs
returns-in_err-append-clause-belongs g c = subst (λ (log : Log). Belongs log (g.D.Disk.state c.args.disk.now)) (sym c.in_err-append.ensures.err) c.requires.belongs

pub returns-clause-belongs : goal.returns-clause-belongs
returns-clause-belongs g c = belongs_append c.args.journal.now c.append.new.self c.args.entry.now _ (g.D.Disk.state c.args.disk.now) c.requires.belongs c.requires.runs c.in_ok-append.ensures.ok
