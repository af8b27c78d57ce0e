use Rattle.fsl_journal.proofs.Grouping.{all_found, none_found, noted_nothing, noted_some, window_long}
use Rattle.fsl_journal.proofs.reading.read_behind.Goals as goal

pub returns-then-is_empty-clause-fault : goal.returns-then-is_empty-clause-fault
returns-then-is_empty-clause-fault g c =
    let all = c.in-Ok.ensures.ok in
    let found = c.read_groups.new.found in
    (c.in-Ok.ensures.count, none_found all.0 c.args.window.now.len found (g.D.Disk.state c.args.disk.now) all.1.0 (noted_nothing found c.if-is_empty.ensures found.records.ok.0) all.1.1)

pub returns-else-is_empty-clause-ok : goal.returns-else-is_empty-clause-ok
returns-else-is_empty-clause-ok g c =
    let all = c.in-Ok.ensures.ok in
    let found = c.read_groups.new.found in
    let s = g.D.Disk.state c.args.disk.now in
    all_found all.0 c.args.window.now.len found s all.1.0 (noted_some found c.if-is_empty.ensures found.records.ok.0) (window_long c.args.window.now s c.requires.holds) all.1.1
