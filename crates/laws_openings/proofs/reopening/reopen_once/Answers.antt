use Rattle.std.proofs.Common.{subst}
use Rattle.fsl_disk.proofs.Moments.{modelled_after}
use Rattle.laws_openings.proofs.reopening.reopen_once.Goals as goal

pub returns-clause-between : goal.returns-clause-between
returns-clause-between g c modelled low high here found left =
    let ended = modelled_after (g.D.Disk.state c.args.disk) (g.D.Disk.state c.count_records-answer.new.disk) c.count_records-answer.ensures.keeps modelled in
    (c.count_records-answer.ensures.any_moment modelled low high here).each found
    (subst (λ d. (g.D.Disk.state c.count_records-answer.new.disk).since (g.D.Disk.state d).moment found) c.of-first.ensures (c.strike.ensures.images ended found left))
