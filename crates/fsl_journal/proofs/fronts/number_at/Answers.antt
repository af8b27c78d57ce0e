use Rattle.std.proofs.Common.{subst, sym}
use Rattle.fsl_disk.specs.Shared.{AreOf}
use Rattle.fsl_journal.proofs.fronts.number_at.Goals as goal

pub returns-clause-answer : goal.returns-clause-answer
returns-clause-answer g c = λ held told.
    subst (λ l. AreOf (g.F.Shared.state c.args.file.now) (g.F.Shared.state c.read_at.new.self) held c.args.at l) (sym c.number_of.ensures) (c.in_ok-read_at.ensures.answer held told)
