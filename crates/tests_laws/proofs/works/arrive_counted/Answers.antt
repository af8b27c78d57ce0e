use Rattle.std.proofs.Common.{sym, ◌∙◌}
use Rattle.tests_laws.proofs.Arrivals.{arrives}
use Rattle.tests_laws.proofs.works.arrive_counted.Goals as goal

pub returns-in-Ok-clause-put : goal.returns-in-Ok-clause-put
returns-in-Ok-clause-put g c =
    arrives c.args.repo.now c.arrive.new.self c.of.result c.args.text.now c.arrive.result c.of.ensures.value c.requires.runs c.arrive.ensures.disk
    (λ e. let wrong = sym c.in-Ok.is ∙ e in absurd (cc)) c.arrive.ensures.step
