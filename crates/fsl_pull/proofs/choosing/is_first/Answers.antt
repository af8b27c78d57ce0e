use Rattle.std.proofs.Common.{sym, ◌∙◌}
use Rattle.fsl_pull.proofs.SentLemmas.{not_first, first_by}
use Rattle.fsl_pull.proofs.choosing.is_first.Goals as goal

pub returns-then-has-clause-first : goal.returns-then-has-clause-first
returns-then-has-clause-first c = not_first c.args.seen.now.keys c.args.sent.now.order c.args.name (sym c.has.ensures ∙ c.if-has.true)

pub returns-clause-first : goal.returns-clause-first
returns-clause-first c =
    first_by c.args.seen.now.keys c.args.sent.now.order c.args.name c.in_ok-first.first (sym c.has.ensures ∙ c.if-has.false) c.in_ok-first.ensures.added
