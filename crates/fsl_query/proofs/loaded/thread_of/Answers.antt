use Rattle.std.proofs.Common.{sym, subst}
use Rattle.fsl_query.specs.Answers.{IsAnswer}
use Rattle.fsl_query.specs.Reports.{thread_of_facts}
use Rattle.fsl_query.proofs.loaded.thread_of.Goals as goal

pub thread_by-text-requires : goal.thread_by-text-requires
thread_by-text-requires c = sym c.in_ok-table.ensures.own

pub returns : goal.returns
returns c fields = subst (λ facts. IsAnswer (thread_of_facts facts c.args.prefix.now) c.thread_by-text.result) (c.in_ok-table.ensures.facts fields) c.thread_by-text.ensures
