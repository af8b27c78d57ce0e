use Rattle.tests_laws.proofs.Crashed.{let_be, kept}
use Rattle.tests_laws.proofs.crashes.all_of.Goals as goal

pub returns-clause-crash : goal.returns-clause-crash
returns-clause-crash c = let_be c.args.disk c.new.result c.inner.result c.args.calls c.inner.ensures c.new.ensures

pub returns-clause-kept : goal.returns-clause-kept
returns-clause-kept c = kept c.args.disk c.new.result c.inner.result c.args.calls c.inner.ensures c.new.ensures
