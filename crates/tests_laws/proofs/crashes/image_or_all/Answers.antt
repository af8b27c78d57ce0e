use Rattle.tests_laws.proofs.Crashed.{crashed, let_be}
use Rattle.tests_laws.proofs.crashes.image_or_all.Goals as goal

pub returns-in-Ok : goal.returns-in-Ok
returns-in-Ok c =
    crashed c.args.disk c.new.result c.inner-inner.result c.in-Ok.image c.args.calls c.inner-inner.ensures c.in-Ok.ensures.fresh c.in-Ok.ensures.image c.new.ensures

pub returns-in-Err : goal.returns-in-Err
returns-in-Err c = let_be c.args.disk c.new-in-Err.result c.inner-inner.result c.args.calls c.inner-inner.ensures c.new-in-Err.ensures
