use Rattle.tests_laws.proofs.Crashed.{image_left}
use Rattle.tests_laws.proofs.reboots.image_of.Goals as goal

pub returns-in-Ok : goal.returns-in-Ok
returns-in-Ok c =
    image_left c.args.disk c.new.result c.inner-inner.result c.in-Ok.image c.args.calls c.inner-inner.ensures c.in-Ok.ensures.fresh c.in-Ok.ensures.image c.new.ensures
