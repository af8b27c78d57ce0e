use Rattle.std.proofs.Common.{refl, inl, subst}
use Rattle.fsl_wire.specs.Messages.{IsReadFault}
use Rattle.fsl_wire.specs.declared.WireFault.TheVariants as wire
use Rattle.fsl_pull.proofs.replies.unread.Goals as goal

pub returns-in-Unknown : goal.returns-in-Unknown
returns-in-Unknown c = inl (wire.Unknown c.in-Unknown.line, subst (IsReadFault c.args.body.now) c.in-Unknown.is c.requires, refl)

pub returns-in-Args : goal.returns-in-Args
returns-in-Args c = inl (wire.Args c.in-Args.line, subst (IsReadFault c.args.body.now) c.in-Args.is c.requires, refl)

pub returns-in-Delta : goal.returns-in-Delta
returns-in-Delta c = inl (wire.Delta c.in-Delta.line, subst (IsReadFault c.args.body.now) c.in-Delta.is c.requires, refl)

pub returns-in-Size : goal.returns-in-Size
returns-in-Size c = inl (wire.Size c.in-Size.line, subst (IsReadFault c.args.body.now) c.in-Size.is c.requires, refl)

pub returns-in-Short : goal.returns-in-Short
returns-in-Short c = inl (wire.Short c.in-Short.line, subst (IsReadFault c.args.body.now) c.in-Short.is c.requires, refl)
