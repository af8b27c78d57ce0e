use Rattle.std.proofs.Common.{arith}
use Rattle.fsl_history.proofs.Keeps.{draws}
use Rattle.fsl_history.proofs.ticketed.Ticketed.draw.Goals as goal

pub fetch_add-requires : goal.fetch_add-requires
fetch_add-requires g c =
    let i = c.requires.idle in
    let sized = c.args.self.now.sized in
    (c.requires.table, omega (arith, sized.0), draws _ _ _ _ _ c.args.chair.now.me i.0 i.1 i.2 i.3)
