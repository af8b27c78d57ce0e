use Rattle.std.proofs.Common.{◌++◌, subst, sym}
use Rattle.std.specs.List.{AllZip}
use Rattle.fsl_repo.specs.Opening.{IsReadOf}
use Rattle.fsl_repo.proofs.Gathers.{AllZip-append}
use Rattle.fsl_repo.proofs.gathering.add_artifacts.Goals as goal

pub returns : goal.returns
returns c before all =
    subst (AllZip IsReadOf (before ++ c.args.entries.now)) (sym c.in_ok-append.ensures.items) (AllZip-append IsReadOf before c.args.entries.now c.args.list.now.items c.in_ok-more.more.items all c.in_ok-more.ensures)
