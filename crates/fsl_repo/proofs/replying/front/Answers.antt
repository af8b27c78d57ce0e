use Rattle.std.proofs.Common.{sym, arith}
use Rattle.std.proofs.lemmas.List.{length-take-le, take_all}
use Rattle.fsl_repo.proofs.replying.front.Goals as goal

pub slice_bounds-result-end : goal.slice_bounds-result-end
slice_bounds-result-end c = sym (length-take-le 100 c.args.notices.now (omega (arith, c.if-notices-le-MOST_NOTICES.false)))

pub returns-then-notices-le-MOST_NOTICES : goal.returns-then-notices-le-MOST_NOTICES
returns-then-notices-le-MOST_NOTICES c = sym (take_all 100 c.args.notices.now c.if-notices-le-MOST_NOTICES.true)
