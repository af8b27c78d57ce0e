use Rattle.std.specs.Prelude.{◌∷◌, []}
use Rattle.std.proofs.Common.{length, sym, ap, subst, arith}
use Rattle.std.proofs.lemmas.List.{length-append}
use Rattle.laws_openings.specs.Openings.{AreOpenings}
use Rattle.laws_openings.proofs.Ends.{more_openings}
use Rattle.laws_openings.proofs.reopening.reopen.Goals as goal

pub loop-count-preserved : goal.loop-count-preserved
loop-count-preserved g c = record {
  each = omega (arith, ap length c.in_ok-push.ensures.items, length-append c.loop-count.all.openings.items (c.reopen_once-disk.result.opening ∷ []), c.loop-count.invariant.each);
  openings =
      subst (λ os. AreOpenings (λ d. g.D.Disk.state d) c.args.disk os c.reopen_once-disk.result.disk) (sym c.in_ok-push.ensures.items)
      (more_openings (λ d. g.D.Disk.state d) c.args.disk c.loop-count.all.openings.items c.loop-count.all.disk c.reopen_once-disk.result.opening c.reopen_once-disk.result.disk
      c.loop-count.invariant.openings c.reopen_once-disk.ensures.opening);
  modelled = λ modelled. c.reopen_once-disk.ensures.modelled (c.loop-count.invariant.modelled modelled);
  between = λ modelled low high here. c.reopen_once-disk.ensures.between (c.loop-count.invariant.modelled modelled) low high (c.loop-count.invariant.between modelled low high here);
}
