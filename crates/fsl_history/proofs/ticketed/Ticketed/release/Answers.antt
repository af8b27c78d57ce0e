use Rattle.std.proofs.Common.{rules, arith, subst}
use Rattle.fsl_history.specs.Plays.{Releases}
use Rattle.fsl_history.proofs.Keeps.{releasings}
use Rattle.fsl_history.proofs.ticketed.Ticketed.release.Goals as goal

pub fetch_add-requires : goal.fetch_add-requires
fetch_add-requires g c =
    let i = c.requires.ahead in
    let me = c.args.self.now in
    let m = g.met.M.Machine in (
      c.requires.table,
      omega (arith, me.sized.0),
      releasings _ _ _ _ _ c.args.chair.now.me i.0 i.1 c.args.ticket i.2 i.3 g.B.Chronicle.first (λ f is. search rules)
          (λ x y z w did. m.never_falls x w (m.step_later x y z w did)) i.4,
    )

pub returns-clause-called : goal.returns-clause-called
returns-clause-called g c = λ t left e a at. subst (λ x. Releases g.M.Machine.may_step g.M.Machine.stored_count g.B.Chronicle.first c.fetch_add.new.seat.me x.0) at c.fetch_add.ensures.2
