use Rattle.std.specs.Prelude.{◌≤◌, true, false}
use Rattle.std.proofs.Common.{refl, sym, subst, ◌∙◌}
use Rattle.fsl_disk.specs.Disk.{IsModelled}
use Rattle.fsl_disk.proofs.Moments.{modelled_after}
use Rattle.laws_openings.specs.Chain.{IsLeftBy}
use Rattle.laws_openings.specs.Lives.{group_in, is_done, does_of}
use Rattle.laws_openings.proofs.Ends.{since_beginning, since_heard, told_done, heard_life, unheard_life}
use Rattle.laws_openings.proofs.surviving.live_once.Goals as goal

pub strike-requires-else-is_told : goal.strike-requires-else-is_told
strike-requires-else-is_told g c =
    subst (λ d. IsModelled (g.D.Disk.state c.live-disk.result.disk) → (g.D.Disk.state d).moment ≤ (g.D.Disk.state c.live-disk.result.disk).moment)
    (sym c.of-first.ensures) c.live-disk.ensures.later

pub returns-then-is_told-clause-has : goal.returns-then-is_told-clause-has
returns-then-is_told-clause-has g c =
    since_heard (λ w. g.W.Work.puts w) c.args.work.now (group_in c.live-disk.result.ending) (g.D.Disk.state c.args.disk) (g.D.Disk.state c.live-disk.result.disk)
    (g.D.Disk.state c.strike.result) (modelled_after (g.D.Disk.state c.args.disk) (g.D.Disk.state c.live-disk.result.disk) c.live-disk.ensures.keeps)
    (λ modelled found left. g.met.D.Disk.only_now c.live-disk.result.disk found modelled.model left)
    (c.live-disk.ensures.done (told_done (is_done c.live-disk.result.ending) (g.W.Work.heard c.args.work.now) c.is_told.result c.is_told.ensures c.if-is_told.true))
    (subst (λ d. IsLeftBy (g.D.Disk.state d) (g.D.Disk.state c.live-disk.result.disk) (g.D.Disk.state c.strike.result)) c.of-heard.ensures c.strike.ensures)

pub returns-then-is_told-clause-life : goal.returns-then-is_told-clause-life
returns-then-is_told-clause-life g c =
    heard_life (λ d. g.D.Disk.state d) (does_of (λ w. g.W.Work.puts w) (λ w. g.W.Work.heard w)) c.args.work.now c.args.disk c.live-disk.result.disk c.of-heard.result.value
    (record { began = c.of-began.result; ended = c.of-ended.result; ending = c.live-disk.result.ending; is_heard = true }) c.strike.result c.of-began.ensures c.of-ended.ensures
    c.of-heard.ensures c.live-disk.ensures.keeps c.live-disk.ensures.ended (sym c.if-is_told.true ∙ c.is_told.ensures) refl c.strike.ensures

pub returns-else-is_told-clause-has : goal.returns-else-is_told-clause-has
returns-else-is_told-clause-has g c =
    since_beginning (λ w. g.W.Work.puts w) c.args.work.now (group_in c.live-disk.result.ending) (g.D.Disk.state c.args.disk) (g.D.Disk.state c.live-disk.result.disk)
    (g.D.Disk.state c.strike-else-is_told.result) (modelled_after (g.D.Disk.state c.args.disk) (g.D.Disk.state c.live-disk.result.disk) c.live-disk.ensures.keeps)
    c.live-disk.ensures.any_moment
    (subst (λ d. IsLeftBy (g.D.Disk.state d) (g.D.Disk.state c.live-disk.result.disk) (g.D.Disk.state c.strike-else-is_told.result)) c.of-first.ensures
    c.strike-else-is_told.ensures)

pub returns-else-is_told-clause-life : goal.returns-else-is_told-clause-life
returns-else-is_told-clause-life g c =
    unheard_life (λ d. g.D.Disk.state d) (does_of (λ w. g.W.Work.puts w) (λ w. g.W.Work.heard w)) c.args.work.now c.args.disk c.of-first.result.value c.live-disk.result.disk
    (record { began = c.of-began.result; ended = c.of-ended.result; ending = c.live-disk.result.ending; is_heard = false }) c.strike-else-is_told.result c.of-began.ensures
    c.of-ended.ensures c.of-first.ensures c.live-disk.ensures.keeps c.live-disk.ensures.ended (sym c.if-is_told.false ∙ c.is_told.ensures) refl c.strike-else-is_told.ensures
