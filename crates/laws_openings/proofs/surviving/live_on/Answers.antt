use Rattle.std.specs.Prelude.{◌≡◌, ◌+◌, ◌∷◌, [], ◌++◌, take}
use Rattle.std.proofs.Common.{sym, ap, subst, ◌∙◌}
use Rattle.std.proofs.lemmas.List.{take_all, take_more}
use Rattle.laws_openings.specs.Lives.{AreLives, SurvivesAll, does_of}
use Rattle.laws_openings.proofs.Ends.{more_lives, more_survives}
use Rattle.laws_openings.proofs.surviving.live_on.Goals as goal

pub loop-work-preserved : goal.loop-work-preserved
loop-work-preserved g c =
    let state = λ (d : g.row.D.Denot). g.D.Disk.state d in
    let does = does_of (λ (w : g.row.W.Denot). g.W.Work.puts w) (λ (w : g.row.W.Denot). g.W.Work.heard w) in
    let passed = take c.loop-work.work-index c.args.works.now in
    let works : take (c.loop-work.work-index + 1) c.args.works.now ≡ passed ++ c.work-item.result ∷ [] =
    take_more c.args.works.now c.loop-work.work-index c.work-item.result c.loop-work-test.true ∙ ap (λ w. passed ++ w ∷ []) (sym c.work-item.is) in
    record {
      modelled = λ modelled. c.live_once-disk.ensures.modelled (c.loop-work.invariant.modelled modelled);
      lives =
          subst (λ ws. AreLives state does c.args.disk ws c.push.new.self.items c.live_once-disk.result.disk) (sym works)
          (subst (λ ls. AreLives state does c.args.disk (passed ++ c.work-item.result ∷ []) ls c.live_once-disk.result.disk) (sym c.in_ok-push.ensures.items)
          (more_lives state does c.loop-work.story.disk c.work-item.result c.live_once-disk.result.lived c.live_once-disk.result.disk c.args.disk passed c.loop-work.story.lives.items
          c.loop-work.invariant.lives c.live_once-disk.ensures.life));
      survives =
          subst (λ ws. SurvivesAll (λ w. g.W.Work.puts w) ws c.push.new.self.items (g.D.Disk.state c.args.disk) (g.D.Disk.state c.live_once-disk.result.disk)) (sym works)
          (subst (λ ls. SurvivesAll (λ w. g.W.Work.puts w) (passed ++ c.work-item.result ∷ []) ls (g.D.Disk.state c.args.disk) (g.D.Disk.state c.live_once-disk.result.disk)) (sym c.in_ok-push.ensures.items)
          (more_survives state does c.loop-work.story.disk c.work-item.result c.live_once-disk.result.lived c.live_once-disk.result.disk c.args.disk passed c.loop-work.story.lives.items
          c.loop-work.invariant.lives c.loop-work.invariant.modelled c.loop-work.invariant.survives c.live_once-disk.ensures.has));
    }

pub returns-clause-lives : goal.returns-clause-lives
returns-clause-lives g c =
    subst (λ works. AreLives (λ d. g.D.Disk.state d) (does_of (λ w. g.W.Work.puts w) (λ w. g.W.Work.heard w)) c.args.disk works c.loop-work.story.lives.items c.loop-work.story.disk)
    (take_all c.loop-work.work-index c.args.works.now c.loop-work-test.false) c.loop-work.invariant.lives

pub returns-clause-survives : goal.returns-clause-survives
returns-clause-survives g c =
    subst (λ works. SurvivesAll (λ w. g.W.Work.puts w) works c.loop-work.story.lives.items (g.D.Disk.state c.args.disk) (g.D.Disk.state c.loop-work.story.disk))
    (take_all c.loop-work.work-index c.args.works.now c.loop-work-test.false) c.loop-work.invariant.survives
