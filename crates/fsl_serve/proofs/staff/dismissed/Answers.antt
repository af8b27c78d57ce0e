use Rattle.std.proofs.Common.{refl, map}
use Rattle.fsl_serve.proofs.Moving.{pushed, taken_apart, all_apart, none_there, still_room, one_more, first_room, fewer, some_there, none_left, is_none}
use Rattle.fsl_serve.proofs.staff.dismissed.Goals as goal

pub loop-jobs-init : goal.loop-jobs-init
loop-jobs-init g c =
    let none = c.requires.empty in
    let room = c.requires.room in (
      none_there _ c.args.crews.now.items (map (λ j. j.crew) c.args.jobs.items) none.0 c.args.crews.now.ok.0,
      none_there _ c.args.passes.now.items (map (λ j. j.pass) c.args.jobs.items) none.1 c.args.passes.now.ok.0,
      none_there _ c.args.works.items (map (λ j. j.work) c.args.jobs.items) none.2 c.args.works.ok.0,
      first_room _ _ _ none.0 room.0,
      first_room _ _ _ none.1 room.1,
      first_room _ _ _ none.2 room.2,
    )

pub loop-jobs-preserved : goal.loop-jobs-preserved
loop-jobs-preserved g c =
    let before = c.loop-jobs.invariant in
    let left = c.remove-crew.ensures in
    let some = some_there _ _ _ c.loop-jobs-test.true c.len.ensures c.loop-jobs.jobs.ok.0 in (
      taken_apart (λ j. j.crew) c.loop-jobs.crews.items c.push.new.self.items c.loop-jobs.jobs.items c.remove-crew.new.self.items _ c.remove-crew.result some left.value left.items (pushed _ _ _ _ _ c.unwrap.ensures c.push.ensures.items) before.0,
      taken_apart (λ j. j.pass) c.loop-jobs.passes.items c.push-in-loop-jobs.new.self.items c.loop-jobs.jobs.items c.remove-crew.new.self.items _ c.remove-crew.result some left.value left.items (pushed _ _ _ _ _ c.unwrap-in-loop-jobs.ensures c.push-in-loop-jobs.ensures.items) before.1,
      taken_apart (λ j. j.work) c.loop-jobs.works.items c.push-in-loop-jobs-2.new.self.items c.loop-jobs.jobs.items c.remove-crew.new.self.items _ c.remove-crew.result some left.value left.items (pushed _ _ _ _ _ c.unwrap-in-loop-jobs-2.ensures c.push-in-loop-jobs-2.ensures.items) before.2,
      still_room _ _ _ _ _ _ c.push.ensures.upper_bound left.len c.push.ensures.capacity before.3,
      still_room _ _ _ _ _ _ c.push-in-loop-jobs.ensures.upper_bound left.len c.push-in-loop-jobs.ensures.capacity before.4,
      still_room _ _ _ _ _ _ c.push-in-loop-jobs-2.ensures.upper_bound left.len c.push-in-loop-jobs-2.ensures.capacity before.5,
    )

pub loop-jobs-smaller : goal.loop-jobs-smaller
loop-jobs-smaller g c = fewer _ _ _ _ c.remove-crew.ensures.len c.loop-jobs.jobs.ok.0 c.remove-crew.new.self.ok.0

pub remove-crew-requires : goal.remove-crew-requires
remove-crew-requires g c = some_there _ _ _ c.loop-jobs-test.true c.len.ensures refl

pub unwrap-requires : goal.unwrap-requires
unwrap-requires g c =
    c.push.ensures.succeeds (one_more _ _ _ (some_there _ _ _ c.loop-jobs-test.true c.len.ensures refl) c.loop-jobs.invariant.3)

pub unwrap-requires-in-loop-jobs : goal.unwrap-requires-in-loop-jobs
unwrap-requires-in-loop-jobs g c =
    c.push-in-loop-jobs.ensures.succeeds (one_more _ _ _ (some_there _ _ _ c.loop-jobs-test.true c.len.ensures refl) c.loop-jobs.invariant.4)

pub unwrap-requires-in-loop-jobs-2 : goal.unwrap-requires-in-loop-jobs-2
unwrap-requires-in-loop-jobs-2 g c =
    c.push-in-loop-jobs-2.ensures.succeeds (one_more _ _ _ (some_there _ _ _ c.loop-jobs-test.true c.len.ensures refl) c.loop-jobs.invariant.5)

pub destroy_empty-requires : goal.destroy_empty-requires
destroy_empty-requires g c = is_none _ _ c.loop-jobs-test.false c.len.ensures

pub returns : goal.returns
returns g c =
    let none = none_left _ _ _ c.loop-jobs-test.false c.len.ensures c.loop-jobs.jobs.ok.0 in
    let parts = c.loop-jobs.invariant in
    record {
      crews = all_apart (λ j. j.crew) c.loop-jobs.crews.items c.loop-jobs.jobs.items _ none parts.0;
      passes = all_apart (λ j. j.pass) c.loop-jobs.passes.items c.loop-jobs.jobs.items _ none parts.1;
      works = all_apart (λ j. j.work) c.loop-jobs.works.items c.loop-jobs.jobs.items _ none parts.2;
    }
