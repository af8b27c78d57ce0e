use Rattle.std.proofs.Common.{refl, ◌∙◌}
use Rattle.fsl_serve.proofs.Moving.{pushed, put_together, all_together, none_staffed, still_room, one_more, first_room, as_many, fewer, some_there, none_left, is_none}
use Rattle.fsl_serve.proofs.staff.staffed.Goals as goal

pub loop-crews-init : goal.loop-crews-init
loop-crews-init g c =
    let none = c.requires.empty in (
      none_staffed (λ j. j.crew) _ c.args.jobs.items c.args.crews.now.items none c.args.jobs.ok.0,
      none_staffed (λ j. j.pass) _ c.args.jobs.items c.args.passes.now.items none c.args.jobs.ok.0,
      c.requires.each,
      first_room _ _ _ none c.requires.room,
      refl,
      refl,
    )

pub loop-crews-preserved : goal.loop-crews-preserved
loop-crews-preserved g c =
    let crew = c.remove-crew.ensures in
    let pass = c.remove-pass.ensures in
    let before = c.loop-crews.invariant in
    let more = pushed _ _ _ _ _ c.unwrap.ensures c.push.ensures.items in
    let crews = some_there _ _ _ c.loop-crews-test.true c.len.ensures c.loop-crews.crews.ok.0 in
    let passes = some_there _ _ _ c.loop-crews-test.true (c.len.ensures ∙ before.2) c.loop-crews.passes.ok.0 in (
      put_together (λ j. j.crew) c.loop-crews.jobs.items c.push.new.self.items c.loop-crews.crews.items c.remove-crew.new.self.items c.args.crews.now.items _ c.remove-crew.result crews crew.value crew.items refl more before.0,
      put_together (λ j. j.pass) c.loop-crews.jobs.items c.push.new.self.items c.loop-crews.passes.items c.remove-pass.new.self.items c.args.passes.now.items _ c.remove-pass.result passes pass.value pass.items refl more before.1,
      as_many _ _ _ _ before.2 crew.len pass.len,
      still_room _ _ _ _ _ _ c.push.ensures.upper_bound crew.len c.push.ensures.capacity before.3,
      crew.capacity ∙ before.4,
      pass.capacity ∙ before.5,
    )

pub loop-crews-smaller : goal.loop-crews-smaller
loop-crews-smaller g c = fewer _ _ _ _ c.remove-crew.ensures.len refl refl

pub remove-crew-requires : goal.remove-crew-requires
remove-crew-requires g c = some_there _ _ _ c.loop-crews-test.true c.len.ensures refl

pub remove-pass-requires : goal.remove-pass-requires
remove-pass-requires g c = some_there _ _ _ c.loop-crews-test.true c.len.ensures c.loop-crews.invariant.2

pub unwrap-requires : goal.unwrap-requires
unwrap-requires g c =
    c.push.ensures.succeeds (one_more _ _ _ (some_there _ _ _ c.loop-crews-test.true c.len.ensures refl) c.loop-crews.invariant.3)

pub returns : goal.returns
returns g c =
    let left = c.loop-crews.invariant in
    let crews = none_left _ _ _ c.loop-crews-test.false c.len.ensures c.loop-crews.crews.ok.0 in
    let passes = none_left _ _ _ c.loop-crews-test.false (c.len.ensures ∙ left.2) c.loop-crews.passes.ok.0 in
    record {
      crews = all_together (λ j. j.crew) c.loop-crews.jobs.items c.loop-crews.crews.items c.args.crews.now.items crews left.0;
      passes = all_together (λ j. j.pass) c.loop-crews.jobs.items c.loop-crews.passes.items c.args.passes.now.items passes left.1;
      empty = (is_none _ _ c.loop-crews-test.false c.len.ensures, is_none _ _ c.loop-crews-test.false (c.len.ensures ∙ left.2));
      room = (left.4, left.5);
    }
