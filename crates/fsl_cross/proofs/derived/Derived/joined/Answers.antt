use Rattle.fsl_cross.proofs.derived.Derived.joined.Goals as goal

pub returns-in-Ok : goal.returns-in-Ok
returns-in-Ok c = record {
  rising = c.requires.rising;
  kinds = c.requires.kinds;
  history = c.requires.history;
  contents = c.requires.contents;
  timeline = c.in-Ok.ensures.timeline;
  attached = c.in-Ok.ensures.attached;
}
