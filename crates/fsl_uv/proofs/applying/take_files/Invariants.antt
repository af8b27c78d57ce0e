use Rattle.std.proofs.Common.{◌≡◌, ◌≤◌, None, length}
use Rattle.std.specs.List.{AllByRecursion}
use Rattle.fsl_uv.specs.Applying.{AreAsThose, StillLeadsBack}
use Rattle.fsl_uv.specs.Cards.{IsCard}
use Rattle.fsl_uv.specs.Laws.{Rises}
use Rattle.fsl_uv.proofs.applying.take_files.Given as goal

-- what is left of the cards, put in here, leaves what all of them leave
abbrev pub invariant-loop-card : goal.invariant-loop-card
invariant-loop-card l = record {
  ahead : AreAsThose l.fn.journal l.fn.held l.fn.cards.items l.journal l.held l.card-iterator.rest.items;
  runs : l.journal.stopped ≡ None;
  stable : l.journal.stable ≤ length l.journal.records;
  as_many : length l.journal.places ≡ length l.journal.records;
  rises : Rises l.held;
  undo : StillLeadsBack l.fn.journal l.fn.held l.fn.changes.items l.journal l.held l.changes.items;
  good : AllByRecursion IsCard l.card-iterator.rest.items;
}
