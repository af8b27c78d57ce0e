-- What a crash leaves in the midst of a history.
use Rattle.std.specs.Prelude.{List}
use Rattle.fsl_disk.specs.Disk.{DiskState, IsModelled, LeavesOnly}
use Rattle.fsl_journal.specs.Log.{StandsBetween}
use Rattle.fsl_repo.specs.Whole.{Whole, IsWholeOn, front}
use Rattle.fsl_turn.specs.Told.{Runs}
use Rattle.fsl_serve.specs.Calls.{Call}
use Rattle.fsl_serve.specs.Ordered.{steps_by}

-- Law. From each state of a history on, what a crash leaves at each moment stands for a front of the records that the history comes to, with
-- those at least that were committed in that state: so what a commit was answered Ok for stays from then on
abbrev pub StandsInTheMidst : {D : Type 0} → (D → DiskState) → Type 0
StandsInTheMidst {D} tells =
    (first last : Whole D) (made : List Call) → IsWholeOn (tells first.disk) first → IsModelled (tells first.disk) → Runs (steps_by tells) first made last →
    LeavesOnly (tells first.disk) (tells last.disk) (StandsBetween (front first.seen.state) last.seen.state.records)
