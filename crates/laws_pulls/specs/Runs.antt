-- The law of pulls each way, of two runs of `pull-local`.
use Rattle.std.specs.Prelude.{◌≡◌, ℕ, Bool, true, false, List, length}
use Rattle.fsl_record.specs.declared.Record.{Record}
use Rattle.fsl_journal.specs.File.{IsFileOf}
use Rattle.fsl_blobs.specs.Fold.{contents}
use Rattle.fsl_words.specs.declared.Question.{Question}
use Rattle.fsl_words.specs.declared.Command.TheVariants.{PullLocal}
use Rattle.fossil.specs.Outcome.{Outcome, IsAnswered}
use Rattle.fossil.specs.Run.{after_commits}
use Rattle.fossil.specs.Synced.{Read, IsSyncOutcome}
use Rattle.laws_pulls.specs.Shown.{is_of_file, ShowTheSame}
use Rattle.laws_pulls.specs.Pulls.{AreAlike}

-- what the file stands for behind a run
abbrev pub behind : List Record → Outcome → List Record
behind old o = after_commits old o.commits (length o.commits)

-- a run of `pull-local` with status 0, over a file and a peer's file that stand for these records; the peer's disk tells its contents and meets the disk model
pub record RunsWell (old there : List Record) (o : Outcome) : Type 0 where
  pub path : List ℕ
  pub read : Read
  pub file : IsFileOf read.file old
  pub peer : IsFileOf read.peer there
  pub honest : read.peer_honest ≡ true
  pub outcome : IsSyncOutcome (PullLocal path) read o
  pub well : o.status ≡ 0

-- an outcome of a report of the one is one of the other
pub record AnswerTheSame (a b : List Record) : Type 0 where
  pub there : (honest : Bool) (question : Question) (o : Outcome) → is_of_file question ≡ false → IsAnswered honest question a o → IsAnswered honest question b o
  pub back : (honest : Bool) (question : Question) (o : Outcome) → is_of_file question ≡ false → IsAnswered honest question b o → IsAnswered honest question a o

pub record RunsShowTheSame (a b : List Record) : Type 0 where
  pub shown : ShowTheSame (contents a) (contents b)
  pub answered : AnswerTheSame a b

-- Law. Two runs of `pull-local`, one each way, both with status 0: the second finds the first file as the first run left it. Behind both the two files hold the
-- same artifacts, and each report of the one is that of the other
abbrev pub RunsEachWay : Type 0
RunsEachWay =
    (a b : List Record) (one two : Outcome) → AreAlike (contents a) (contents b) → RunsWell a b one → RunsWell b (behind a one) two →
    RunsShowTheSame (behind a one) (behind b two)
