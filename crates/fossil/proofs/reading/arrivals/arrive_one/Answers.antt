use Rattle.std.proofs.Common.{◌≡◌, ℕ, ◌++◌, List, Result, Ok, Err, Option, Some, ap, subst, ◌∙◌}
use Rattle.fsl_record.specs.Receipts.{Brought}
use Rattle.fsl_repo.specs.declared.Arrival.{Arrival}
use Rattle.fsl_repo.specs.declared.ArriveFault.{ArriveFault}
use Rattle.fsl_repo.specs.Machine.{State, ArriveStep}
use Rattle.fossil.specs.declared.reading.message.MessageFile.{MessageFile}
use Rattle.fossil.specs.Printed.{name_line}
use Rattle.fossil.proofs.ArrivalLemmas.{not_stopped}
use Rattle.fossil.proofs.reading.arrivals.arrive_one.Goals as goal

-- the bytes that arrive are those of the file
stepped : (receipt : Option Brought) (s new : State) (f : MessageFile) (bytes : List ℕ) (r : Result Arrival ArriveFault) → bytes ≡ f.bytes → ArriveStep s f.name receipt bytes f.private r new → ArriveStep s f.name receipt f.bytes f.private r new
stepped receipt s new f bytes r same step = subst (λ (b : List ℕ). ArriveStep s f.name receipt b f.private r new) same step

pub file_refusal-requires : goal.file_refusal-requires
file_refusal-requires g c =
    not_stopped (Some c.args.receipt.now) c.args.repo.now.seen.state c.receive-came.new.self.seen.state c.args.file c.in-Err.fault c.requires.runs
    (stepped (Some c.args.receipt.now) c.args.repo.now.seen.state c.receive-came.new.self.seen.state c.args.file c.bytes.result.now (Err c.in-Err.fault) c.bytes.ensures c.in-Err.ensures.step)

pub returns-in_ok-add_line-in-Ok-clause-come : goal.returns-in_ok-add_line-in-Ok-clause-come
returns-in_ok-add_line-in-Ok-clause-come g c = (
  c.in-Ok.arrival,
  stepped (Some c.args.receipt.now) c.args.repo.now.seen.state c.receive-came.new.self.seen.state c.args.file c.bytes.result.now (Ok c.in-Ok.arrival) c.bytes.ensures c.in-Ok.ensures.step,
  c.in_ok-add_line-in-Ok.ensures ∙ ap (λ word. c.args.text.now ++ name_line word c.args.file.name) c.word.ensures,
)

pub returns-in_ok-file_refusal-in-Err-clause-come : goal.returns-in_ok-file_refusal-in-Err-clause-come
returns-in_ok-file_refusal-in-Err-clause-come g c = (
  c.in-Err.fault,
  stepped (Some c.args.receipt.now) c.args.repo.now.seen.state c.receive-came.new.self.seen.state c.args.file c.bytes.result.now (Err c.in-Err.fault) c.bytes.ensures c.in-Err.ensures.step,
  c.in_ok-file_refusal-in-Err.ensures,
)
