use Rattle.std.proofs.lemmas.Result.{err_from_is_err_and}
use Rattle.fossil.proofs.QuestionLemmas.{short_told, disk_told, memory_told}
use Rattle.fossil.proofs.answers.reporting.fault_answer.Goals as goal

pub returns-in_err-question_refusal-in-Refused : goal.returns-in_err-question_refusal-in-Refused
returns-in_err-question_refusal-in-Refused c =
    let p = err_from_is_err_and c.from_residual.result c.from_residual.ensures.1 in
    rw (p.1, p.2) (short_told c.in-Refused.refused c.args.fault c.in-Refused.is)

pub returns-in-Disk : goal.returns-in-Disk
returns-in-Disk c = disk_told c.args.fault c.in-Disk.is

pub returns-in-Memory : goal.returns-in-Memory
returns-in-Memory c = memory_told c.args.fault c.in-Memory.is
