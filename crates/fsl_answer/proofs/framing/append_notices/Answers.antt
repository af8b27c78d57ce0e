use Rattle.fsl_answer.specs.Replies.{error_line}
use Rattle.fsl_answer.proofs.ReplyLemmas.{notices_taken}
use Rattle.fsl_answer.proofs.framing.append_notices.Goals as goal

pub returns : goal.returns
returns c = notices_taken c.args.into.now c.loop-notice.into c.args.notices.now c.min.result c.loop-notice.notice-index error_line c.min.ensures c.loop-notice-test.false c.loop-notice.invariant
