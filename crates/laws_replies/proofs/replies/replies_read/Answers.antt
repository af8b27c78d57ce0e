use Rattle.laws_replies.proofs.ReadBack.{replies_read}
use Rattle.laws_replies.proofs.replies.replies_read.Goals as goal

pub returns : goal.returns
returns c = replies_read c.reads_back.ensures
