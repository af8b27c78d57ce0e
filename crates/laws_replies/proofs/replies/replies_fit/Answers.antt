use Rattle.laws_replies.proofs.Fitting.{replies_fit}
use Rattle.laws_replies.proofs.replies.replies_fit.Goals as goal

pub returns : goal.returns
returns c = replies_fit
