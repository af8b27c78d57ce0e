use Rattle.laws_replies.proofs.Fitting.{session_replies_fit}
use Rattle.laws_replies.proofs.replies.session_replies_fit.Goals as goal

pub returns : goal.returns
returns c = session_replies_fit
