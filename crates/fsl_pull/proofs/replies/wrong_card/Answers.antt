use Rattle.std.proofs.Common.{ℕ, List, Some, None, Err, sym, subst}
use Rattle.fsl_pull.specs.declared.PeerFault.TheVariants as peer
use Rattle.fsl_pull.specs.Replies.{IsBodyRead}
use Rattle.fsl_pull.proofs.AskLemmas.{private_read, open_read}
use Rattle.fsl_pull.proofs.replies.wrong_card.Goals as goal

pub returns-in-Some : goal.returns-in-Some
returns-in-Some c = private_read c.args.body.now c.args.cards.now c.in-Some.place c.line_of-line.result c.requires (sym c.in-Some.ensures) c.line_of-line.ensures

pub returns-in_ok-of-in-Some-error_card : goal.returns-in_ok-of-in-Some-error_card
returns-in_ok-of-in-Some-error_card c =
    subst (λ (t : List ℕ). IsBodyRead c.args.body.now (Err (peer.Error t))) (sym c.in_ok-of-in-Some-error_card.ensures)
    (open_read c.args.body.now c.args.cards.now (Some c.in-Some-error_card.text.now) c.requires (sym c.in_default.ensures) (sym c.in-Some-error_card.ensures))

pub returns-in-None : goal.returns-in-None
returns-in-None c = open_read c.args.body.now c.args.cards.now None c.requires (sym c.in_default.ensures) (sym c.in-None.ensures)
