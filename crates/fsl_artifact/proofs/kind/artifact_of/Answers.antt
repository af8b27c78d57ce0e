use Rattle.std.proofs.Common.{subst}
use Rattle.fsl_card.specs.Cards.{IsCards, IsReading}
use Rattle.fsl_artifact.specs.Kind.{AreOfKind}
use Rattle.fsl_artifact.proofs.OneKind.{of_no_kind, of_this_kind}
use Rattle.fsl_artifact.proofs.kind.artifact_of.Goals as goal

pub returns-in-Some-2 : goal.returns-in-Some-2
returns-in-Some-2 c =
    of_this_kind c.args.bytes.now c.in-Some.cards c.in-Some-2.artifact
    (subst (IsReading IsCards c.args.bytes.now) c.in-Some.is c.in_ok-cards.ensures)
    (subst (IsReading AreOfKind c.in-Some.cards) c.in-Some-2.is c.in_ok-artifact.ensures)

pub returns : goal.returns
returns c =
    of_no_kind c.args.bytes.now c.in-Some.cards
    (subst (IsReading IsCards c.args.bytes.now) c.in-Some.is c.in_ok-cards.ensures)
    (subst (IsReading AreOfKind c.in-Some.cards) c.in-None.is c.in_ok-artifact.ensures)
