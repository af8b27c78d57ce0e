use Rattle.std.proofs.Common.{sym, subst, ◌∙◌, arith}
use Rattle.fsl_text.specs.Tokens.{AreTokens}
use Rattle.fsl_text.proofs.TokenLemmas.{scanned_plain, scanned_blank, scanned_all, are_tokens}
use Rattle.fsl_text.proofs.token.tokens.Goals as goal
use Rattle.fsl_text.proofs.token.tokens.Goals.{then-is_blank+in_ok-push_token, else-is_blank}

pub loop-at-preserved : goal.loop-at-preserved
loop-at-preserved c =
    elim c.if-is_blank.branch [
      | then-is_blank+in_ok-push_token w ↦ rw w.from-is (scanned_blank c.args.line.now c.loop-at.from c.loop-at.at c.loop-at.spans _ c.loop-at-test.true (sym c.is_blank.ensures ∙ w.if-is_blank.true) (w.spans-is ∙ w.in_ok-push_token.ensures) c.loop-at.invariant)
      | else-is_blank w ↦ rw (w.from-is, w.spans-is) (scanned_plain c.args.line.now c.loop-at.from c.loop-at.at c.loop-at.spans (sym c.is_blank.ensures ∙ w.if-is_blank.false) c.loop-at.invariant)
    ]

pub returns-clause-spans : goal.returns-clause-spans
returns-clause-spans c =
    scanned_all c.args.line.now c.loop-at.from c.loop-at.at c.loop-at.spans _ (omega arith) c.in_ok-push_token-2.ensures c.loop-at.invariant

pub returns-clause-every : goal.returns-clause-every
returns-clause-every c =
    subst (AreTokens c.args.line.now) (sym (returns-clause-spans c)) (are_tokens c.args.line.now)
