use Rattle.std.proofs.Common.{List, ℕ, ◌≤◌, ◌^◌, length, sym, subst, ◌∙◌, refl}
use Rattle.fsl_wire.specs.declared.WireCard.{WireCard}
use Rattle.fsl_wire.specs.Messages.{IsMessage, IsReadFault}
use Rattle.fsl_serve.specs.Session.{login_in}
use Rattle.fsl_serve.specs.Sessions.{sent_of}
use Rattle.fsl_serve.specs.Sessions.IsReplied.{judged}
use Rattle.fsl_serve.proofs.Answering.{said_no_login, said_malformed}
use Rattle.fsl_serve.proofs.Logins.{login_short}
use Rattle.fsl_serve.proofs.serving.hear.Goals as goal

pub returns-in-Ok-clause-unheard : goal.returns-in-Ok-clause-unheard
returns-in-Ok-clause-unheard c =
    let message = c.in-Ok.draft.message in
    let sent = sent_of c.login_failed.result in
    λ project. judged c.args.body message refl (subst (λ (b : List ℕ). IsMessage b message) c.bytes.ensures c.in-Ok.ensures.message)
    (said_no_login c.args.users.now project message c.in-Err-granted_by.field-0 sent (sym c.granted_by.ensures.granted ∙ c.in-Err-granted_by.is) c.login_failed.ensures)

pub returns-clause-unheard : goal.returns-clause-unheard
returns-clause-unheard c =
    let fault = c.in-Err.fault in
    let bad = subst (λ (b : List ℕ). IsReadFault b fault) c.bytes.ensures c.in-Err.ensures.fault in
    λ project. said_malformed c.args.users.now project c.args.body fault (sent_of c.unread.result) bad c.unread.ensures.line c.unread.ensures.memory

pub returns-in-Ok-granted_by-clause-short : goal.returns-in-Ok-granted_by-clause-short
returns-in-Ok-granted_by-clause-short c =
    let granted = login_short c.args.users.now c.in-Ok.draft.message _ c.in-Ok-granted_by.caps c.items.ensures.users (sym c.granted_by.ensures.granted ∙ c.in-Ok-granted_by.is) in
    subst (λ (m : List WireCard). length (login_in m) ≤ 2 ^ 20) (sym (c.into_message.ensures ∙ c.granted_by.ensures.message)) granted
