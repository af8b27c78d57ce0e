use Rattle.std.proofs.Common.{◌≡◌, ℕ, ◌≤◌, List, Option, refl, sym, ap, subst, ◌∙◌}
use Rattle.fsl_disk.proofs.Moments.{keeps_on, quiet_on}
use Rattle.fsl_wire.specs.declared.WireCard.{WireCard}
use Rattle.fsl_repo.specs.Machine.{State}
use Rattle.fsl_pull.specs.PushTurns.{IsPushTaken}
use Rattle.fsl_pull.specs.Reads.{IsPushed}
use Rattle.fsl_pull.proofs.DialCounts.{push_counts}
use Rattle.fsl_pull.proofs.KeptLemmas.{same_quiet, itself_quiet}
use Rattle.fsl_pull.proofs.PushTurnLemmas.{taken_turn, unread_turn, lost_turn, left_turn, unsent_turn, unsent_counts, no_turn}
use Rattle.fsl_pull.proofs.pushing.push_round.Goals as goal

pub returns-in-Err-push_request-clause-round : goal.returns-in-Err-push_request-clause-round
returns-in-Err-push_request-clause-round g c =
    unsent_turn c.args.login.now c.args.gimmes.now (g.N.Link.state c.args.dial.now) (g.D.Disk.state c.args.repo.now.disk) (g.D.Disk.state c.push_request.new.repo.disk) c.args.repo.now.seen c.push_request.new.repo.seen c.args.sent.now c.args.sent.now
    c.deref.result.now c.in-Err-push_request.fault (c.deref.ensures.value ∙ c.in-Ok-due.ensures) c.in-Err-push_request.ensures.fault (c.push_request.ensures.repo).quiet

pub returns-in-Err-push_request-clause-counts : goal.returns-in-Err-push_request-clause-counts
returns-in-Err-push_request-clause-counts g c =
    unsent_counts (Option (List (List ℕ))) (g.N.Link.state c.args.dial.now) c.args.repo.now.seen.state c.deref.result.now c.in-Err-push_request.fault c.push_request.new.repo.seen.state c.in-Err-push_request.ensures.fault

pub returns-in-Err-push_request-clause-later : goal.returns-in-Err-push_request-clause-later
returns-in-Err-push_request-clause-later g c = ((c.push_request.ensures.repo).state).faults

pub returns-in-Err-push_request-clause-loaded : goal.returns-in-Err-push_request-clause-loaded
returns-in-Err-push_request-clause-loaded g c = (c.push_request.ensures.repo).loaded

pub returns-in-Err-push_request-clause-keeps : goal.returns-in-Err-push_request-clause-keeps
returns-in-Err-push_request-clause-keeps g c = ((c.push_request.ensures.repo).quiet).keeps

pub returns-in-Ok-Ok-clause-round : goal.returns-in-Ok-Ok-clause-round
returns-in-Ok-Ok-clause-round g c =
    let before = g.D.Disk.state c.args.repo.now.disk in
    let mid = g.D.Disk.state c.push_request.new.repo.disk in
    let after = g.D.Disk.state c.take_reply.new.repo.disk in
    let old = c.args.repo.now.seen in
    let old2 = c.push_request.new.repo.seen in
    let new = c.take_reply.new.repo.seen in
    let sent = c.args.sent.now in
    let sent_new = c.take_reply.new.sent in
    let result = c.take_reply.result in
    let quiet = (c.push_request.ensures.repo).quiet in
    taken_turn c.args.login.now c.args.gimmes.now (g.N.Link.state c.args.dial.now) (g.N.Link.state c.send_and_read.new.dial) before after old new sent sent_new
    c.bytes.result.now c.items.result.now c.deref.result.now (c.is_whole.ensures.seen).items (c.items.ensures ∙ c.in-Ok.ensures) (c.deref.ensures.value ∙ c.in-Ok-due.ensures)
    (subst (λ (text : List ℕ). IsPushed c.args.login.now old.state c.items.result.now c.deref.result.now text) (sym c.bytes.ensures) c.in-Ok-push_request.ensures.request)
    mid old2 (c.take_reply.new.repo.disk ≡ c.push_request.new.repo.disk) quiet (λ f model left. g.met.D.Disk.only_now c.args.repo.now.disk f model left)
    (λ e. quiet_on before mid after quiet (same_quiet g.D.Disk.state c.push_request.new.repo.disk c.take_reply.new.repo.disk e)) c.in-Ok-push_request.ensures.count
    c.in-Ok-Ok.reply result (rw c.in-Ok-Ok.field-0-is at c.in-Ok-Ok.ensures.asked)
    (subst (λ (due : List (List ℕ)). IsPushTaken due c.in-Ok-Ok.reply mid after old2 new sent sent_new (c.take_reply.new.repo.disk ≡ c.push_request.new.repo.disk) result) (c.deref-in-Ok-Ok.ensures.value ∙ sym c.deref.ensures.value)
    (subst (λ (cs : List WireCard). IsPushTaken c.deref-in-Ok-Ok.result.now cs mid after old2 new sent sent_new (c.take_reply.new.repo.disk ≡ c.push_request.new.repo.disk) result) c.cards.ensures c.take_reply.ensures.step))

pub returns-in-Ok-Ok-clause-later : goal.returns-in-Ok-Ok-clause-later
returns-in-Ok-Ok-clause-later g c =
    subst (λ (s : State). s.faults ≤ c.take_reply.new.repo.seen.state.faults) c.in-Ok-push_request.ensures.count c.take_reply.ensures.later

pub returns-in-Ok-Ok-clause-loaded : goal.returns-in-Ok-Ok-clause-loaded
returns-in-Ok-Ok-clause-loaded g c = c.take_reply.ensures.loaded ∙ (c.push_request.ensures.repo).loaded

pub returns-in-Ok-Ok-clause-keeps : goal.returns-in-Ok-Ok-clause-keeps
returns-in-Ok-Ok-clause-keeps g c =
    keeps_on (g.D.Disk.state c.args.repo.now.disk) (g.D.Disk.state c.push_request.new.repo.disk) (g.D.Disk.state c.take_reply.new.repo.disk) ((c.push_request.ensures.repo).quiet).keeps c.take_reply.ensures.keeps

pub returns-in-Ok-Err-clause-round : goal.returns-in-Ok-Err-clause-round
returns-in-Ok-Err-clause-round g c =
    unread_turn c.args.login.now c.args.gimmes.now (g.N.Link.state c.args.dial.now) (g.N.Link.state c.send_and_read.new.dial) (g.D.Disk.state c.args.repo.now.disk) (g.D.Disk.state c.push_request.new.repo.disk) c.args.repo.now.seen c.push_request.new.repo.seen c.args.sent.now c.args.sent.now
    c.bytes.result.now c.items.result.now c.deref.result.now (c.is_whole.ensures.seen).items (c.items.ensures ∙ c.in-Ok.ensures) (c.deref.ensures.value ∙ c.in-Ok-due.ensures)
    (subst (λ (text : List ℕ). IsPushed c.args.login.now c.args.repo.now.seen.state c.items.result.now c.deref.result.now text) (sym c.bytes.ensures) c.in-Ok-push_request.ensures.request)
    c.in-Ok-Err.why (rw c.in-Ok-Err.field-0-is at c.in-Ok-Err.ensures.asked) c.in-Ok-push_request.ensures.count (c.push_request.ensures.repo).quiet

pub returns-in-Err-Link-clause-round : goal.returns-in-Err-Link-clause-round
returns-in-Err-Link-clause-round g c =
    lost_turn c.args.login.now c.args.gimmes.now (g.N.Link.state c.args.dial.now) (g.N.Link.state c.send_and_read.new.dial) (g.D.Disk.state c.args.repo.now.disk) (g.D.Disk.state c.push_request.new.repo.disk) c.args.repo.now.seen c.push_request.new.repo.seen c.args.sent.now c.args.sent.now
    c.bytes.result.now c.items.result.now c.deref.result.now (c.is_whole.ensures.seen).items (c.items.ensures ∙ c.in-Ok.ensures) (c.deref.ensures.value ∙ c.in-Ok-due.ensures)
    (subst (λ (text : List ℕ). IsPushed c.args.login.now c.args.repo.now.seen.state c.items.result.now c.deref.result.now text) (sym c.bytes.ensures) c.in-Ok-push_request.ensures.request)
    (rw c.in-Err-Link.field-0-is at c.in-Err-Link.ensures.unasked) c.in-Ok-push_request.ensures.count (c.push_request.ensures.repo).quiet

pub returns-clause-round : goal.returns-clause-round
returns-clause-round g c =
    left_turn c.args.login.now c.args.gimmes.now (g.N.Link.state c.args.dial.now) (g.N.Link.state c.send_and_read.new.dial) (g.D.Disk.state c.args.repo.now.disk) (g.D.Disk.state c.push_request.new.repo.disk) c.args.repo.now.seen c.push_request.new.repo.seen c.args.sent.now c.args.sent.now
    c.bytes.result.now c.items.result.now c.deref.result.now (c.is_whole.ensures.seen).items (c.items.ensures ∙ c.in-Ok.ensures) (c.deref.ensures.value ∙ c.in-Ok-due.ensures)
    (subst (λ (text : List ℕ). IsPushed c.args.login.now c.args.repo.now.seen.state c.items.result.now c.deref.result.now text) (sym c.bytes.ensures) c.in-Ok-push_request.ensures.request)
    (rw c.in-Err-Memory.field-0-is at c.in-Err-Memory.ensures.unasked) c.in-Ok-push_request.ensures.count (c.push_request.ensures.repo).quiet

pub returns-in-Ok-Ok-clause-counts : goal.returns-in-Ok-Ok-clause-counts
returns-in-Ok-Ok-clause-counts g c =
    push_counts c.deref-in-Ok-Ok.result.now c.cards.result.now (g.D.Disk.state c.push_request.new.repo.disk) (g.D.Disk.state c.take_reply.new.repo.disk) c.push_request.new.repo.seen c.take_reply.new.repo.seen c.args.sent.now c.take_reply.new.sent
    (c.take_reply.new.repo.disk ≡ c.push_request.new.repo.disk) c.take_reply.result (g.N.Link.state c.args.dial.now) (g.N.Link.state c.send_and_read.new.dial) c.take_reply.ensures.step c.in-Ok-Ok.ensures.counts

pub returns-in-Err-clause-round : goal.returns-in-Err-clause-round
returns-in-Err-clause-round g c =
    no_turn c.args.login.now c.args.gimmes.now (g.N.Link.state c.args.dial.now) (g.D.Disk.state c.args.repo.now.disk) (g.D.Disk.state c.args.repo.now.disk) c.args.repo.now.seen c.args.repo.now.seen c.args.sent.now c.args.sent.now refl (itself_quiet (g.D.Disk.state c.args.repo.now.disk))

pub returns-in-Err-due-clause-round : goal.returns-in-Err-due-clause-round
returns-in-Err-due-clause-round g c =
    no_turn c.args.login.now c.args.gimmes.now (g.N.Link.state c.args.dial.now) (g.D.Disk.state c.args.repo.now.disk) (g.D.Disk.state c.args.repo.now.disk) c.args.repo.now.seen c.args.repo.now.seen c.args.sent.now c.args.sent.now refl (itself_quiet (g.D.Disk.state c.args.repo.now.disk))

pub returns-in-Ok-Err-clause-later : goal.returns-in-Ok-Err-clause-later
returns-in-Ok-Err-clause-later g c =
    ((c.push_request.ensures.repo).state).faults

pub returns-in-Ok-Err-clause-loaded : goal.returns-in-Ok-Err-clause-loaded
returns-in-Ok-Err-clause-loaded g c =
    (c.push_request.ensures.repo).loaded

pub returns-in-Ok-Err-clause-keeps : goal.returns-in-Ok-Err-clause-keeps
returns-in-Ok-Err-clause-keeps g c =
    ((c.push_request.ensures.repo).quiet).keeps

pub returns-in-Err-Link-clause-later : goal.returns-in-Err-Link-clause-later
returns-in-Err-Link-clause-later g c =
    ((c.push_request.ensures.repo).state).faults

pub returns-in-Err-Link-clause-loaded : goal.returns-in-Err-Link-clause-loaded
returns-in-Err-Link-clause-loaded g c =
    (c.push_request.ensures.repo).loaded

pub returns-in-Err-Link-clause-keeps : goal.returns-in-Err-Link-clause-keeps
returns-in-Err-Link-clause-keeps g c =
    ((c.push_request.ensures.repo).quiet).keeps

pub returns-clause-later : goal.returns-clause-later
returns-clause-later g c =
    ((c.push_request.ensures.repo).state).faults

pub returns-clause-loaded : goal.returns-clause-loaded
returns-clause-loaded g c =
    (c.push_request.ensures.repo).loaded

pub returns-clause-keeps : goal.returns-clause-keeps
returns-clause-keeps g c =
    ((c.push_request.ensures.repo).quiet).keeps

pub take_reply-requires : goal.take_reply-requires
take_reply-requires g c =
    record { runs = ap (λ (s : State). s.stopped) c.in-Ok-push_request.ensures.count ∙ c.requires.runs }
