use Rattle.std.proofs.Common.{ap, sym, ◌∙◌, arith}
use Rattle.fsl_card.specs.Writing.{sealed_text}
use Rattle.fsl_manifest.specs.Writing.{manifest_cards}
use Rattle.fsl_forms.specs.Writing.{control_cards, forum_cards, ticket_cards}
use Rattle.fsl_gen.specs.Table.{name_among}
use Rattle.fsl_gen.proofs.Rows.{checkin_row, control_row, post_row, ticket_row, written_as}
use Rattle.fsl_gen.proofs.Texts.{of_names, reaches}
use Rattle.fsl_gen.proofs.text.artifact.Goals as goal

pub returns-in_ok-checkin-in-0 : goal.returns-in_ok-checkin-in-0
returns-in_ok-checkin-in-0 c =
    let names = c.args.names.now in
    let i = c.args.number in
    written_as c.write.result _ _
    (ap (λ m. sealed_text (manifest_cards m)) c.in_ok-checkin-in-0.ensures.value
    ∙ sym (checkin_row (name_among names) i c.in-0.is) ∙ of_names names i c.requires.before)
    c.write.ensures.written

pub returns-in_ok-control-in-1 : goal.returns-in_ok-control-in-1
returns-in_ok-control-in-1 c =
    let names = c.args.names.now in
    let i = c.args.number in
    written_as c.write-in-1.result _ _
    (ap (λ m. sealed_text (control_cards m)) c.in_ok-control-in-1.ensures.value
    ∙ sym (control_row (name_among names) i c.in-1.is) ∙ of_names names i c.requires.before)
    c.write-in-1.ensures.written

pub returns-in_ok-ticket-in-2 : goal.returns-in_ok-ticket-in-2
returns-in_ok-ticket-in-2 c =
    let names = c.args.names.now in
    let i = c.args.number in
    written_as c.write-in-2.result _ _
    (ap (λ m. sealed_text (ticket_cards m)) c.in_ok-ticket-in-2.ensures.value
    ∙ sym (ticket_row (name_among names) i c.in-2.is) ∙ of_names names i c.requires.before)
    c.write-in-2.ensures.written

pub returns-in_ok-post-in_default : goal.returns-in_ok-post-in_default
returns-in_ok-post-in_default c =
    let names = c.args.names.now in
    let i = c.args.number in
    written_as c.write-in_default.result _ _
    (ap (λ m. sealed_text (forum_cards m)) c.in_ok-post-in_default.ensures.value
    ∙ sym (post_row (name_among names) i (omega arith)) ∙ of_names names i c.requires.before)
    c.write-in_default.ensures.written

pub checkin-requires-clause-before : goal.checkin-requires-clause-before
checkin-requires-clause-before c = omega (arith, reaches c.args.names.now c.args.number c.requires.before)

pub control-requires-clause-before : goal.control-requires-clause-before
control-requires-clause-before c = omega (arith, reaches c.args.names.now c.args.number c.requires.before)

pub post-requires-clause-before : goal.post-requires-clause-before
post-requires-clause-before c = omega (arith, reaches c.args.names.now c.args.number c.requires.before)
