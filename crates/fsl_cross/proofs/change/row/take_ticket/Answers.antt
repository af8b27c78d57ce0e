use Rattle.std.proofs.Common.{Some, sym, ap, ◌∙◌}
use Rattle.std.specs.Prelude.{option_and_then}
use Rattle.fsl_table.proofs.Outcomes.{on_ok_map}
use Rattle.fsl_wiki.specs.Pages.{as_note}
use Rattle.fsl_cross.specs.Facts.{pages_fact_of, forum_fact_of}
use Rattle.fsl_cross.specs.Inside.{ticket_row}
use Rattle.fsl_cross.specs.Kinds.{is_attachment, own_id, own_names}
use Rattle.fsl_cross.specs.Mixed.{pushed, tagged_done}
use Rattle.fsl_cross.specs.Tables.{timeline_row_of}
use Rattle.fsl_cross.proofs.Among.{is-item}
use Rattle.fsl_cross.proofs.Ids.{own-named}
use Rattle.fsl_cross.proofs.Pushing.{pushed-before}
use Rattle.fsl_cross.proofs.Rekinded.{ticket-kept}
use Rattle.fsl_cross.proofs.Retagged.{rows-end-more}
use Rattle.fsl_cross.proofs.change.row.take_ticket.Goals as goal

pub start-requires-clause-row : goal.start-requires-clause-row
start-requires-clause-row g c =
    let item = c.args.item.now in
    ap Some (c.in_ok-row.ensures ∙ ap (λ n. ticket_row n c.args.change.now) c.name.ensures) ∙ ap (timeline_row_of c.args.items.now item.name) (sym c.requires.ticket)

pub change_kinds-requires-clause-facts : goal.change_kinds-requires-clause-facts
change_kinds-requires-clause-facts g c = (tagged_done c.args.items.now c.args.item.now.name c.args.changes.now, c.in_ok-start.ensures.facts)

pub returns-clause-facts : goal.returns-clause-facts
returns-clause-facts g c =
    let items = c.args.items.now in
    let item = c.args.item.now in
    let attached = c.args.attached.now in
    let t = c.requires.trail in
    let done = tagged_done items item.name c.args.changes.now in
    let is = is-item items item.name item c.requires.new.there c.requires.kinds in
    let own = ap own_id c.requires.ticket in
    on_ok_map c.change_kinds.result
    (λ go. go done c.in_ok-start.ensures.facts
    ∙ rows-end-more items c.requires.new.rising item c.requires.new.there c.effective_by_row.ensures t.first c.args.tags.now c.args.changes.now t.leads t.told t.before c.requires.tags
    (pushed (is_attachment items) (own_names attached item.artifact) done) (pushed-before (is_attachment items) (own_names attached item.artifact) done)
    (ticket-kept items c.requires.new.rising item c.requires.new.there attached c.requires.attached c.args.change.now.id (own-named is.0 item.artifact c.args.change.now.id is.1 own) own
    (ap (λ a. option_and_then as_note (pages_fact_of item.name a)) c.requires.ticket) (ap (forum_fact_of item.name) c.requires.ticket) done)) c.change_kinds.ensures.facts

pub returns-clause-led : goal.returns-clause-led
returns-clause-led g c = λ first h. c.change_kinds.ensures.led first (c.start.ensures.led first h)
