use Rattle.std.proofs.Common.{[], Ok, ap, sym, subst, ◌∙◌}
use Rattle.fsl_blobs.specs.Fold.{contents}
use Rattle.fsl_cross.specs.Tables.{tables}
use Rattle.fsl_repo.specs.Machine.{configured}
use Rattle.std.specs.Option.{option_map_or}
use Rattle.fsl_query.specs.Answers.{IsAnswer}
use Rattle.fsl_query.specs.Listings.{tickets_report}
use Rattle.fsl_query.proofs.Alone.{tickets-alone}
use Rattle.fsl_repo.proofs.ItemLemmas.{items_rise}
use Rattle.fsl_query.specs.Reports.{report, files_report, tags_report, thread_of_prefix, ticket_of_prefix, wiki_report}
use Rattle.fsl_query.proofs.Prefixes.{of_one}
use Rattle.fsl_query.proofs.loaded.report_of.Goals as goal

pub returns-in_ok-timeline_of-in-Timeline : goal.returns-in_ok-timeline_of-in-Timeline
returns-in_ok-timeline_of-in-Timeline c =
    let k = contents c.args.blobs.now.records in
    ap (report k c.args.items.now) c.in-Timeline.is ∙ ap Ok (sym (c.in_ok-timeline_of-in-Timeline.ensures (configured k)))

pub returns-in_ok-leaves_of-in-Leaves : goal.returns-in_ok-leaves_of-in-Leaves
returns-in_ok-leaves_of-in-Leaves c =
    let k = contents c.args.blobs.now.records in
    ap (report k c.args.items.now) c.in-Leaves.is ∙ ap Ok (sym (c.in_ok-leaves_of-in-Leaves.ensures (configured k)))

pub returns-in_ok-tags_of-in-Tags : goal.returns-in_ok-tags_of-in-Tags
returns-in_ok-tags_of-in-Tags c =
    let k = contents c.args.blobs.now.records in
    let all = tables (configured k) c.args.items.now in
    ap (report k c.args.items.now) c.in-Tags.is
    ∙ of_one k c.bytes-in-Tags.result.now _ c.in_ok-name-in-Tags.name (λ name. Ok (tags_report all.tags name)) c.bytes-in-Tags.ensures c.in_ok-name-in-Tags.ensures
    ∙ ap Ok (sym (c.in_ok-tags_of-in-Tags.ensures (configured k)))

pub returns-in_ok-name-in-Files : goal.returns-in_ok-name-in-Files
returns-in_ok-name-in-Files c =
    let k = contents c.args.blobs.now.records in
    let all = tables (configured k) c.args.items.now in
    let due =
    ap (report k c.args.items.now) c.in-Files.is
    ∙ of_one k c.bytes-in-Files.result.now _ c.in_ok-name-in-Files.name (files_report all.files) c.bytes-in-Files.ensures c.in_ok-name-in-Files.ensures in
    subst (λ d. IsAnswer d c.files_of.result) (sym due) (c.files_of.ensures (configured k))

pub returns-in-Wiki : goal.returns-in-Wiki
returns-in-Wiki c =
    let k = contents c.args.blobs.now.records in
    let all = tables (configured k) c.args.items.now in
    subst (λ d. IsAnswer d c.wiki_of.result) (ap (wiki_report all.pages) c.bytes-in-Wiki.ensures ∙ sym (ap (report k c.args.items.now) c.in-Wiki.is)) (c.wiki_of.ensures (configured k))

pub returns-in-Thread : goal.returns-in-Thread
returns-in-Thread c =
    let k = contents c.args.blobs.now.records in
    let all = tables (configured k) c.args.items.now in
    subst (λ d. IsAnswer d c.thread_of.result) (ap (thread_of_prefix all) c.bytes-in-Thread.ensures ∙ sym (ap (report k c.args.items.now) c.in-Thread.is)) (c.thread_of.ensures (configured k))

pub ticket_of-requires : goal.ticket_of-requires
ticket_of-requires c = items_rise (contents c.args.blobs.now.records).held c.args.items.now c.requires.held

pub tickets_report-requires : goal.tickets_report-requires
tickets_report-requires c = items_rise (contents c.args.blobs.now.records).held c.args.items.now c.requires.held

pub returns-in_ok-branches_of-in-Branches : goal.returns-in_ok-branches_of-in-Branches
returns-in_ok-branches_of-in-Branches c =
    let k = contents c.args.blobs.now.records in
    ap (report k c.args.items.now) c.in-Branches.is ∙ ap Ok (sym (c.in_ok-branches_of-in-Branches.ensures (configured k)))

pub returns-in_ok-pages_of-in-Pages : goal.returns-in_ok-pages_of-in-Pages
returns-in_ok-pages_of-in-Pages c =
    let k = contents c.args.blobs.now.records in
    ap (report k c.args.items.now) c.in-Pages.is ∙ ap Ok (sym (c.in_ok-pages_of-in-Pages.ensures (configured k)))

pub returns-in_ok-threads_of-in-Threads : goal.returns-in_ok-threads_of-in-Threads
returns-in_ok-threads_of-in-Threads c =
    let k = contents c.args.blobs.now.records in
    ap (report k c.args.items.now) c.in-Threads.is ∙ ap Ok (sym (c.in_ok-threads_of-in-Threads.ensures (configured k)))

pub returns-in_ok-info_of-in-Info : goal.returns-in_ok-info_of-in-Info
returns-in_ok-info_of-in-Info c =
    let k = contents c.args.blobs.now.records in
    ap (report k c.args.items.now) c.in-Info.is ∙ ap Ok (sym c.in_ok-info_of-in-Info.ensures)

pub returns-in-Ticket : goal.returns-in-Ticket
returns-in-Ticket c =
    let k = contents c.args.blobs.now.records in
    let fields = sym (ap (λ o. option_map_or (λ config. config.fields) o []) c.config.ensures) in
    subst (λ d. IsAnswer d c.ticket_of.result)
    ((λ i. ticket_of_prefix (tables (fields i) c.args.items.now) (c.bytes-in-Ticket.ensures i)) ∙ sym (ap (report k c.args.items.now) c.in-Ticket.is)) c.ticket_of.ensures

pub returns-in-Tickets : goal.returns-in-Tickets
returns-in-Tickets c =
    let k = contents c.args.blobs.now.records in
    let fields = c.items-in-Tickets.ensures ∙ sym (ap (λ o. option_map_or (λ config. config.fields) o []) c.config-in-Tickets.ensures) in
    let alone = tickets-alone c.args.items.now (items_rise k.held c.args.items.now c.requires.held) in
    subst (λ d. IsAnswer d c.tickets_report.result)
    ((λ i. tickets_report (fields i) c.in-Tickets.fields (alone i)) ∙ sym (ap (report k c.args.items.now) c.in-Tickets.is)) c.tickets_report.ensures
