use Rattle.std.proofs.Common.{sym, subst, ◌∙◌}
use Rattle.fsl_order.specs.Maps.{value_at}
use Rattle.fsl_query.specs.Gathering.{NotesTitle}
use Rattle.fsl_query.proofs.ListingLemmas.{title_comes}
use Rattle.fsl_query.proofs.Outcomes.{none_from, on_ok_map}
use Rattle.fsl_query.proofs.threads.put_title.Goals as goal

pub returns : goal.returns
returns c =
    let old = c.args.titles.now.entries in
    let row = c.args.row.now in
    on_ok_map c.write_title.result
    (λ written. subst (NotesTitle old c.write_title.new.titles.entries row.name) (c.in_ok-of.ensures ∙ c.bytes.ensures)
    (title_comes old c.write_title.new.titles.entries row.name c.in_ok-of.field-0 (none_from (value_at old row.name) (sym c.contains_key.ensures ∙ c.if-contains_key.false)) written))
    c.write_title.ensures
