use Rattle.std.proofs.Common.{sym, subst}
use Rattle.fsl_table.proofs.Outcomes.{if_ok_map}
use Rattle.fsl_wiki.specs.Kept.{ListsPut}
use Rattle.fsl_wiki.proofs.Changing.{page_changed}
use Rattle.fsl_wiki.proofs.rows.put_page.Goals as goal

pub returns-clause-changed : goal.returns-clause-changed
returns-clause-changed g c =
    let es = c.args.maps.now.facts.held.entries in
    if_ok_map c.one.result
    (λ list is. subst (ListsPut c.args.name c.args.entry es) (sym is)
    (page_changed es c.requires.kept.ordered c.args.name c.args.entry c.requires.absent c.requires.page))
    c.one.ensures
