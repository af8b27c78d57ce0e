use Rattle.std.proofs.Common.{[], map, sym, ap, subst, ◌∙◌}
use Rattle.std.specs.List.Sorted.{IsStrictlySortedBy}
use Rattle.std.specs.Option.{option_map_or}
use Rattle.fsl_order.specs.Names.{bytes_cmp}
use Rattle.fsl_repo.specs.Machine.{now}
use Rattle.fsl_repo.proofs.ItemLemmas.{items_rise}
use Rattle.fsl_query.specs.Answers.{IsAnswer}
use Rattle.fsl_query.specs.Listings.{tickets_report}
use Rattle.fsl_query.proofs.RepoLemmas.{own_changes}
use Rattle.fsl_query.proofs.answering.tickets_of.Goals as goal

pub tickets_report-requires : goal.tickets_report-requires
tickets_report-requires g c =
    let seen = c.args.repo.now.seen in
    subst (λ items. IsStrictlySortedBy bytes_cmp (map (λ i. i.name) items)) (sym (c.items.ensures ∙ c.tables.ensures.items)) (items_rise (now seen.state).held seen.items c.is_whole.ensures.seen.items)

pub returns : goal.returns
returns g c =
    let seen = c.args.repo.now.seen in
    let changes = own_changes seen c.is_whole.ensures.seen.items c.items.result.now (c.items.ensures ∙ c.tables.ensures.items) in
    let fields = c.items-configured.ensures ∙ sym (ap (λ o. option_map_or (λ config. config.fields) o []) c.config.ensures) in
    subst (λ d. IsAnswer d c.tickets_report.result) (λ i. tickets_report (fields i) c.args.asked.now (changes i)) c.tickets_report.ensures
