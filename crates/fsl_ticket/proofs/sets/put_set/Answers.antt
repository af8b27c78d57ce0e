use Rattle.std.proofs.Common.{◌≡◌, ◌∙◌, ap, sym, subst}
use Rattle.std.specs.List.Sorted.{IsStrictlySortedBy}
use Rattle.std.specs.Map.{keys_of}
use Rattle.fsl_table.specs.Contents.{with_entry}
use Rattle.fsl_table.proofs.Entries.{sorted-insert_entry}
use Rattle.fsl_table.proofs.Outcomes.{on_ok_map}
use Rattle.fsl_ticket.specs.Kept.{is_kept_set, setting, setting_cmp}
use Rattle.fsl_ticket.proofs.Canonical.{setting_cmp-IsTotalOrder}
use Rattle.fsl_ticket.proofs.Settings.{set_put}
use Rattle.fsl_ticket.proofs.sets.put_set.Goals as goal

pub returns-in-Ok-setting-clause-ordered : goal.returns-in-Ok-setting-clause-ordered
returns-in-Ok-setting-clause-ordered g c =
    on_ok_map c.put.result
    (λ e. subst (λ es. IsStrictlySortedBy setting_cmp (keys_of es)) (sym e) (sorted-insert_entry setting_cmp-IsTotalOrder c.in-Ok.key tt c.args.sets.now.held.entries c.requires))
    c.put.ensures.ok

pub returns-in-Ok-setting-clause-sets : goal.returns-in-Ok-setting-clause-sets
returns-in-Ok-setting-clause-sets g c =
    let ss = c.args.sets.now.held.entries in
    let card = c.args.card.now in
    let key : c.in-Ok.key ≡ setting c.args.id card.field c.args.place = c.in-Ok.ensures in
    on_ok_map c.put.result
    (λ e k. ap (λ l. is_kept_set l k) (e ∙ ap (λ s. with_entry setting_cmp s tt ss) key) ∙ set_put c.args.id c.args.place card ss k c.if-card.false)
    c.put.ensures.ok
