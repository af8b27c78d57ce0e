use Rattle.std.proofs.Common.{◌≡◌, ◌∙◌, ap, sym, subst}
use Rattle.std.specs.BTreeMap.{is_at}
use Rattle.std.specs.List.Sorted.{IsStrictlySortedBy}
use Rattle.std.specs.Map.{keys_of}
use Rattle.fsl_table.specs.Contents.{without_key}
use Rattle.fsl_table.proofs.Entries.{sorted-remove_entry}
use Rattle.fsl_table.proofs.Outcomes.{on_ok_map}
use Rattle.fsl_ticket.specs.Kept.{is_kept_set, setting, setting_cmp}
use Rattle.fsl_ticket.proofs.Canonical.{setting_cmp-IsTotalOrder}
use Rattle.fsl_ticket.proofs.Settings.{set_taken}
use Rattle.fsl_ticket.proofs.sets.take_set.Goals as goal

pub returns-in-Ok-clause-ordered : goal.returns-in-Ok-clause-ordered
returns-in-Ok-clause-ordered g c =
    on_ok_map c.remove.result
    (λ e. subst (λ es. IsStrictlySortedBy setting_cmp (keys_of es)) (sym e) (sorted-remove_entry setting_cmp-IsTotalOrder (is_at (setting_cmp c.in-Ok.key)) c.args.sets.now.held.entries c.requires))
    c.remove.ensures.ok

pub returns-in-Ok-clause-sets : goal.returns-in-Ok-clause-sets
returns-in-Ok-clause-sets g c =
    let ss = c.args.sets.now.held.entries in
    let card = c.args.card.now in
    let key : c.in-Ok.key ≡ setting c.args.id card.field c.args.place = c.in-Ok.ensures in
    on_ok_map c.remove.result
    (λ e k. ap (λ l. is_kept_set l k) (e ∙ ap (λ s. without_key setting_cmp s ss) key) ∙ set_taken c.args.id c.args.place card ss c.requires k c.if-card.false)
    c.remove.ensures.ok
