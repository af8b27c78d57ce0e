use Rattle.std.proofs.Common.{sym, ap, Some, ◌∷◌, ◌∙◌}
use Rattle.atomic_table.specs.Table.{rest}
use Rattle.fsl_history.proofs.ticketed.Ticketed.work.Goals as goal

pub slot_mut-requires : goal.slot_mut-requires
slot_mut-requires g c =
    let out = c.requires.out.2 in
    let has = ap (λ x. x.1) out.1 in
    (c.requires.table, (Some out.0, has ∙ ap (λ l. (0, Some out.0) ∷ rest l) (sym has)))
