use Rattle.std.proofs.Common.{◌∙◌, cond, ap, sym, subst}
use Rattle.std.specs.Str.{bytes_eq}
use Rattle.fsl_table.proofs.Outcomes.{on_ok_map}
use Rattle.fsl_tags.specs.Laid.{row_in, AreFull}
use Rattle.fsl_tags.proofs.lay.put_row.Goals as goal

pub set-requires : goal.set-requires
set-requires g c = subst (λ m. AreFull m.entries) (sym c.begin.ensures.held) c.requires

pub returns-clause-row : goal.returns-clause-row
returns-clause-row g c =
    on_ok_map c.set.result (λ put x. put x ∙ ap (λ m. cond (bytes_eq x c.args.name) c.args.row (row_in m.entries x)) c.begin.ensures.held) c.set.ensures.row
