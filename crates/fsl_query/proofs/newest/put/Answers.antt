use Rattle.std.proofs.Common.{sym, ◌∙◌}
use Rattle.fsl_query.proofs.Outcomes.{on_ok_map}
use Rattle.fsl_query.proofs.NewestLemmas.{written_newer}
use Rattle.fsl_query.proofs.newest.put.Goals as goal

pub returns-then-is_newer : goal.returns-then-is_newer
returns-then-is_newer c =
    on_ok_map c.write.result
    (λ written. written_newer c.args.newest.now.entries c.write.new.newest.entries c.args.key.now c.in_ok-key.key c.args.one c.in_ok-key.ensures (sym c.is_newer.ensures ∙ c.if-is_newer.true) written)
    c.write.ensures
