use Rattle.std.proofs.Common.{◌≤◌, ◌^◌, ◌∙◌, ap, sym, length, subst, ℕ}
use Rattle.std.proofs.Common.{List}
use Rattle.fsl_name.specs.Name.{name_of}
use Rattle.fsl_uv.proofs.Sizes.{entry-fits}
use Rattle.fsl_uv.proofs.storing.record_of.Goals as goal

pub returns-clause-fit : goal.returns-clause-fit
returns-clause-fit c = (
  c.of.ensures.value ∙ ap name_of c.bytes.ensures,
  subst (λ (t : List ℕ). length t ≤ 2 ^ 24) (sym c.in_ok-bytes.ensures) (entry-fits c.args.entry.now c.requires),
)
