use Rattle.std.proofs.Common.{rules, ◌≡◌, ◌≤◌, length, subst, ℕ}
use Rattle.fsl_uv.specs.Maps.{total}
use Rattle.fsl_uv.specs.Holding.{size_at}
use Rattle.fsl_uv.proofs.HeldLemmas.{size-within}
use Rattle.fsl_uv.proofs.held.Held.size_of.Goals as goal

pub returns-in-Some-clause-within : goal.returns-in-Some-clause-within
returns-in-Some-clause-within c =
    let is : size_at c.args.self.now c.args.path.now ≡ length c.bytes.result.now = search rules in
    subst (λ (n : ℕ). n ≤ total c.args.self.now) is (size-within c.args.self.now c.args.path.now)
