use Rattle.std.proofs.Common.{◌≡◌, ◌<◌, ◌^◌, ◌-◌, length}
use Rattle.fsl_disk.specs.Shared.{Sees, ToldOf}
use Rattle.fsl_journal.specs.Gates.{From, Grows, IsGateAt}
use Rattle.fsl_journal.specs.Still.{IsStill}
use Rattle.fsl_journal.proofs.Still.{IsWalked}
use Rattle.fsl_journal.proofs.fronts.front_of.Given as goal

abbrev pub invariant-gates : goal.invariant-gates
invariant-gates g l =
    let first = g.F.Shared.state l.fn.file in
    let now = g.F.Shared.state l.file in
    (l.gate < l.len) × (l.len < 2 ^ 63) × (14 < l.gate) × Sees first now × (now.faults ≡ first.faults) × ToldOf first (λ held. Grows held first.moment → From held now.moment (IsGateAt l.gate))
    × ToldOf first (λ held. IsStill first now held → (l.len ≡ length (held first.moment)) × IsWalked l.gate (held first.moment))

abbrev pub decreases-gates : goal.decreases-gates
decreases-gates g l = 2 ^ 63 - l.gate
