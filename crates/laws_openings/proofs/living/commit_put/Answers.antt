use Rattle.std.specs.Prelude.{◌≡◌, IsTrue, true, false}
use Rattle.std.proofs.Common.{subst}
use Rattle.laws_openings.specs.Lives.{is_done}
use Rattle.laws_openings.proofs.living.commit_put.Goals.{in-Ok, in-Err}
use Rattle.laws_openings.proofs.living.commit_put.Goals as goal

pub returns-clause-durable : goal.returns-clause-durable
returns-clause-durable g c = elim c.match-commit.branch [
  | in-Ok w ↦ λ done modelled b image. w.in-Ok.ensures.durable modelled b (subst (λ d. (g.D.Disk.state d).images b) c.close.ensures image)
  | in-Err w ↦ λ done modelled b image. let wrong : false ≡ true = subst (λ e. IsTrue (is_done e)) w.ending-is done in absurd (cc)
]
