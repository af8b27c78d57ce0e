use Rattle.std.proofs.Common.{◌≡◌, drop}
use Rattle.fsl_order.specs.Rows.{named}
use Rattle.tests_tables.proofs.tags.fit.is_checkin.Given as goal

-- none of those that were passed has the name
abbrev pub invariant-loop-fact : goal.invariant-loop-fact
invariant-loop-fact l = named (λ f. f.name) (drop l.fact-index l.facts) l.name ≡ named (λ f. f.name) l.facts l.name
