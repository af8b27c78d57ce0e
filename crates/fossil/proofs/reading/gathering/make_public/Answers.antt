use Rattle.std.proofs.Common.{false, rules}
use Rattle.fossil.proofs.NotedLemmas.{made_public, none_public}
use Rattle.fossil.proofs.reading.gathering.make_public.Goals as goal

pub returns-in-Some : goal.returns-in-Some
returns-in-Some c =
    let fact = record c.in-Some.fact.now { private = false } in
    made_public c.args.name.now c.in-Some.fact.now c.args.facts.now (c.get_mut.follows.lender fact) (search rules) (c.get_mut.follows.holds fact).0

pub returns-in_default : goal.returns-in_default
returns-in_default c = none_public c.args.name.now c.args.facts.now _ (search rules) c.get_mut.follows.holds-at-none
