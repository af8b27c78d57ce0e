use Rattle.std.proofs.Common.{map, sym, ◌∙◌}
use Rattle.std.specs.Prelude.{string_bytes}
use Rattle.fossil.proofs.AskedLemmas.{asked_of, few_asked}
use Rattle.fossil.proofs.commands.serve.connections_asked.Goals as goal

pub returns-in-Some-clause-asked : goal.returns-in-Some-clause-asked
returns-in-Some-clause-asked c = asked_of (map string_bytes c.args.words.now) c.in-Ok.words c.in-Some.requests c.in-Ok.ensures.ok (sym c.requests_of-requests.ensures ∙ c.in-Some.is)

pub returns-in-Some-clause-few : goal.returns-in-Some-clause-few
returns-in-Some-clause-few c = few_asked (map string_bytes c.args.words.now) c.in-Ok.words c.in-Some.requests c.in-Ok.ensures.ok (sym c.requests_of-requests.ensures ∙ c.in-Some.is)
