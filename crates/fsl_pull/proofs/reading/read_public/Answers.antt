use Rattle.std.proofs.Common.{sym, ◌∙◌}
use Rattle.fsl_pull.proofs.GivenLemmas.{read_as_public}
use Rattle.fsl_pull.proofs.reading.read_public.Goals as goal

pub returns-in-Ok-clause-read : goal.returns-in-Ok-clause-read
returns-in-Ok-clause-read g c =
    let s = c.args.repo.now.seen.state in
    read_as_public s c.args.name c.in-Ok.bytes c.in-Public.size (c.is_whole.ensures.seen).records (sym c.state.ensures ∙ c.in-Public.is) c.in-Ok.ensures.bytes
