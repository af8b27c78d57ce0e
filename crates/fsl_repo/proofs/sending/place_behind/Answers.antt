use Rattle.std.proofs.Common.{sym, length}
use Rattle.std.proofs.lemmas.Bool.{ltb-true}
use Rattle.fsl_repo.proofs.Sendings.{place_at}
use Rattle.fsl_repo.proofs.sending.place_behind.Goals as goal

pub returns-in-Some : goal.returns-in-Some
returns-in-Some c =
    let held = c.args.held.now in
    place_at held c.args.count c.in-Some.artifact.now (ltb-true c.args.count (length held) (sym c.in-Some.ensures.lookup.0)) c.in-Some.ensures.lookup.1
