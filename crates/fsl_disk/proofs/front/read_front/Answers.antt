use Rattle.std.proofs.Common.{◌+◌, ◌∙◌, ap, arith}
use Rattle.fsl_disk.specs.Front.{byte_at}
use Rattle.fsl_disk.proofs.front.read_front.Goals as goal

pub returns-clause-answer : goal.returns-clause-answer
returns-clause-answer g c = λ held told k below.
    let at = c.args.at + k in
    let first = c.put_seen.ensures.put k (omega (arith, below, c.put_seen.ensures.length, c.put_seen-2.ensures.length)) in
    let second = c.put_seen-2.ensures.put k (omega (arith, below, c.put_seen-2.ensures.length)) in
    let seen = c.in_ok-read_at.ensures.answer held told k (omega (arith, below, c.put_seen.ensures.length, c.put_seen-2.ensures.length)) in
    (seen.0, seen.1.0, second ∙ ap (byte_at c.args.front.gate at) (first ∙ ap (byte_at c.args.front.mark at) seen.3))
