use Rattle.std.proofs.Common.{rules, ℕ, ◌<◌, get_or}
use Rattle.fsl_record.proofs.Fronts.{split_is, count_is}
use Rattle.fsl_record.proofs.pieces.split_count.Goals as goal

pub returns : goal.returns
returns c =
    let s = c.in_ok-count.ensures.cases in
    let all : (i : ℕ) → get_or c.args.bytes.now i 0 < 256 = search rules in
    let split = split_is 2 c.args.bytes.now c.in_ok-count.count.now c.in_ok-count.rest.now s.0 s.1 s.2 in
    (count_is c.args.bytes.now c.in_ok-count.count.now c.in_ok-count.rest.now c.from_be_bytes.result split all (search rules), search rules)
