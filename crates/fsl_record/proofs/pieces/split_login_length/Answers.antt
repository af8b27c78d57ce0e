use Rattle.std.proofs.Common.{rules, ℕ, ◌<◌, get_or}
use Rattle.fsl_record.proofs.Fronts.{split_is, login_length_is}
use Rattle.fsl_record.proofs.pieces.split_login_length.Goals as goal

pub returns : goal.returns
returns c =
    let s = c.in_ok-length.ensures.cases in
    let all : (i : ℕ) → get_or c.args.bytes.now i 0 < 256 = search rules in
    let split = split_is 4 c.args.bytes.now c.in_ok-length.length.now c.in_ok-length.rest.now s.0 s.1 s.2 in
    (login_length_is c.args.bytes.now c.in_ok-length.length.now c.in_ok-length.rest.now c.from_be_bytes.result split all (search rules), search rules)
