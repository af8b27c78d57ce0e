use Rattle.std.proofs.Common.{◌≡◌, ◌<◌, ℕ, rules, get_or, length}
use Rattle.fsl_journal.proofs.Turning.{eight_back}
use Rattle.fsl_journal.proofs.fronts.number_of.Goals as goal

pub returns : goal.returns
returns c =
    let bytes = c.args.head.now in
    let long : length bytes ≡ 8 = search rules in
    let all : (i : ℕ) → get_or bytes i 0 < 256 = search rules in
    eight_back bytes c.from_be_bytes.result long all (search rules)
