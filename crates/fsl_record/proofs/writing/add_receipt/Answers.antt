use Rattle.std.proofs.Common.{ℕ, List, length, ap, ◌∙◌}
use Rattle.std.specs.Int.{to_be_bytes, w32, w64}
use Rattle.std.proofs.lemmas.Result.{on_ok_weaker}
use Rattle.fsl_record.proofs.Written.{receipt_written}
use Rattle.fsl_record.proofs.writing.add_receipt.Goals as goal

pub returns-clause-ok : goal.returns-clause-ok
returns-clause-ok c =
    let login = c.login-login.ensures.value in
    on_ok_weaker c.append-3.result (λ last.
    receipt_written c.args.into.now c.append.new.self c.append-2.new.self c.append-3.new.self c.to_be_bytes.result c.to_be_bytes-2.result c.login-login.result.now c.args.receipt.now c.in_ok-append.ensures.ok c.in_ok-append-2.ensures.ok last
    (c.to_be_bytes.ensures ∙ ap (λ (n : ℕ). to_be_bytes w64 n) c.moment_number.ensures.value) (c.to_be_bytes-2.ensures ∙ ap (λ (l : List ℕ). to_be_bytes w32 (length l)) login) login) c.append-3.ensures.ok
