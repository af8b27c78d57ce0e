use Rattle.std.proofs.Common.{ℕ, List, [], ◌∷◌, ◌++◌, ap, ◌∙◌}
use Rattle.std.proofs.lemmas.Result.{on_ok_weaker, on_err_weaker}
use Rattle.fsl_record.proofs.Written.{brought_written, front_stays}
use Rattle.fsl_record.proofs.writing.add_brought.Goals as goal

pub returns-clause-ok : goal.returns-clause-ok
returns-clause-ok c =
    on_ok_weaker c.add_content.result (λ last.
    brought_written c.args.private c.args.into.now c.append.new.self c.append-2.new.self c.add_receipt.new.into c.add_content.new.into c.args.name.now c.args.bytes.now c.args.receipt.now (c.in_ok-append.ensures.ok ∙ ap (λ (n : ℕ). c.args.into.now ++ 82 ∷ n ∷ []) c.private_byte.ensures) (c.in_ok-append-2.ensures.ok ∙ ap (λ (l : List ℕ). c.append.new.self ++ l) c.bytes.ensures.value) c.in_ok-add_receipt.ensures.ok last) c.add_content.ensures.ok

pub returns-clause-err : goal.returns-clause-err
returns-clause-err c =
    on_err_weaker c.add_content.result (λ kept.
    front_stays c.args.into.now _ _ _ c.append.new.self c.append-2.new.self c.add_receipt.new.into c.add_content.new.into c.in_ok-append.ensures.ok c.in_ok-append-2.ensures.ok c.in_ok-add_receipt.ensures.ok kept) c.add_content.ensures.err
