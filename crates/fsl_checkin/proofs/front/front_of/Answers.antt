use Rattle.std.proofs.Common.{sym, ap, ◌∙◌, arith}
use Rattle.fsl_text.specs.Paths.{path_ok}
use Rattle.fsl_checkin.specs.Reading.{as_parts}
use Rattle.fsl_checkin.proofs.FrontLemmas.{an_item, bad_path, no_item}
use Rattle.fsl_checkin.proofs.front.front_of.Goals as goal

pub returns-in_default : goal.returns-in_default
returns-in_default c = no_item c.args.text.now (omega arith) (rw c.in_default.is at (sym c.parts_of.ensures))

pub returns-then-not-path_ok : goal.returns-then-not-path_ok
returns-then-not-path_ok c =
    let bad = ap path_ok (sym c.bytes.ensures) ∙ sym c.path_ok.ensures ∙ c.if-not-path_ok.true in
    bad_path c.args.text.now c.in_ok-path.path (as_parts c.in-Some.parts) (omega arith) (sym (rw c.in-Some.is at c.parts_of.ensures)) c.in_ok-path.ensures bad

pub returns : goal.returns
returns c =
    let good = ap path_ok (sym c.bytes.ensures) ∙ sym c.path_ok.ensures ∙ c.if-not-path_ok.false in
    an_item c.args.text.now c.in_ok-path.path _ c.in_ok-item_of.field-0.item (as_parts c.in-Some.parts) (sym (rw c.in-Some.is at c.parts_of.ensures))
    c.in_ok-path.ensures good c.in_ok-item_of.ensures.item c.in_ok-item_of.ensures.rest
