use Rattle.std.proofs.Common.{List, sym, ap, ◌∙◌, refl, arith}
use Rattle.fsl_checkin.specs.declared.types.TreeItem.{TreeItem}
use Rattle.fsl_checkin.specs.Reading.{goes_on}
use Rattle.fsl_checkin.proofs.FrontLemmas.{item_unique}
use Rattle.fsl_checkin.proofs.reading.add_front.Goals as goal

pub returns-in_default : goal.returns-in_default
returns-in_default c = (refl, λ item own more is e. absurd (rw c.in_default.is at c.in_ok-front.ensures item own more is e))

pub returns-then-not-goes_on : goal.returns-then-not-goes_on
returns-then-not-goes_on c =
    let found = rw c.in-Some.is at c.in_ok-front.ensures in (
      refl,
      λ item own more is e.
          let same = item_unique c.args.text.now own found.0 more c.in-Some.front.rest.now item c.in-Some.front.item (omega arith) is found.1 e found.2 in
          ap (goes_on c.args.items.now) same.item ∙ ap (λ (l : List TreeItem). goes_on l c.in-Some.front.item) (sym c.items.ensures) ∙ sym c.goes_on.ensures ∙ c.if-not-goes_on.true,
    )

pub returns : goal.returns
returns c =
    let found = rw c.in-Some.is at c.in_ok-front.ensures in
    let goes = ap (λ (l : List TreeItem). goes_on l c.in-Some.front.item) (sym c.items.ensures) ∙ sym c.goes_on.ensures ∙ c.if-not-goes_on.false in
    (c.in-Some.front.item, found.0, found.1, found.2, goes, c.in_ok-append.ensures.ok)
