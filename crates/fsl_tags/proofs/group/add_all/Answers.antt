use Rattle.std.proofs.lemmas.List.{append-nil, drop_more}
use Rattle.std.proofs.Common.{◌≡◌, ◌∙◌, ◌+◌, ◌++◌, ◌∷◌, [], cond, drop, sym, ap, arith}
use Rattle.std.specs.Str.{bytes_eq}
use Rattle.fsl_tags.specs.Kept.{on_target}
use Rattle.fsl_tags.specs.Laid.{row_in}
use Rattle.fsl_tags.proofs.Merging.{no_more}
use Rattle.fsl_tags.proofs.Grouping.{group-step}
use Rattle.fsl_tags.proofs.group.add_all.Goals as goal

pub loop-assertion-preserved : goal.loop-assertion-preserved
loop-assertion-preserved c =
    let i = c.loop-assertion.assertion-index in
    let a = c.assertion-item.result in
    let rest = drop (i + 1) c.args.assertions.now in
    let old = c.loop-assertion.groups.entries in
    let cut : drop i c.args.assertions.now ≡ a ∷ rest = drop_more c.args.assertions.now i a c.loop-assertion-test.true ∙ ap (λ y. y ∷ rest) (sym c.assertion-item.is) in
    record {
      full = c.in_ok-add.ensures.full;
      groups = λ x.
          ap (λ l. l ++ on_target x rest) (c.in_ok-add.ensures.groups x ∙ (λ j. row_in old x ++ cond (bytes_eq x (c.get.ensures j).target) (a ∷ []) []))
          ∙ group-step x (row_in old x) a rest ∙ ap (λ l. row_in old x ++ on_target x l) (sym cut) ∙ c.loop-assertion.invariant.groups x;
    }

pub returns-clause-groups : goal.returns-clause-groups
returns-clause-groups c = λ x.
    let row = row_in c.loop-assertion.groups.entries x in
    sym (append-nil row) ∙ ap (λ l. row ++ on_target x l) (sym (no_more c.loop-assertion.assertion-index c.args.assertions.now (omega (arith, c.loop-assertion-test.false)))) ∙ c.loop-assertion.invariant.groups x
