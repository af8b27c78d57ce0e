use Rattle.std.specs.Prelude.{◌≡◌, ◌+◌, ◌∷◌, [], ◌++◌, take}
use Rattle.std.proofs.Common.{sym, ap, subst, ◌∙◌}
use Rattle.std.proofs.lemmas.List.{take_more}
use Rattle.laws_openings.specs.Lives.{IsWork}
use Rattle.tests_laws.specs.Texts.{PutsText, PutsTexts}
use Rattle.tests_laws.proofs.Arrivals.{one_more}
use Rattle.tests_laws.proofs.works.arrive_all.Goals as goal

pub returns-in_err-arrive-clause-disk : goal.returns-in_err-arrive-clause-disk
returns-in_err-arrive-clause-disk c = c.arrive.ensures.disk ∙ c.loop-text.invariant.disk

pub loop-text-preserved : goal.loop-text-preserved
loop-text-preserved c =
    let passed = take c.loop-text.text-index c.args.texts.now in
    let texts : take (c.loop-text.text-index + 1) c.args.texts.now ≡ passed ++ c.text-item.result ∷ [] =
    take_more c.args.texts.now c.loop-text.text-index c.text-item.result c.loop-text-test.true ∙ ap (λ t. passed ++ t ∷ []) (sym c.text-item.is) in
    subst (λ ts. IsWork (PutsTexts ts) c.args.repo.now c.arrive.new.repo) (sym texts)
    (one_more c.args.repo.now c.loop-text.repo c.arrive.new.repo passed c.text-item.result c.loop-text.invariant
    (subst (λ t. IsWork (PutsText t) c.loop-text.repo c.arrive.new.repo) c.bytes.ensures c.in_ok-arrive.ensures.put))
