use Rattle.std.proofs.Common.{◌≡◌, map, sym, ap, ◌∙◌, subst, All}
use Rattle.fsl_order.specs.Rows.{by_name, AreDistinct}
use Rattle.fsl_files.specs.Conditions.{IsFilesFact}
use Rattle.fsl_cross.specs.Tables.{files_facts}
use Rattle.fsl_cross.proofs.TableLemmas.{files-by_name, files-distinct, held-if}
use Rattle.fsl_cross.proofs.FileLemmas.{files-fit}
use Rattle.fsl_cross.proofs.facts.files.table.Goals as goal

pub build-requires-clause-names : goal.build-requires-clause-names
build-requires-clause-names c = subst (λ l. AreDistinct (map (λ f. f.name) l)) (sym (c.deref.ensures.value ∙ c.in_ok-of_items.ensures)) (files-distinct c.args.items.now c.requires.rising)

pub build-requires-clause-fit : goal.build-requires-clause-fit
build-requires-clause-fit c = subst (All IsFilesFact) (sym (c.deref.ensures.value ∙ c.in_ok-of_items.ensures)) (files-fit c.args.items.now c.requires.kinds)

pub returns : goal.returns
returns c =
    let same : by_name (λ f. f.name) c.deref.result.now ≡ files_facts c.args.items.now
    = ap (by_name (λ f. f.name)) (c.deref.ensures.value ∙ c.in_ok-of_items.ensures) ∙ files-by_name c.args.items.now c.requires.rising in
    held-if c.build.result (by_name (λ f. f.name) c.deref.result.now) (files_facts c.args.items.now) same c.build.ensures.facts
