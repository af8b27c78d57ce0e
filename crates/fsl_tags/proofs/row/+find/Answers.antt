use Rattle.std.proofs.Common.{◌≡◌, ◌++◌, ◌∷◌, ◌∙◌, Some, ap, sym, subst, arith}
use Rattle.std.proofs.lemmas.Grind.{common_steps}
use Rattle.fsl_tags.proofs.RowsOf.{Rise, of_tag}
use Rattle.fsl_tags.proofs.Trees.{rise-left, rise-right, found-left, found-here, found-right}
use Rattle.fsl_tags.proofs.row.+find.Goals as goal

pub find-requires : goal.find-requires
find-requires t c =
    let i = c.deref-in-Some.inside in
    let is : c.args.row.now ≡ i.left ++ i.item ∷ i.right = cc in
    (grind (arith, common_steps, is), rise-right i.item i.right i.left (subst Rise is c.requires))

pub find-requires-in-Greater : goal.find-requires-in-Greater
find-requires-in-Greater t c =
    let i = c.deref-in-Some.inside in
    let is : c.args.row.now ≡ i.left ++ i.item ∷ i.right = cc in
    (grind (arith, common_steps, is), rise-left i.item i.right i.left (subst Rise is c.requires))

pub returns-in-Less : goal.returns-in-Less
returns-in-Less t c =
    let i = c.deref-in-Some.inside in
    let tag = c.args.tag.now in
    let is : c.args.row.now ≡ i.left ++ i.item ∷ i.right = cc in
    c.find.ensures ∙ found-right i.left i.item i.right tag (subst Rise is c.requires) (sym c.order.ensures ∙ c.in-Less.is) ∙ ap (λ row. of_tag row tag) (sym is)

pub returns-in-Equal : goal.returns-in-Equal
returns-in-Equal t c =
    let i = c.deref-in-Some.inside in
    let tag = c.args.tag.now in
    let is : c.args.row.now ≡ i.left ++ i.item ∷ i.right = cc in
    ap Some c.get.ensures ∙ found-here i.left i.item i.right tag (subst Rise is c.requires) (sym c.order.ensures ∙ c.in-Equal.is) ∙ ap (λ row. of_tag row tag) (sym is)

pub returns-in-Greater : goal.returns-in-Greater
returns-in-Greater t c =
    let i = c.deref-in-Some.inside in
    let tag = c.args.tag.now in
    let is : c.args.row.now ≡ i.left ++ i.item ∷ i.right = cc in
    c.find-in-Greater.ensures ∙ found-left i.left i.item i.right tag (subst Rise is c.requires) (sym c.order.ensures ∙ c.in-Greater.is) ∙ ap (λ row. of_tag row tag) (sym is)
