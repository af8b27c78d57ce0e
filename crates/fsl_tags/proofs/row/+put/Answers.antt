use Rattle.std.proofs.Common.{◌≡◌, ◌++◌, ◌∷◌, ◌∙◌, ap, sym, subst, arith}
use Rattle.std.proofs.lemmas.Grind.{common_steps}
use Rattle.fsl_order.specs.Names.{bytes_cmp}
use Rattle.fsl_table.proofs.Outcomes.{if_ok_map}
use Rattle.fsl_tags.specs.Put.{put_in}
use Rattle.fsl_tags.proofs.RowsOf.{Rise}
use Rattle.fsl_tags.proofs.Trees.{rise-left, rise-right, put-left, put-here, put-right}
use Rattle.fsl_tags.proofs.row.+put.Goals as goal

pub put-requires : goal.put-requires
put-requires t c =
    let i = c.deref-in-Some.inside in
    let is : c.args.row.now ≡ i.left ++ i.item ∷ i.right = cc in
    (grind (arith, common_steps, is), rise-right i.item i.right i.left (subst Rise is c.requires))

pub put-requires-in-Greater : goal.put-requires-in-Greater
put-requires-in-Greater t c =
    let i = c.deref-in-Some.inside in
    let is : c.args.row.now ≡ i.left ++ i.item ∷ i.right = cc in
    (grind (arith, common_steps, is), rise-left i.item i.right i.left (subst Rise is c.requires))

pub returns-in_ok-far-in-Less : goal.returns-in_ok-far-in-Less
returns-in_ok-far-in-Less t c =
    let i = c.deref-in-Some.inside in
    let a = c.args.assertion.now in
    let is : c.args.row.now ≡ i.left ++ i.item ∷ i.right = cc in
    let order = sym (c.order.ensures ∙ ap (bytes_cmp i.item.tag) (c.bytes.ensures ∙ ap (λ a. a.tag) c.get.ensures)) ∙ c.in-Less.is in
    if_ok_map c.balanced.result
    (λ new e. e ∙ ap (λ r. i.left ++ i.item ∷ r) c.in_ok-far-in-Less.ensures ∙ put-right i.left i.item i.right a (subst Rise is c.requires) order ∙ ap (λ row. put_in row a) (sym is))
    c.balanced.ensures

pub returns-in-Equal : goal.returns-in-Equal
returns-in-Equal t c =
    let i = c.deref-in-Some.inside in
    let a = c.args.assertion.now in
    let is : c.args.row.now ≡ i.left ++ i.item ∷ i.right = cc in
    let order = sym (c.order.ensures ∙ ap (bytes_cmp i.item.tag) (c.bytes.ensures ∙ ap (λ a. a.tag) c.get.ensures)) ∙ c.in-Equal.is in
    if_ok_map c.fork-in-Equal.result (λ new e. e ∙ put-here i.left i.item i.right a (subst Rise is c.requires) order ∙ ap (λ row. put_in row a) (sym is)) c.fork-in-Equal.ensures

pub returns-in_ok-near-in-Greater : goal.returns-in_ok-near-in-Greater
returns-in_ok-near-in-Greater t c =
    let i = c.deref-in-Some.inside in
    let a = c.args.assertion.now in
    let is : c.args.row.now ≡ i.left ++ i.item ∷ i.right = cc in
    let order = sym (c.order.ensures ∙ ap (bytes_cmp i.item.tag) (c.bytes.ensures ∙ ap (λ a. a.tag) c.get.ensures)) ∙ c.in-Greater.is in
    if_ok_map c.balanced-in-Greater.result
    (λ new e. e ∙ ap (λ l. l ++ i.item ∷ i.right) c.in_ok-near-in-Greater.ensures ∙ put-left i.left i.item i.right a order ∙ ap (λ row. put_in row a) (sym is))
    c.balanced-in-Greater.ensures
