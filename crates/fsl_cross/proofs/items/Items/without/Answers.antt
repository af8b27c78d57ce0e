use Rattle.std.proofs.Common.{rules, ◌≡◌, ◌∙◌, ap, sym, subst, map}
use Rattle.fsl_order.specs.Rows.{by_name, AreDistinct}
use Rattle.fsl_cross.specs.Tables.{without}
use Rattle.fsl_cross.proofs.Moved.{item_name}
use Rattle.fsl_cross.proofs.Without.{without-next, distinct-without, by_name-without, if_ok-as}
use Rattle.fsl_cross.proofs.items.Items.without.Goals as goal

pub loop-item-preserved : goal.loop-item-preserved
loop-item-preserved c = (
  tt,
  tt,
  without-next c.args.name c.loop-item.others.items c.append_unless.new.others.items c.loop-item.item-iterator c.next.new.self c.args.self.now c.in-Some.item.now _ (search rules) c.in_ok-append_unless.ensures c.in-Some.ensures.steps c.loop-item.invariant.2,
)

pub placed-requires : goal.placed-requires
placed-requires c =
    let whole : c.loop-item.others.items ≡ without c.args.name c.args.self.now = search rules in
    subst (λ items. AreDistinct (map item_name items)) (sym whole) (distinct-without c.args.name c.args.self.now c.iter-item-items.ensures.rising)

pub returns-clause-items : goal.returns-clause-items
returns-clause-items c =
    let whole : c.loop-item.others.items ≡ without c.args.name c.args.self.now = search rules in
    if_ok-as c.placed.result _ _ (ap (by_name item_name) whole ∙ by_name-without c.args.name c.args.self.now c.iter-item-items.ensures.rising) c.placed.ensures.items
