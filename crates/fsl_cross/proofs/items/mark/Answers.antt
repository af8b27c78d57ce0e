use Rattle.std.proofs.Common.{rules, ◌≡◌, Some, ap, ◌∙◌}
use Rattle.std.specs.Map.{lookup, set_value}
use Rattle.std.specs.BTreeMap.{is_at}
use Rattle.fsl_order.specs.Names.{bytes_cmp}
use Rattle.fsl_cross.proofs.Marking.{marked-set, marked-none}
use Rattle.fsl_cross.proofs.items.mark.Goals as goal

pub returns-in-Some : goal.returns-in-Some
returns-in-Some c =
    let name = c.args.name in
    let es = c.args.tree.now.entries in
    let found : lookup (is_at (bytes_cmp name)) es ≡ Some c.in-Some.item.now = search rules in
    (c.get_mut.follows.holds c.set_private.new.self).0 ∙ ap (set_value (is_at (bytes_cmp name)) es) c.set_private.ensures
    ∙ marked-set name c.args.private es c.in-Some.item.now c.get_mut.ensures.ordered found

pub returns-in_default : goal.returns-in_default
returns-in_default c = ap (λ m. m.entries) c.get_mut.follows.holds-at-none ∙ marked-none c.args.name c.args.private c.args.tree.now.entries (search rules)
