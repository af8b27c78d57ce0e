use Rattle.std.proofs.Common.{◌∙◌, map, sym, ap, subst}
use Rattle.fsl_forum.specs.Reached.{AreAffected, IsStep, stands}
use Rattle.fsl_forum.specs.Rows.{noted_in, row_in}
use Rattle.fsl_forum.proofs.Changing.{stepped}
use Rattle.fsl_forum.proofs.put.planned.Goals as goal

pub returns-in-Ok-clause-step : goal.returns-in-Ok-clause-step
returns-in-Ok-clause-step g c = λ facts of_ right.
    let names = c.in_ok-names.names in
    subst (IsStep facts c.args.name c.args.up.now names)
    (sym (c.end_for-end.ensures ∙ ap (λ ns. stands ns c.args.up.now c.end_above-near.result) c.items.ensures ∙ ap (stands names c.args.up.now) c.end_above-near.ensures))
    (stepped facts c.args.maps.now.followers.held.entries c.args.maps.now.ends.held.entries c.args.name c.args.up.now names
    (subst (λ n. AreAffected c.args.maps.now.followers.held.entries c.args.maps.now.ends.held.entries c.args.name n names) c.end_above-near.ensures c.in_ok-names.ensures.affected) of_ right)

pub returns-in-Ok-clause-noted : goal.returns-in-Ok-clause-noted
returns-in-Ok-clause-noted g c = c.in-Ok.ensures ∙ ap (map (noted_in (row_in c.args.maps.now.posts.held.entries c.args.maps.now.ends.held.entries))) c.items-2.ensures
