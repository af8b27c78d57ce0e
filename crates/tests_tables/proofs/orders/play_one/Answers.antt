use Rattle.std.proofs.Common.{◌∙◌, ◌∷◌, ap}
use Rattle.fsl_order.specs.Rows.{by_name}
use Rattle.fsl_table.proofs.Outcomes.{on_ok_map}
use Rattle.tests_tables.proofs.Own.{has_more}
use Rattle.tests_tables.proofs.orders.play_one.Goals as goal

pub returns-in-Ok-keep_one : goal.returns-in-Ok-keep_one
returns-in-Ok-keep_one g c =
    on_ok_map c.append.result
    (λ grown. has_more (λ f. f.name) c.args.fact c.args.tickets.now.facts c.keep_one.new.tickets.facts c.args.names.now c.append.new.self
    (c.in-Ok-keep_one.ensures ∙ ap (λ fs. by_name (λ f. f.name) (c.args.fact ∷ fs)) c.in-Ok-try_one.ensures) grown c.requires)
    c.append.ensures.ok
