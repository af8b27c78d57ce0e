use Rattle.std.proofs.Common.{rules, ◌≡◌, true, false, sym, ap, ◌∙◌}
use Rattle.std.specs.Prelude.{option_and_then}
use Rattle.std.specs.Str.{bytes_eq}
use Rattle.fsl_order.specs.Rows.{named}
use Rattle.fsl_cross.specs.Facts.{parent_names}
use Rattle.fsl_cross.specs.Inside.{leaves_fact_over, branch_over}
use Rattle.fsl_cross.proofs.Moved.{item_name}
use Rattle.fsl_cross.proofs.Retagged.{leaves-there-at, leaves-goes, leaves-goes-none, leaves-goes-same}
use Rattle.fsl_cross.proofs.Quiet.{true-not, leaf-other}
use Rattle.fsl_cross.specs.Mixed.{is_other_checkin}
use Rattle.fsl_cross.proofs.change.leaves.retag.Goals as goal

pub returns-then-eq-clause-facts : goal.returns-then-eq-clause-facts
returns-then-eq-clause-facts g c =
    let same : bytes_eq c.args.name c.args.item.now.name ≡ true = search rules in
    leaves-goes-same c.args.items.now c.requires.new.rising c.args.item.now c.requires.new.there c.args.name c.args.leaves.now.facts same

pub change-requires : goal.change-requires
change-requires g c =
    let items = c.args.items.now in
    leaves-there-at items c.requires.new.rising c.args.item.now c.requires.new.there c.args.name c.in-Some.fact c.args.leaves.now.facts
    (ap (λ ts. option_and_then (leaves_fact_over ts) (named item_name items c.args.name)) (sym c.requires.tags) ∙ sym c.in_ok-fact.ensures ∙ c.in-Some.is) c.requires.facts

pub returns-in-Some-clause-facts : goal.returns-in-Some-clause-facts
returns-in-Some-clause-facts g c =
    let items = c.args.items.now in
    let apart : bytes_eq c.args.name c.args.item.now.name ≡ false = search rules in
    leaves-goes items c.requires.new.rising c.args.item.now c.requires.new.there c.change.result c.args.name c.in-Some.fact c.args.leaves.now.facts c.change.new.leaves.facts
    (ap (λ ts. option_and_then (leaves_fact_over ts) (named item_name items c.args.name)) (sym c.requires.tags) ∙ sym c.in_ok-fact.ensures ∙ c.in-Some.is) apart c.change.ensures.facts

pub returns-in-None-clause-facts : goal.returns-in-None-clause-facts
returns-in-None-clause-facts g c =
    let items = c.args.items.now in
    leaves-goes-none items c.requires.new.rising c.args.item.now c.requires.new.there c.args.name c.args.leaves.now.facts
    (ap (λ ts. option_and_then (leaves_fact_over ts) (named item_name items c.args.name)) (sym c.requires.tags) ∙ sym c.in_ok-fact.ensures ∙ c.in-None.is)

pub returns-in-Some-clause-idle : goal.returns-in-Some-clause-idle
returns-in-Some-clause-idle g c = λ out.
    let items = c.args.items.now in
    let apart : bytes_eq c.args.name c.args.item.now.name ≡ false = search rules in
    absurd (true-not (is_other_checkin items c.args.item.now.name c.args.name)
    (leaf-other items c.args.item.now.name c.args.name apart (λ item m. record { name = item.name; parents = parent_names m; branch = branch_over c.args.tags.now.facts item.name }) c.in-Some.fact (sym c.in_ok-fact.ensures ∙ c.in-Some.is)) out)
