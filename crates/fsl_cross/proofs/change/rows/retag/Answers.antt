use Rattle.std.proofs.Common.{rules, ◌≡◌, true, false, sym, ap, ◌∙◌}
use Rattle.std.specs.Prelude.{option_map}
use Rattle.std.specs.Str.{bytes_eq}
use Rattle.fsl_cross.specs.Checkins.{checkin}
use Rattle.fsl_cross.specs.Inside.{checkin_row}
use Rattle.fsl_cross.proofs.Gifts.{none_map}
use Rattle.fsl_cross.proofs.Retagged.{rows-there-at, rows-goes, rows-goes-none, rows-goes-same}
use Rattle.fsl_cross.proofs.Quiet.{true-not, row-other}
use Rattle.fsl_cross.specs.Mixed.{is_other_checkin}
use Rattle.fsl_cross.proofs.change.rows.retag.Goals as goal

pub returns-then-eq-clause-facts : goal.returns-then-eq-clause-facts
returns-then-eq-clause-facts g c =
    let same : bytes_eq c.args.name c.args.item.now.name ≡ true = search rules in
    rows-goes-same c.args.items.now c.requires.new.rising c.args.item.now c.requires.new.there c.args.name c.args.timeline.now.facts same

pub change-requires : goal.change-requires
change-requires g c =
    let items = c.args.items.now in
    rows-there-at items c.requires.new.rising c.args.item.now c.requires.new.there c.args.name c.in-Some.row c.args.timeline.now.facts
    (ap (λ ts. option_map (checkin_row ts c.args.name) (checkin items c.args.name)) (sym c.requires.tags) ∙ sym c.in_ok-row.ensures ∙ c.in-Some.is) c.requires.facts

pub returns-in-Some-clause-facts : goal.returns-in-Some-clause-facts
returns-in-Some-clause-facts g c =
    let items = c.args.items.now in
    let apart : bytes_eq c.args.name c.args.item.now.name ≡ false = search rules in
    rows-goes items c.requires.new.rising c.args.item.now c.requires.new.there c.change.result c.args.name c.in-Some.row c.args.timeline.now.facts c.change.new.timeline.facts
    (ap (λ ts. option_map (checkin_row ts c.args.name) (checkin items c.args.name)) (sym c.requires.tags) ∙ sym c.in_ok-row.ensures ∙ c.in-Some.is) apart c.change.ensures.facts

pub returns-in-None-clause-facts : goal.returns-in-None-clause-facts
returns-in-None-clause-facts g c =
    let items = c.args.items.now in
    rows-goes-none items c.requires.new.rising c.args.item.now c.requires.new.there c.args.name c.args.timeline.now.facts
    (none_map (checkin_row c.args.tags.now.facts c.args.name) (checkin items c.args.name) (sym c.in_ok-row.ensures ∙ c.in-None.is))

pub returns-in-Some-clause-idle : goal.returns-in-Some-clause-idle
returns-in-Some-clause-idle g c = λ out.
    let items = c.args.items.now in
    let apart : bytes_eq c.args.name c.args.item.now.name ≡ false = search rules in
    absurd (true-not (is_other_checkin items c.args.item.now.name c.args.name)
    (row-other items c.args.item.now.name c.args.name apart (checkin_row c.args.tags.now.facts c.args.name) c.in-Some.row (sym c.in_ok-row.ensures ∙ c.in-Some.is)) out)
