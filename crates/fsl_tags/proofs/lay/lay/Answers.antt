use Rattle.std.proofs.Common.{◌∙◌, ap}
use Rattle.fsl_table.proofs.Outcomes.{both_ok, always_ok, on_ok_map}
use Rattle.fsl_tags.specs.Kept.{newest_of}
use Rattle.fsl_tags.specs.Laid.{row_in}
use Rattle.fsl_tags.proofs.Grouping.{found_none}
use Rattle.fsl_tags.proofs.lay.lay.Goals as goal

pub put_groups-requires-clause-ordered : goal.put_groups-requires-clause-ordered
put_groups-requires-clause-ordered g c = c.in_ok-lay_all.ensures.grouped.full.ordered

pub returns-clause-laying : goal.returns-clause-laying
returns-clause-laying g c =
    let grouped = c.in_ok-lay_all.ensures.grouped in
    both_ok c.put_groups.result
    (λ kept newest. record {
      ordered = grouped.ordered;
      sourced = grouped.sourced;
      newest = λ x t. newest x t ∙ grouped.newest x t;
      laid = record { ordered = grouped.children_ordered; pairs = grouped.pairs; rise = kept.rise };
      full = kept.full;
    })
    c.put_groups.ensures.kept c.put_groups.ensures.newest

pub returns-clause-facts : goal.returns-clause-facts
returns-clause-facts g c = always_ok c.put_groups.result c.in_ok-lay_all.ensures.facts

pub returns-clause-away : goal.returns-clause-away
returns-clause-away g c =
    on_ok_map c.put_groups.result
    (λ newest x all. found_none (row_in c.put_groups.new.own.held.entries x) (λ t. newest x t ∙ ap (newest_of t) (c.in_ok-lay_all.ensures.away x all)))
    c.put_groups.ensures.newest
