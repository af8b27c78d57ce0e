use Rattle.std.proofs.Common.{◌≡◌, ◌∙◌, [], cond, sym, ap}
use Rattle.std.specs.Str.{bytes_eq}
use Rattle.fsl_order.specs.Rows.{greater}
use Rattle.fsl_table.proofs.Outcomes.{on_ok_map}
use Rattle.fsl_tags.specs.Tags.{newer_cmp}
use Rattle.fsl_tags.specs.Kept.{newest_of}
use Rattle.fsl_tags.specs.Laid.{row_in}
use Rattle.fsl_tags.proofs.RowsOf.{of_tag}
use Rattle.fsl_tags.proofs.Full.{is_none}
use Rattle.fsl_tags.proofs.Grouping.{none_in}
use Rattle.fsl_tags.proofs.take.take_left.Goals as goal

pub returns-then-is_empty-clause-own : goal.returns-then-is_empty-clause-own
returns-then-is_empty-clause-own g c = λ x tag.
    let none : c.take_out-group.result ≡ [] = sym c.items.ensures ∙ is_none c.items.result.now (sym c.is_empty.ensures ∙ c.if-is_empty.true) in
    none_in c.args.target c.args.own.now.held.entries c.args.groups.now.entries (sym c.take_out-group.ensures.group ∙ none) x tag

pub returns-clause-own : goal.returns-clause-own
returns-clause-own g c =
    on_ok_map c.take_group.result
    (λ own x tag. own x tag ∙ ap (λ l. cond (bytes_eq x c.args.target) (greater newer_cmp (of_tag (row_in c.args.own.now.held.entries x) tag) (newest_of tag l)) (of_tag (row_in c.args.own.now.held.entries x) tag)) (c.items-2.ensures ∙ c.take_out-group.ensures.group))
    c.take_group.ensures.own
