use Rattle.std.proofs.Common.{◌∙◌, ap}
use Rattle.fsl_table.proofs.Outcomes.{on_ok_map}
use Rattle.fsl_wiki.specs.Kept.{with_target}
use Rattle.fsl_wiki.proofs.rows.put_attachment.Goals as goal

pub returns-clause-entries : goal.returns-clause-entries
returns-clause-entries g c = on_ok_map c.put_target.result (λ ok. ok ∙ ap (λ o. with_target o c.args.targets.now.held.entries) c.in_ok-target.ensures) c.put_target.ensures.entries

pub returns-clause-cost : goal.returns-clause-cost
returns-clause-cost g c = λ none. c.put_target.ensures.cost (c.in_ok-target.ensures ∙ none)

pub returns-clause-back : goal.returns-clause-back
returns-clause-back g c = λ none. c.put_target.ensures.back (c.in_ok-target.ensures ∙ none)
