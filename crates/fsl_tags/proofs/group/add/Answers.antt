use Rattle.std.proofs.Common.{◌∙◌, cond, ap, sym, subst}
use Rattle.std.specs.Str.{bytes_eq}
use Rattle.fsl_tags.specs.Laid.{row_in, AreFull}
use Rattle.fsl_tags.proofs.Full.{row-with, full-put}
use Rattle.fsl_tags.proofs.Grouping.{group_more, joined_some}
use Rattle.fsl_tags.proofs.group.add.Goals as goal

pub returns-in-Ok-clause-full : goal.returns-in-Ok-clause-full
returns-in-Ok-clause-full c =
    subst AreFull (sym c.in-Ok.ensures.entries)
    (full-put c.args.target c.push.new.row c.take_out-group.new.groups.entries (λ n. joined_some c.take_out-group.result c.args.assertion.now (sym c.in_ok-push.ensures ∙ n)) c.take_out-group.ensures.full)

pub returns-in-Ok-clause-groups : goal.returns-in-Ok-clause-groups
returns-in-Ok-clause-groups c =
    let mid = c.take_out-group.new.groups.entries in
    group_more c.args.assertion.now c.args.target c.args.groups.now.entries mid c.insert.new.self.entries c.take_out-group.result c.take_out-group.ensures.group c.take_out-group.ensures.others
    (λ x. ap (λ es. row_in es x) c.in-Ok.ensures.entries ∙ row-with c.args.target c.push.new.row mid x ∙ ap (λ r. cond (bytes_eq x c.args.target) r (row_in mid x)) c.in_ok-push.ensures)
