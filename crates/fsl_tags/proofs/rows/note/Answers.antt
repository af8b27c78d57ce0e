use Rattle.std.proofs.Common.{◌∙◌, sym, subst}
use Rattle.std.specs.BTreeMap.{is_at}
use Rattle.std.specs.Map.{lookup}
use Rattle.fsl_order.specs.Names.{bytes_cmp}
use Rattle.fsl_tags.specs.Laid.{AreNoted}
use Rattle.fsl_tags.proofs.Full.{noted-more}
use Rattle.fsl_table.proofs.Finding.{none_from}
use Rattle.fsl_tags.proofs.rows.note.Goals as goal

pub returns-in-Ok-clause-noted : goal.returns-in-Ok-clause-noted
returns-in-Ok-clause-noted c = λ before now then is else all.
    subst (λ es. AreNoted before es then) (sym c.in-Ok.ensures.entries)
    (noted-more before c.args.noted.now.entries now then c.args.name else all c.in_ok-copy.copy (none_from (lookup (is_at (bytes_cmp c.args.name)) c.args.noted.now.entries) (sym c.contains_key.ensures ∙ c.if-contains_key.false)) (c.in_ok-copy.ensures ∙ is))
