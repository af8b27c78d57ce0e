use Rattle.std.proofs.Common.{ap, sym, ◌∙◌}
use Rattle.fsl_files.specs.declared.Listing.TheVariants as listing
use Rattle.fsl_repo.specs.Machine.{now}
use Rattle.fsl_repo.proofs.ItemLemmas.{items_rise}
use Rattle.fsl_checkin.proofs.FilesLemmas.{baseline_checkin, known_checkin, not_checkin}
use Rattle.fsl_checkin.proofs.verifying.verified.Goals as goal

pub tested-requires : goal.tested-requires
tested-requires g c = sym c.in-Ok-Known.ensures ∙ c.in-Ok-Known.field-0-is ∙ ap listing.Known (sym c.items.ensures)

pub returns-in-Ok-NotCheckin-clause-read : goal.returns-in-Ok-NotCheckin-clause-read
returns-in-Ok-NotCheckin-clause-read g c =
    let items = c.args.repo.now.seen.items in
    not_checkin items (items_rise (now c.args.repo.now.seen.state).held items c.is_whole.ensures.seen.items) c.args.name (sym c.in-Ok-NotCheckin.ensures ∙ c.in-Ok-NotCheckin.field-0-is)

pub returns-in-Ok-NoBaseline-clause-unread : goal.returns-in-Ok-NoBaseline-clause-unread
returns-in-Ok-NoBaseline-clause-unread g c = λ none.
    let items = c.args.repo.now.seen.items in
    absurd (baseline_checkin items (items_rise (now c.args.repo.now.seen.state).held items c.is_whole.ensures.seen.items) c.args.name (sym c.in-Ok-NoBaseline.ensures ∙ c.in-Ok-NoBaseline.field-0-is) none)

pub returns-in-Ok-Known-clause-unread : goal.returns-in-Ok-Known-clause-unread
returns-in-Ok-Known-clause-unread g c = λ none.
    let items = c.args.repo.now.seen.items in
    absurd (known_checkin items (items_rise (now c.args.repo.now.seen.state).held items c.is_whole.ensures.seen.items) c.args.name c.in-Ok-Known.files (sym c.in-Ok-Known.ensures ∙ c.in-Ok-Known.field-0-is) none)
