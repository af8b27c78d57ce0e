use Rattle.std.proofs.Common.{◌∷◌, [], false, sym, ap, ◌∙◌, subst}
use Rattle.std.specs.List.Sorted.{IsStrictlySortedBy}
use Rattle.std.specs.Str.{bytes_eq}
use Rattle.std.proofs.lemmas.Bool.{or_parts}
use Rattle.fsl_order.specs.Names.{bytes_cmp}
use Rattle.fsl_wiki.specs.Pages.{pages_row}
use Rattle.fsl_table.proofs.Outcomes.{on_ok_map}
use Rattle.fsl_cross.specs.Gone.{AreShown, is_gone}
use Rattle.fsl_cross.specs.Inside.{note_row}
use Rattle.fsl_cross.specs.Kinds.{is_attachment, own_id, own_names}
use Rattle.fsl_cross.specs.Mixed.{rows_mixed, pushed, is_other_checkin, all_changed, tagged_done}
use Rattle.fsl_cross.specs.Tables.{timeline_row_of}
use Rattle.fsl_cross.proofs.Among.{is-item}
use Rattle.fsl_cross.proofs.Currency.{notes-shown, note-kept, tagged-skips}
use Rattle.fsl_cross.proofs.Ids.{own-named}
use Rattle.fsl_cross.proofs.Pushing.{pushed-before}
use Rattle.fsl_cross.proofs.Retagged.{rows-end-more}
use Rattle.fsl_cross.proofs.Retiring.{told-rises}
use Rattle.fsl_cross.proofs.change.notes.take_in.Goals as goal

pub start-requires-clause-row : goal.start-requires-clause-row
start-requires-clause-row g c =
    let item = c.args.item.now in
    c.in_ok-row.ensures ∙ (λ i. note_row (c.requires.pages i) (c.name.ensures i) c.args.note.now) ∙ sym (ap (timeline_row_of c.args.items.now item.name) c.requires.kind)

pub retire_each-requires-clause-rising : goal.retire_each-requires-clause-rising
retire_each-requires-clause-rising g c =
    let t = c.requires.trail in
    subst (IsStrictlySortedBy bytes_cmp) (sym (c.names_of-names.ensures ∙ ap all_changed c.items.ensures)) (told-rises pages_row t.first c.args.contents.now.pages c.args.changes.now t.single t.told)

pub retire_each-requires-clause-shown : goal.retire_each-requires-clause-shown
retire_each-requires-clause-shown g c =
    let items = c.args.items.now in
    let item = c.args.item.now in
    let t = c.requires.trail in
    subst (λ l. AreShown items item.name l c.start.new.timeline.facts) (sym (c.names_of-names.ensures ∙ ap all_changed c.items.ensures))
    (notes-shown items c.requires.new.rising item c.requires.new.there c.args.note.now c.requires.kind t.first c.args.contents.now.pages c.args.changes.now t.leads t.told t.single t.before c.requires.pages
    (tagged_done items item.name c.args.tag_changes.now) (tagged-skips items item.name c.args.tag_changes.now) c.start.new.timeline.facts c.in_ok-start.ensures.facts)

pub returns-in_err-retire_each-clause-led : goal.returns-in_err-retire_each-clause-led
returns-in_err-retire_each-clause-led g c = λ first h. c.retire_each.ensures.led first (c.start.ensures.led first h)

pub change_kinds-requires-clause-facts : goal.change_kinds-requires-clause-facts
change_kinds-requires-clause-facts g c =
    let items = c.args.items.now in
    let item = c.args.item.now in
    (pushed (is_gone items item.name) c.names_of-names.result.now (tagged_done items item.name c.args.tag_changes.now), c.in_ok-retire_each.ensures.facts (tagged_done items item.name c.args.tag_changes.now) c.in_ok-start.ensures.facts)

pub returns-clause-facts : goal.returns-clause-facts
returns-clause-facts g c =
    let items = c.args.items.now in
    let item = c.args.item.now in
    let t = c.requires.trail in
    let u = c.requires.tags_trail in
    let bytes = is-item items item.name item c.requires.new.there c.requires.kinds in
    let done = tagged_done items item.name c.args.tag_changes.now in
    on_ok_map c.change_kinds.result
    (λ go. go (pushed (is_gone items item.name) c.names_of-names.result.now done) (c.in_ok-retire_each.ensures.facts done c.in_ok-start.ensures.facts)
    ∙ ap (λ l. rows_mixed items item.name (pushed (is_attachment items) (own_names c.args.attached.now item.artifact) (pushed (is_gone items item.name) l done))) (c.names_of-names.ensures ∙ ap all_changed c.items.ensures)
    ∙ rows-end-more items c.requires.new.rising item c.requires.new.there c.effective_by_row.ensures u.first c.args.tags.now c.args.tag_changes.now u.leads u.told u.before c.requires.tags
    (pushed (is_attachment items) (own_names c.args.attached.now item.artifact) (pushed (is_gone items item.name) (all_changed c.args.changes.now) done))
    (λ q out. pushed-before (is_gone items item.name) (all_changed c.args.changes.now) done q (pushed-before (is_attachment items) (own_names c.args.attached.now item.artifact) (pushed (is_gone items item.name) (all_changed c.args.changes.now) done) q out))
    (note-kept items c.requires.new.rising item c.requires.new.there c.args.note.now c.requires.kind t.first c.args.contents.now.pages c.args.changes.now t.leads t.told t.single t.before c.requires.pages
    c.no_other_current.ensures c.args.attached.now c.requires.attached (own-named bytes.0 item.artifact c.args.note.now.id bytes.1 (ap own_id c.requires.kind)) done
    (λ q out. (or_parts (bytes_eq q item.name) false (pushed-before (is_other_checkin items item.name) (all_changed c.args.tag_changes.now) (item.name ∷ []) q out)).0))) c.change_kinds.ensures.facts

pub returns-clause-led : goal.returns-clause-led
returns-clause-led g c = λ first h. c.change_kinds.ensures.led first (c.retire_each.ensures.led first (c.start.ensures.led first h))
