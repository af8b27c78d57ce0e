use Rattle.std.proofs.Common.{◌∷◌, [], sym, ap, ◌∙◌, subst}
use Rattle.std.specs.List.Sorted.{IsStrictlySortedBy}
use Rattle.fsl_order.specs.Names.{bytes_cmp}
use Rattle.fsl_forum.specs.Threads.{threads_row}
use Rattle.fsl_table.proofs.Outcomes.{on_ok_map}
use Rattle.fsl_cross.specs.Gone.{AreShown, is_gone}
use Rattle.fsl_cross.specs.Inside.{post_row}
use Rattle.fsl_cross.specs.Mixed.{rows_mixed, pushed, all_changed}
use Rattle.fsl_cross.specs.Tables.{timeline_row_of}
use Rattle.fsl_cross.proofs.Retiring.{told-rises}
use Rattle.fsl_cross.proofs.Validity.{posts-shown, posts-end}
use Rattle.fsl_cross.proofs.change.posts.take_in.Goals as goal

pub add-requires-clause-row : goal.add-requires-clause-row
add-requires-clause-row g c =
    let item = c.args.item.now in
    c.in_ok-row.ensures ∙ (λ i. post_row (c.requires.threads i) (c.name.ensures i) c.args.post.now) ∙ sym (ap (timeline_row_of c.args.items.now item.name) c.requires.kind)

pub retire_each-requires-clause-rising : goal.retire_each-requires-clause-rising
retire_each-requires-clause-rising g c =
    let t = c.requires.trail in
    subst (IsStrictlySortedBy bytes_cmp) (sym (c.names_of-names.ensures ∙ ap all_changed c.items.ensures)) (told-rises threads_row t.first c.args.contents.now.threads c.args.changes.now t.single t.told)

pub retire_each-requires-clause-shown : goal.retire_each-requires-clause-shown
retire_each-requires-clause-shown g c =
    let items = c.args.items.now in
    let item = c.args.item.now in
    let t = c.requires.trail in
    subst (λ l. AreShown items item.name l c.add.new.timeline.facts) (sym (c.names_of-names.ensures ∙ ap all_changed c.items.ensures))
    (posts-shown items c.requires.new.rising item c.requires.new.there c.args.post.now c.requires.kind t.first c.args.contents.now.threads c.args.changes.now t.leads t.told t.single t.before c.requires.threads
    c.add.new.timeline.facts c.in_ok-add.ensures.facts)

pub returns-clause-facts : goal.returns-clause-facts
returns-clause-facts g c =
    let items = c.args.items.now in
    let item = c.args.item.now in
    let t = c.requires.trail in
    on_ok_map c.retire_each.result
    (λ go. go (item.name ∷ []) c.in_ok-add.ensures.facts
    ∙ ap (λ l. rows_mixed items item.name (pushed (is_gone items item.name) l (item.name ∷ []))) (c.names_of-names.ensures ∙ ap all_changed c.items.ensures)
    ∙ posts-end items c.requires.new.rising item c.requires.new.there c.args.post.now c.requires.kind t.first c.args.contents.now.threads c.args.changes.now t.leads t.told t.single t.before c.requires.threads
    c.invalid_stays.ensures) c.retire_each.ensures.facts

pub returns-clause-led : goal.returns-clause-led
returns-clause-led g c = λ first h. c.retire_each.ensures.led first (c.add.ensures.led first h)
