use Rattle.std.proofs.Common.{◌≡◌, ◌++◌, ◌∙◌, sym, ap, subst, drop, List}
use Rattle.fsl_table.proofs.Outcomes.{always_ok, on_ok_map}
use Rattle.fsl_files.specs.declared.FileRow.{FileRow}
use Rattle.fsl_files.specs.Files.{differences}
use Rattle.fsl_files.specs.Walks.{edits}
use Rattle.fsl_files.proofs.Merging.{Rise}
use Rattle.fsl_files.proofs.Differing.{path, none_at, drop_rises, deleted, added, deleted_alone, added_alone, deleted_before, edited_both, added_before, noted_step}
use Rattle.fsl_files.proofs.changes.note_first.Goals as goal

-- the files behind the first rise too
left_rises : (rows left : List FileRow) → left ≡ drop 1 rows → Rise path rows → Rise path left
left_rises rows left e h = subst (Rise path) (sym e) (drop_rises rows h)

pub returns-in-None-None-clause-ended : goal.returns-in-None-None-clause-ended
returns-in-None-None-clause-ended c _ = (none_at c.args.old.now c.in-None-None.ensures, none_at c.args.new.now c.in-None-None.ensures')

pub returns-in-None-Some-clause-noted : goal.returns-in-None-Some-clause-noted
returns-in-None-Some-clause-noted c =
    let old = c.args.old.now in
    let new = c.args.new.now in
    on_ok_map c.pass.result
    (λ noted. noted_step c.args.changes.now c.pass.new.changes (added c.in-None-Some.after.now) (differences old c.pass.new.files) (differences old new) noted
    (added_alone old new c.requires.old_rises c.requires.new_rises c.in-None-Some.after.now c.in-None-Some.ensures c.in-None-Some.ensures'
    ∙ ap (λ rows. added c.in-None-Some.after.now ++ differences old rows) (sym c.pass.ensures.passed)))
    c.pass.ensures.noted

pub returns-in-None-Some-clause-new_rises : goal.returns-in-None-Some-clause-new_rises
returns-in-None-Some-clause-new_rises c = always_ok c.pass.result (left_rises c.args.new.now c.pass.new.files c.pass.ensures.passed c.requires.new_rises)

pub returns-in-Some-None-clause-noted : goal.returns-in-Some-None-clause-noted
returns-in-Some-None-clause-noted c =
    let old = c.args.old.now in
    let new = c.args.new.now in
    on_ok_map c.pass-in-Some-None.result
    (λ noted. noted_step c.args.changes.now c.pass-in-Some-None.new.changes (deleted c.in-Some-None.before.now) (differences c.pass-in-Some-None.new.files new) (differences old new) noted
    (deleted_alone old new c.requires.old_rises c.requires.new_rises c.in-Some-None.before.now c.in-Some-None.ensures c.in-Some-None.ensures'
    ∙ ap (λ rows. deleted c.in-Some-None.before.now ++ differences rows new) (sym c.pass-in-Some-None.ensures.passed)))
    c.pass-in-Some-None.ensures.noted

pub returns-in-Some-None-clause-old_rises : goal.returns-in-Some-None-clause-old_rises
returns-in-Some-None-clause-old_rises c = always_ok c.pass-in-Some-None.result (left_rises c.args.old.now c.pass-in-Some-None.new.files c.pass-in-Some-None.ensures.passed c.requires.old_rises)

pub returns-in-Less-clause-noted : goal.returns-in-Less-clause-noted
returns-in-Less-clause-noted c =
    let old = c.args.old.now in
    let new = c.args.new.now in
    let a = c.in-Some-Some.before.now in
    let b = c.in-Some-Some.after.now in
    on_ok_map c.pass-in-Less.result
    (λ noted. noted_step c.args.changes.now c.pass-in-Less.new.changes (deleted a) (differences c.pass-in-Less.new.files new) (differences old new) noted
    (deleted_before old new c.requires.old_rises c.requires.new_rises a b c.in-Some-Some.ensures c.in-Some-Some.ensures' (sym c.cmp.ensures ∙ c.in-Less.is)
    ∙ ap (λ rows. deleted a ++ differences rows new) (sym c.pass-in-Less.ensures.passed)))
    c.pass-in-Less.ensures.noted

pub returns-in-Less-clause-old_rises : goal.returns-in-Less-clause-old_rises
returns-in-Less-clause-old_rises c = always_ok c.pass-in-Less.result (left_rises c.args.old.now c.pass-in-Less.new.files c.pass-in-Less.ensures.passed c.requires.old_rises)

pub returns-in-Equal-clause-noted : goal.returns-in-Equal-clause-noted
returns-in-Equal-clause-noted c =
    let old = c.args.old.now in
    let new = c.args.new.now in
    let a = c.in-Some-Some.before.now in
    let b = c.in-Some-Some.after.now in
    on_ok_map c.pass_both.result
    (λ noted. noted_step c.args.changes.now c.pass_both.new.changes (edits a b) (differences c.pass_both.new.old c.pass_both.new.new) (differences old new) noted
    (edited_both old new c.requires.old_rises c.requires.new_rises a b c.in-Some-Some.ensures c.in-Some-Some.ensures' (sym c.cmp.ensures ∙ c.in-Equal.is)
    ∙ (λ i. edits a b ++ differences (sym c.pass_both.ensures.old_passed i) (sym c.pass_both.ensures.new_passed i))))
    c.pass_both.ensures.noted

pub returns-in-Equal-clause-old_rises : goal.returns-in-Equal-clause-old_rises
returns-in-Equal-clause-old_rises c = always_ok c.pass_both.result (left_rises c.args.old.now c.pass_both.new.old c.pass_both.ensures.old_passed c.requires.old_rises)

pub returns-in-Equal-clause-new_rises : goal.returns-in-Equal-clause-new_rises
returns-in-Equal-clause-new_rises c = always_ok c.pass_both.result (left_rises c.args.new.now c.pass_both.new.new c.pass_both.ensures.new_passed c.requires.new_rises)

pub returns-in-Greater-clause-noted : goal.returns-in-Greater-clause-noted
returns-in-Greater-clause-noted c =
    let old = c.args.old.now in
    let new = c.args.new.now in
    let a = c.in-Some-Some.before.now in
    let b = c.in-Some-Some.after.now in
    on_ok_map c.pass-in-Greater.result
    (λ noted. noted_step c.args.changes.now c.pass-in-Greater.new.changes (added b) (differences old c.pass-in-Greater.new.files) (differences old new) noted
    (added_before old new c.requires.old_rises c.requires.new_rises a b c.in-Some-Some.ensures c.in-Some-Some.ensures' (sym c.cmp.ensures ∙ c.in-Greater.is)
    ∙ ap (λ rows. added b ++ differences old rows) (sym c.pass-in-Greater.ensures.passed)))
    c.pass-in-Greater.ensures.noted

pub returns-in-Greater-clause-new_rises : goal.returns-in-Greater-clause-new_rises
returns-in-Greater-clause-new_rises c = always_ok c.pass-in-Greater.result (left_rises c.args.new.now c.pass-in-Greater.new.files c.pass-in-Greater.ensures.passed c.requires.new_rises)
