use Rattle.std.proofs.Common.{◌∙◌, sym, List, ℕ}
use Rattle.fsl_files.specs.declared.FileRow.{FileRow}
use Rattle.fsl_files.proofs.Merging.{more_rises, others_rise, take_left, take_right, take_less, take_equal, take_greater}
use Rattle.fsl_files.proofs.overlay.Merged.take_first.Goals as goal

abbrev path : FileRow → List ℕ
path r = r.path

pub invariant_of-self : goal.invariant_of-self
invariant_of-self c =
    let i = c.self.inside in
    (others_rise path i.rows.now i.base.now c.self.invariant.1 c.self.invariant.0 c.in_ok-first.first.now c.in_ok-first.base.now c.in_ok-first.ensures.cases.0, c.self.invariant.1)

pub returns-in_default : goal.returns-in_default
returns-in_default c =
    let i = c.self.inside in
    sym c.self.view_is
    ∙ take_right path i.rows.now i.base.now c.self.invariant.1 c.self.invariant.0 c.in_ok-first.first.now c.in_ok-first.base.now c.in_default.ensures.cases c.in_ok-first.ensures.cases.0

pub invariant_of-self-in_default-split_first : goal.invariant_of-self-in_default-split_first
invariant_of-self-in_default-split_first c =
    let i = c.self.inside in
    (c.self.invariant.0, more_rises path i.rows.now i.base.now c.self.invariant.1 c.self.invariant.0 c.in-Some.row.now c.in-Some.rows.now c.in-Some.ensures.cases.0)

pub returns-in_default-split_first : goal.returns-in_default-split_first
returns-in_default-split_first c =
    let i = c.self.inside in
    sym c.self.view_is
    ∙ take_left path i.rows.now i.base.now c.self.invariant.1 c.self.invariant.0 c.in-Some.row.now c.in-Some.rows.now c.in-Some.ensures.cases.0 c.in_default-split_first.ensures.cases

pub invariant_of-self-in-Less : goal.invariant_of-self-in-Less
invariant_of-self-in-Less c =
    let i = c.self.inside in
    (c.self.invariant.0, more_rises path i.rows.now i.base.now c.self.invariant.1 c.self.invariant.0 c.in-Some.row.now c.in-Some.rows.now c.in-Some.ensures.cases.0)

pub invariant_of-self-in-Equal : goal.invariant_of-self-in-Equal
invariant_of-self-in-Equal c =
    let i = c.self.inside in (
      others_rise path i.rows.now i.base.now c.self.invariant.1 c.self.invariant.0 c.in-Some-split_first.first.now c.in-Some-split_first.base.now c.in-Some-split_first.ensures.cases.0,
      more_rises path i.rows.now i.base.now c.self.invariant.1 c.self.invariant.0 c.in-Some.row.now c.in-Some.rows.now c.in-Some.ensures.cases.0,
    )

pub invariant_of-self-in-Greater : goal.invariant_of-self-in-Greater
invariant_of-self-in-Greater c =
    let i = c.self.inside in
    (others_rise path i.rows.now i.base.now c.self.invariant.1 c.self.invariant.0 c.in-Some-split_first.first.now c.in-Some-split_first.base.now c.in-Some-split_first.ensures.cases.0, c.self.invariant.1)

pub returns-in-Less : goal.returns-in-Less
returns-in-Less c =
    let i = c.self.inside in
    sym c.self.view_is
    ∙ take_less path i.rows.now i.base.now c.self.invariant.1 c.self.invariant.0 c.in-Some.row.now c.in-Some-split_first.first.now c.in-Some.rows.now c.in-Some-split_first.base.now
    c.in-Some.ensures.cases.0 c.in-Some-split_first.ensures.cases.0 (sym c.cmp.ensures ∙ c.in-Less.is)

pub returns-in-Equal : goal.returns-in-Equal
returns-in-Equal c =
    let i = c.self.inside in
    sym c.self.view_is
    ∙ take_equal path i.rows.now i.base.now c.self.invariant.1 c.self.invariant.0 c.in-Some.row.now c.in-Some-split_first.first.now c.in-Some.rows.now c.in-Some-split_first.base.now
    c.in-Some.ensures.cases.0 c.in-Some-split_first.ensures.cases.0 (sym c.cmp.ensures ∙ c.in-Equal.is)

pub returns-in-Greater : goal.returns-in-Greater
returns-in-Greater c =
    let i = c.self.inside in
    sym c.self.view_is
    ∙ take_greater path i.rows.now i.base.now c.self.invariant.1 c.self.invariant.0 c.in-Some.row.now c.in-Some-split_first.first.now c.in-Some.rows.now c.in-Some-split_first.base.now
    c.in-Some.ensures.cases.0 c.in-Some-split_first.ensures.cases.0 (sym c.cmp.ensures ∙ c.in-Greater.is)
