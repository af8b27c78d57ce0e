use Rattle.std.proofs.Common.{List, ◌∷◌, ◌++◌, [], ◌∙◌, sym, ap}
use Rattle.fsl_order.specs.Names.{bytes_cmp}
use Rattle.std.specs.BTreeMap.{insert_entry}
use Rattle.fsl_uv.specs.declared.applying.Change.{Change}
use Rattle.fsl_journal.specs.Places.{without_last}
use Rattle.fsl_uv.proofs.HeldLemmas.{kept-same, inserted}
use Rattle.fsl_uv.proofs.Logs.{less-with}
use Rattle.fsl_uv.proofs.UndoLemmas.{still-leads, nothing-changed}
use Rattle.fsl_uv.proofs.applying.take_in.Goals as goal

pub returns-then-keeps-clause-held : goal.returns-then-keeps-clause-held
returns-then-keeps-clause-held c = kept-same c.args.held.now c.args.entry c.keeps.ensures.rises (sym c.keeps.ensures.kept ∙ c.if-keeps.true)

pub returns-in-Ok-clause-held : goal.returns-in-Ok-clause-held
returns-in-Ok-clause-held c =
    c.in-Ok.ensures.ok ∙ ap (insert_entry bytes_cmp c.args.held.now c.args.entry.path) c.of-2.ensures
    ∙ inserted c.args.held.now c.args.entry c.keeps.ensures.rises (sym c.keeps.ensures.kept ∙ c.if-keeps.false)

pub returns-in-Ok-clause-undo : goal.returns-in-Ok-clause-undo
returns-in-Ok-clause-undo c =
    let change : Change = record { path = c.in_ok-path.path; before = c.in-Ok.before } in
    still-leads c.args.held.now c.keeps.ensures.rises c.set.ensures.small c.args.entry.path c.of-2.result c.args.journal.now c.append_entry.new.journal c.set.new.self
    c.args.changes.now.items c.push_reserved.new.self.items c.args.entry change c.in_ok-append_entry.ensures.ok c.in_ok-append_entry.ensures.fit c.in-Ok.ensures.ok
    (c.push_reserved.ensures.items ∙ ap (λ (xs : List Change). xs ++ change ∷ []) c.reserve.ensures.items) (c.in_ok-path.ensures ∙ c.bytes.ensures) c.in-Ok.ensures.before

pub returns-in-Err-clause-undo : goal.returns-in-Err-clause-undo
returns-in-Err-clause-undo c =
    nothing-changed c.args.journal.now c.take_back.new.self c.args.held.now c.set.new.self c.args.changes.now.items c.reserve.new.self.items
    (c.take_back.ensures.value ∙ ap without_last c.in_ok-append_entry.ensures.ok ∙ less-with c.args.journal.now c.args.entry c.requires.as_many) c.in-Err.ensures.err c.reserve.ensures.items
