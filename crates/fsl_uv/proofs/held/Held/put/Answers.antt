use Rattle.std.proofs.Common.{◌∙◌, sym, ap}
use Rattle.fsl_order.specs.Names.{bytes_cmp}
use Rattle.std.specs.BTreeMap.{insert_entry}
use Rattle.fsl_uv.proofs.HeldLemmas.{kept-same, inserted}
use Rattle.fsl_uv.proofs.held.Held.put.Goals as goal

pub returns-then-keeps-clause-ok : goal.returns-then-keeps-clause-ok
returns-then-keeps-clause-ok c = kept-same c.args.self.now c.args.entry c.keeps.ensures.rises (sym c.keeps.ensures.kept ∙ c.if-keeps.true)

pub returns-in-Ok-clause-ok : goal.returns-in-Ok-clause-ok
returns-in-Ok-clause-ok c =
    c.in-Ok.ensures.ok ∙ ap (insert_entry bytes_cmp c.args.self.now c.args.entry.path) c.of.ensures
    ∙ inserted c.args.self.now c.args.entry c.keeps.ensures.rises (sym c.keeps.ensures.kept ∙ c.if-keeps.false)
