use Rattle.std.proofs.Common.{ap, sym, ◌∙◌, ◌++◌, take, drop}
use Rattle.fsl_outside.proofs.Moved.{read_moves, read_grows}
use Rattle.fsl_outside.proofs.lines.Line.read.Goals as goal

pub returns-clause-moved : goal.returns-clause-moved
returns-clause-moved c =
    let read = read_moves c.self.inside.bytes.items c.deref.result.now c.copy_from_slice.new.self c.args.into.now c.self.inside.at c.min-count.result
    c.deref.ensures.value c.min-count.ensures c.copy_from_slice.ensures.after in
    let grows = read_grows c.self.inside.bytes.items c.deref.result.now c.copy_from_slice.new.self c.args.into.now c.self.inside.at c.min-count.result
    c.deref.ensures.value c.min-count.ensures c.copy_from_slice.ensures.after in
    record {
      left = ap (λ m. m.left) (sym c.self.view_is) ∙ read.0;
      read = grows ∙ ap (λ m. m.read ++ take c.min-count.result (c.copy_from_slice.new.self ++ drop c.min-count.result c.args.into.now)) c.self.view_is;
      taken = ap (λ m. m.taken) c.self.view_is;
      failed = ap (λ m. m.failed) c.self.view_is;
    }

pub returns-clause-end : goal.returns-clause-end
returns-clause-end c =
    (read_moves c.self.inside.bytes.items c.deref.result.now c.copy_from_slice.new.self c.args.into.now c.self.inside.at c.min-count.result
    c.deref.ensures.value c.min-count.ensures c.copy_from_slice.ensures.after).1
