use Rattle.fsl_wire.proofs.FrontLemmas.{bad_line, short_content, bare, bare_line, file_front}
use Rattle.fsl_wire.proofs.fronts.line_before.Goals as goal

pub returns-then-size-bytes : goal.returns-then-size-bytes
returns-then-size-bytes c = short_content c.args.bytes.now c.in-File.name c.args.end c.in-File.size c.requires c.in-File.ensures c.if-size-bytes.true

pub returns-in-Bad : goal.returns-in-Bad
returns-in-Bad c = bad_line c.args.bytes.now c.args.end c.in-Bad.wrong c.requires c.in-Bad.ensures

pub returns-else-size-bytes : goal.returns-else-size-bytes
returns-else-size-bytes c = file_front c.args.bytes.now c.in-File.name c.args.end c.in-File.size c.requires c.in-File.ensures c.if-size-bytes.false

pub returns-in_default : goal.returns-in_default
returns-in_default c =
    bare_line c.args.bytes.now c.args.end c.read_line.result c.requires c.read_line.ensures
    (bare c.read_line.result (λ name size. c.in_default.not-File name size) (λ wrong. c.in_default.not-Bad wrong)).0
