use Rattle.fsl_wire.proofs.FrontLemmas.{bad_last, file_last, bare, last_reads}
use Rattle.fsl_wire.proofs.fronts.last_line.Goals as goal

pub returns-in-Bad : goal.returns-in-Bad
returns-in-Bad c = bad_last c.args.bytes.now c.in-Bad.wrong c.requires c.in-Bad.ensures

pub returns-in-File : goal.returns-in-File
returns-in-File c = file_last c.args.bytes.now c.in-File.name c.in-File.size c.requires c.in-File.ensures

pub returns-in_default : goal.returns-in_default
returns-in_default c =
    last_reads c.args.bytes.now c.read_line.result c.requires c.read_line.ensures
    (bare c.read_line.result (λ name size. c.in_default.not-File name size) (λ wrong. c.in_default.not-Bad wrong)).1
