use Rattle.std.proofs.Common.{sym, subst}
use Rattle.fossil.specs.declared.answers.fault.Fault.{Fault}
use Rattle.fossil.specs.Run.{IsWritten}
use Rattle.fossil.specs.Due.{printed_fault}
use Rattle.fossil.specs.Acts.{output_of}
use Rattle.fossil.proofs.answers.due.print_fault.Goals as goal

pub returns-in-Usage : goal.returns-in-Usage
returns-in-Usage g c = subst (λ (f : Fault). IsWritten (printed_fault f) (output_of (g.K.Sink.state c.args.out.now, g.K.Sink.state c.write.new.out)) c.write.result) (sym c.in-Usage.is) c.write.ensures

pub returns-in-Input : goal.returns-in-Input
returns-in-Input g c = subst (λ (f : Fault). IsWritten (printed_fault f) (output_of (g.K.Sink.state c.args.out.now, g.K.Sink.state c.write-in-Input.new.out)) c.write-in-Input.result) (sym c.in-Input.is) c.write-in-Input.ensures

pub returns-in-Memory : goal.returns-in-Memory
returns-in-Memory g c = subst (λ (f : Fault). IsWritten (printed_fault f) (output_of (g.K.Sink.state c.args.out.now, g.K.Sink.state c.write-in-Memory.new.out)) c.write-in-Memory.result) (sym c.in-Memory.is) c.write-in-Memory.ensures
