use Rattle.std.proofs.Common.{◌≡◌, inl, inr, sym, ◌∙◌, arith}
use Rattle.std.proofs.lemmas.List.{nil_from_length}
use Rattle.fsl_disk.proofs.Moments.{quiet_call, keeps_on}
use Rattle.fsl_pull.proofs.CloneAnswers.{unless_on}
use Rattle.fsl_pull.proofs.CloneWhole.{unmeasured, has_bytes, over_on, not_zero}
use Rattle.fsl_pull.proofs.cloning.clone_from.Goals as goal

pub returns-in-Err-clause-clones : goal.returns-in-Err-clause-clones
returns-in-Err-clause-clones g c =
    unmeasured g.D.Disk.state c.args.server c.args.fields.now c.args.login.now (g.N.Link.state c.args.dial.now) c.args.disk c.len.new.self
    c.in-Err.ensures.cause.failed (quiet_call (g.D.Disk.state c.args.disk) (g.D.Disk.state c.len.new.self) c.len.ensures.call c.len.ensures.contents)

pub returns-in-Err-clause-untouched : goal.returns-in-Err-clause-untouched
returns-in-Err-clause-untouched g c = λ held told. inr (quiet_call (g.D.Disk.state c.args.disk) (g.D.Disk.state c.len.new.self) c.len.ensures.call c.len.ensures.contents)

pub returns-then-len-ne0-clause-clones : goal.returns-then-len-ne0-clause-clones
returns-then-len-ne0-clause-clones g c =
    has_bytes g.D.Disk.state c.args.server c.args.fields.now c.args.login.now (g.N.Link.state c.args.dial.now) c.args.disk c.len.new.self
    c.in-Ok.len (not_zero c.in-Ok.len c.if-len-ne0.true) c.in-Ok.ensures.answer.1 (quiet_call (g.D.Disk.state c.args.disk) (g.D.Disk.state c.len.new.self) c.len.ensures.call c.len.ensures.contents)

pub returns-then-len-ne0-clause-untouched : goal.returns-then-len-ne0-clause-untouched
returns-then-len-ne0-clause-untouched g c = λ held told. inr (quiet_call (g.D.Disk.state c.args.disk) (g.D.Disk.state c.len.new.self) c.len.ensures.call c.len.ensures.contents)

pub clone_onto-requires-clause-empty : goal.clone_onto-requires-clause-empty
clone_onto-requires-clause-empty g c = λ held told. nil_from_length held (omega (arith, c.if-len-ne0.false, c.in-Ok.ensures.answer.1 held (sym c.len.ensures.contents ∙ told)))

pub returns-clause-clones : goal.returns-clause-clones
returns-clause-clones g c =
    over_on g.D.Disk.state c.args.server c.args.fields.now c.args.login.now (g.N.Link.state c.args.dial.now) c.args.disk c.len.new.self (λ f model left. g.met.D.Disk.only_now c.args.disk f model left)
    (quiet_call (g.D.Disk.state c.args.disk) (g.D.Disk.state c.len.new.self) c.len.ensures.call c.len.ensures.contents) c.in-Ok.ensures.cause.same
    (g.N.Link.state c.clone_onto.new.dial) c.clone_onto.result.0 c.clone_onto.result.1 c.clone_onto.ensures.clones

pub returns-clause-steady : goal.returns-clause-steady
returns-clause-steady g c =
    unless_on ((g.D.Disk.state c.clone_onto.result.0).faults ≡ (g.D.Disk.state c.len.new.self).faults) ((g.D.Disk.state c.clone_onto.result.0).faults ≡ (g.D.Disk.state c.args.disk).faults) c.clone_onto.result.1
    (λ same. same ∙ c.in-Ok.ensures.cause.same) c.clone_onto.ensures.steady

pub returns-clause-untouched : goal.returns-clause-untouched
returns-clause-untouched g c = λ held told. inl (nil_from_length held (omega (arith, c.if-len-ne0.false, c.in-Ok.ensures.answer.1 held told)))

pub returns-clause-keeps : goal.returns-clause-keeps
returns-clause-keeps g c = keeps_on (g.D.Disk.state c.args.disk) (g.D.Disk.state c.len.new.self) (g.D.Disk.state c.clone_onto.result.0) c.len.ensures.call.keeps c.clone_onto.ensures.keeps
