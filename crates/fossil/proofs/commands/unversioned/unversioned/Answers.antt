use Rattle.std.proofs.Common.{sym, subst}
use Rattle.fsl_outside.specs.Streams.{SourceState}
use Rattle.fsl_words.specs.declared.Unversioned.{Unversioned}
use Rattle.fsl_words.specs.declared.Command.TheVariants as command_of
use Rattle.fossil.specs.Acts.{Acts}
use Rattle.fossil.specs.Unversioned.{IsUvObeyable}
use Rattle.fossil.specs.RunCall.{Moments}
use Rattle.fossil.proofs.commands.unversioned.unversioned.Goals as goal

pub begin-answer-requires : goal.begin-answer-requires
begin-answer-requires g c = subst IsUvObeyable c.in-Init.is c.requires.obeyable

pub add-requires : goal.add-requires
add-requires g c = subst IsUvObeyable c.in-Add.is c.requires.obeyable

pub remove-requires : goal.remove-requires
remove-requires g c = subst IsUvObeyable c.in-Remove.is c.requires.obeyable

pub returns-in-Init-clause-acts : goal.returns-in-Init-clause-acts
returns-in-Init-clause-acts g c =
    let input : SourceState × SourceState = (g.S.Source.state c.args.input.now, g.S.Source.state c.args.input.now) in
    let clock : Moments × Moments = (g.C.Clock.told c.args.clock.now, g.C.Clock.told c.args.clock.now) in
    subst (λ (x : Unversioned). Acts (command_of.Unversioned x) input clock (g.D.Disk.state c.args.disk, g.D.Disk.state c.begin-answer.new.disk) c.begin-answer.result) (sym c.in-Init.is) (c.begin-answer.ensures input.0 clock.0)

pub returns-in-Add-clause-acts : goal.returns-in-Add-clause-acts
returns-in-Add-clause-acts g c =
    let input : SourceState × SourceState = (g.S.Source.state c.args.input.now, g.S.Source.state c.add.new.input) in
    let clock : Moments × Moments = (g.C.Clock.told c.args.clock.now, g.C.Clock.told c.add.new.clock) in
    subst (λ (x : Unversioned). Acts (command_of.Unversioned x) input clock (g.D.Disk.state c.args.disk, g.D.Disk.state c.add.result.1) c.add.result.0) (sym c.in-Add.is) c.add.ensures

pub returns-in-Remove-clause-acts : goal.returns-in-Remove-clause-acts
returns-in-Remove-clause-acts g c =
    let input : SourceState × SourceState = (g.S.Source.state c.args.input.now, g.S.Source.state c.args.input.now) in
    let clock : Moments × Moments = (g.C.Clock.told c.args.clock.now, g.C.Clock.told c.remove.new.clock) in
    subst (λ (x : Unversioned). Acts (command_of.Unversioned x) input clock (g.D.Disk.state c.args.disk, g.D.Disk.state c.remove.result.1) c.remove.result.0) (sym c.in-Remove.is) (c.remove.ensures input.0)

pub returns-in-List-clause-acts : goal.returns-in-List-clause-acts
returns-in-List-clause-acts g c =
    let input : SourceState × SourceState = (g.S.Source.state c.args.input.now, g.S.Source.state c.args.input.now) in
    let clock : Moments × Moments = (g.C.Clock.told c.args.clock.now, g.C.Clock.told c.args.clock.now) in
    subst (λ (x : Unversioned). Acts (command_of.Unversioned x) input clock (g.D.Disk.state c.args.disk, g.D.Disk.state c.list.result.1) c.list.result.0) (sym c.in-List.is) (c.list.ensures input.0 clock.0)

pub returns-in-Cat-clause-acts : goal.returns-in-Cat-clause-acts
returns-in-Cat-clause-acts g c =
    let input : SourceState × SourceState = (g.S.Source.state c.args.input.now, g.S.Source.state c.args.input.now) in
    let clock : Moments × Moments = (g.C.Clock.told c.args.clock.now, g.C.Clock.told c.args.clock.now) in
    subst (λ (x : Unversioned). Acts (command_of.Unversioned x) input clock (g.D.Disk.state c.args.disk, g.D.Disk.state c.cat.result.1) c.cat.result.0) (sym c.in-Cat.is) (c.cat.ensures input.0 clock.0)
