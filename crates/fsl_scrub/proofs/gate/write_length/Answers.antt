use Rattle.std.proofs.Common.{Some, ap, ◌∙◌}
use Rattle.std.proofs.lemmas.Result.{on_ok_weaker}
use Rattle.fsl_journal.specs.Commit.{eight}
use Rattle.fsl_scrub.proofs.GrowingLemmas.{grown_by, length_written}
use Rattle.fsl_scrub.proofs.gate.write_length.Goals as goal

pub returns-clause-grows : goal.returns-clause-grows
returns-clause-grows g c =
    grown_by 16 _ (g.P.Disk.state c.args.spare.now) (g.P.Disk.state c.write_at.new.self) (λ f model left. g.met.P.Disk.only_now c.args.spare.now f model left) c.write_at.ensures.call

pub returns-clause-contents : goal.returns-clause-contents
unfolding eight
returns-clause-contents g c =
    on_ok_weaker c.write_at.result (λ put place rest size told. put _ told ∙ ap Some (length_written c.args.size place rest _ size c.to_be_bytes.ensures)) c.write_at.ensures.written
