use Rattle.std.proofs.Common.{Ok, map, take}
use Rattle.fsl_record.specs.declared.Record.TheVariants as record_of
use Rattle.fsl_record.specs.Records.{records_bytes}
use Rattle.fsl_scrub.specs.Growing.{Writes}
use Rattle.fsl_scrub.proofs.growing.append_shuns.Given as goal

abbrev pub invariant-loop-name : goal.invariant-loop-name
invariant-loop-name g l = Writes l.fn.at (records_bytes (map record_of.Shun (take l.name-index l.names))) (g.P.Disk.state l.initial.spare) (g.P.Disk.state l.spare) (Ok l.end)
