use Rattle.std.proofs.Common.{length, ap, ◌∙◌, arith}
use Rattle.std.proofs.lemmas.Bool.{eqb-true}
use Rattle.fsl_blobs.proofs.ContentLemmas.{put-either, put-cap}
use Rattle.fsl_blobs.proofs.contents.keep.Goals as goal

pub returns-in-Ok-clause-kept : goal.returns-in-Ok-clause-kept
returns-in-Ok-clause-kept c = put-either _ eqb-true c.args.cache.now c.put.new.self c.args.place c.in-Ok.copy c.args.text.now (c.in-Ok.ensures ∙ c.bytes-2.ensures) (omega (arith, ap length c.bytes.ensures, c.if-bytes-gt-MOST_KEPT.false)) c.put.result c.put.ensures.entries c.put.ensures.err

pub returns-in-Ok-clause-cap : goal.returns-in-Ok-clause-cap
returns-in-Ok-clause-cap c = put-cap _ eqb-true c.args.cache.now c.put.new.self c.args.place c.in-Ok.copy c.put.result c.put.ensures.entries c.put.ensures.err
