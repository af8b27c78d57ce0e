use Rattle.fsl_uv.proofs.EntryLemmas.{no-prefix, no-stamp, no-content, parts-are-of}
use Rattle.fsl_uv.proofs.entries.parts_of.Goals as goal

pub returns-in_default-behind : goal.returns-in_default-behind
returns-in_default-behind c =
    no-prefix c.args.text.now c.in-Some.line.now c.in-Some.held.now c.in-Some.ensures.0 c.in-Some.ensures.1 c.in_default-behind.ensures

pub returns-in_default-read_stamp : goal.returns-in_default-read_stamp
returns-in_default-read_stamp c =
    no-stamp c.args.text.now c.in-Some.line.now c.in-Some.held.now c.in-Some.ensures.0 c.in-Some.ensures.1 c.in-Some-behind.words.now
    c.in-Some-behind.ensures c.in_default-read_stamp.ensures

pub returns-in-None : goal.returns-in-None
returns-in-None c =
    no-content c.args.text.now c.in-Some.line.now c.in-Some.held.now c.in-Some.ensures.0 c.in-Some.ensures.1 c.in-Some-behind.words.now
    c.in-Some-read_stamp.stamp.0 c.in-Some-read_stamp.stamp.1 c.in-Some-read_stamp.stamp.2.now c.in-Some-read_stamp.ensures.0 c.in-Some-read_stamp.ensures.1
    c.in-Some-behind.ensures c.in-Some-read_stamp.ensures.2 c.in-None.ensures

pub returns-in-Some-checked : goal.returns-in-Some-checked
returns-in-Some-checked c =
    parts-are-of c.args.text.now c.in-Some.line.now c.in-Some.held.now c.in-Some.ensures.0 c.in-Some.ensures.1 c.in-Some-behind.words.now
    c.in-Some-read_stamp.stamp.0 c.in-Some-read_stamp.stamp.1 c.in-Some-read_stamp.stamp.2.now c.in-Some-read_stamp.ensures.0 c.in-Some-read_stamp.ensures.1
    c.in-Some-behind.ensures c.in-Some-read_stamp.ensures.2 c.in-Some-checked.parts.moment c.in-Some-checked.parts.hash c.in-Some-checked.parts.word.now c.in-Some-checked.parts.held.now
    c.in-Some-checked.ensures.0 c.in-Some-checked.ensures.1 c.in-Some-checked.ensures.2 c.in-Some-checked.ensures.3 c.in-Some-checked.ensures.4
