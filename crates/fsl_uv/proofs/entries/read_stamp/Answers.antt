use Rattle.fsl_uv.proofs.EntryLemmas.{no-second-space, no-moment-word, no-hash-word}
use Rattle.fsl_uv.proofs.entries.read_stamp.Goals as goal

pub returns-in_default-split_at : goal.returns-in_default-split_at
returns-in_default-split_at c =
    no-second-space c.args.words.now c.in-Some.moment.now c.in-Some.rest.now c.in-Some.ensures.0 c.in-Some.ensures.1 c.in_default-split_at.ensures

pub returns-in_default-read_moment : goal.returns-in_default-read_moment
returns-in_default-read_moment c =
    no-moment-word c.args.words.now c.in-Some.moment.now c.in-Some.rest.now c.in-Some.ensures.0 c.in-Some.ensures.1 c.in_default-read_moment.ensures

pub returns-in-None : goal.returns-in-None
returns-in-None c =
    no-hash-word c.args.words.now c.in-Some.moment.now c.in-Some.rest.now c.in-Some.ensures.0 c.in-Some.ensures.1
    c.in-Some-split_at.hash.now c.in-Some-split_at.word.now c.in-Some-split_at.ensures.0 c.in-Some-split_at.ensures.1 c.in-None.ensures
