use Rattle.fsl_uv.proofs.HeadLemmas.{no-size-word, not-sized, marks-are}
use Rattle.fsl_uv.proofs.heads.read_marks.Goals as goal

pub returns-in_default-read_size : goal.returns-in_default-read_size
returns-in_default-read_size c =
    no-size-word c.args.words.now c.in-Some.stamp.0 c.in-Some.stamp.1 c.in-Some.stamp.2.now c.in-Some.ensures.0 c.in-Some.ensures.1 c.in-Some.ensures.2 c.in_default-read_size.ensures

pub returns-in-Some-sized : goal.returns-in-Some-sized
returns-in-Some-sized c =
    marks-are c.args.words.now c.in-Some.stamp.0 c.in-Some.stamp.1 c.in-Some.stamp.2.now c.in-Some.ensures.0 c.in-Some.ensures.1 c.in-Some.ensures.2
    c.in-Some-read_size.size c.in-Some-read_size.ensures.1 c.in-Some-read_size.ensures.0 c.in-Some-sized.marks.0 c.in-Some-sized.marks.1 c.in-Some-sized.marks.2
    c.in-Some-sized.ensures.0 c.in-Some-sized.ensures.1 c.in-Some-sized.ensures.2 c.in-Some-sized.ensures.3

pub returns-in-None : goal.returns-in-None
returns-in-None c =
    not-sized c.args.words.now c.in-Some.stamp.0 c.in-Some.stamp.1 c.in-Some.stamp.2.now c.in-Some.ensures.0 c.in-Some.ensures.1 c.in-Some.ensures.2
    c.in-Some-read_size.size c.in-Some-read_size.ensures.1 c.in-Some-read_size.ensures.0 c.in-None.ensures
