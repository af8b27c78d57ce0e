use Rattle.std.proofs.Common.{refl}
use Rattle.fsl_watch.proofs.lines.round_line.Goals as goal

pub returns : goal.returns
returns c =
    rw (
      c.in_ok-append_count-4.ensures,
      c.in_ok-append_count-3.ensures,
      c.in_ok-append_count-2.ensures,
      c.in_ok-append_count.ensures,
      c.in_ok-text.ensures,
      c.went.ensures,
      c.came.ensures,
    ) refl
