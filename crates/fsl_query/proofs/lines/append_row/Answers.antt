use Rattle.std.proofs.Common.{◌≡◌, ◌∷◌, ◌++◌, [], append_assoc}
use Rattle.fsl_query.specs.Lines.{shown, timeline_line}
use Rattle.fsl_query.proofs.lines.append_row.Goals as goal

pub returns : goal.returns
returns c =
    let whole : c.append_shown_word.new.into ++ shown c.bytes-2.result.now ++ 10 ∷ [] ≡ c.args.into.now ++ timeline_line c.args.row.now
    = rw (c.in_ok-append_shown_word.ensures, c.in_ok-append_word.ensures, c.in_ok-append_dated.ensures, c.kind_text.ensures, c.bytes.ensures, c.bytes-2.ensures) (simp append_assoc) in
    rw (← whole) c.append_last.ensures
