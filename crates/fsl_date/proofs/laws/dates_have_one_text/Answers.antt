use Rattle.fsl_date.proofs.Dates.{dates_read_as_written}
use Rattle.fsl_date.proofs.MomentTexts.{always_printed, printed_once}
use Rattle.fsl_date.proofs.laws.dates_have_one_text.Goals as goal

pub returns : goal.returns
returns c = record { printed = always_printed; once = printed_once; read = dates_read_as_written }
