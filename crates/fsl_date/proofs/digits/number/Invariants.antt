use Rattle.std.proofs.Common.{◌≡◌, ◌<◌, ◌^◌, take}
use Rattle.fsl_text.specs.Decimals.{decimal_value}
use Rattle.fsl_date.proofs.digits.number.Given as goal

abbrev pub invariant-loop-digit : goal.invariant-loop-digit
invariant-loop-digit l = record { value : l.value ≡ decimal_value (take l.digit-index l.digits); bound : l.value < 10 ^ l.digit-index }
