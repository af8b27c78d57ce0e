use Rattle.std.proofs.Common.{refl, arith, inr}
use Rattle.fsl_record.proofs.reading.read_receipt.Goals as goal

-- the login isn't there whole
pub returns-in_default-split_bytes-clause-fault : goal.returns-in_default-split_bytes-clause-fault
returns-in_default-split_bytes-clause-fault c =
    inr (
      c.in_ok-number.number,
      c.in_ok-number.bytes.now,
      c.in_ok-number.ensures.number,
      inr (c.in-Some.length, c.in-Some.bytes.now, record { layout = c.in-Some.ensures.0; few = omega arith }, (refl, c.in_default-split_bytes.ensures)),
    )
