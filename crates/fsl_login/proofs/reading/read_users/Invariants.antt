use Rattle.std.proofs.Common.{◌-◌, length}
use Rattle.fsl_login.specs.Reading.{IsReadTo, IsSeen}
use Rattle.fsl_login.proofs.reading.read_users.Given as goal

abbrev pub invariant-lines : goal.invariant-lines
invariant-lines l = record {
  read : IsReadTo l.bytes l.at l.number l.users;
  seen : IsSeen l.seen l.users;
}

abbrev pub decreases-lines : goal.decreases-lines
decreases-lines l = length l.bytes - l.at
