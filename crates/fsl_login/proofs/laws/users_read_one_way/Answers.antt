use Rattle.fsl_login.proofs.OneReading.{users_read_one_way}
use Rattle.fsl_login.proofs.laws.users_read_one_way.Goals as goal

pub returns : goal.returns
returns c = users_read_one_way
