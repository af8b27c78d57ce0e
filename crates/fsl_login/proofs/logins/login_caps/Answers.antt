use Rattle.std.proofs.Common.{rules}
use Rattle.fsl_login.proofs.logins.login_caps.Goals as goal

pub returns-then-not-is_name_text : goal.returns-then-not-is_name_text
returns-then-not-is_name_text c = search rules

pub returns-then-is_nobody : goal.returns-then-is_nobody
returns-then-is_nobody c = search rules

pub returns-in_default : goal.returns-in_default
returns-in_default c = search rules

pub returns-then-is_signed : goal.returns-then-is_signed
returns-then-is_signed c = search rules

pub returns-else-is_signed : goal.returns-else-is_signed
returns-else-is_signed c = search rules
