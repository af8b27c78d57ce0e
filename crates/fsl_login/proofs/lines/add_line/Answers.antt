use Rattle.fsl_login.specs.UserFiles.{caps_of}
use Rattle.fsl_login.proofs.LineLemmas.{kept_by}
use Rattle.fsl_login.proofs.lines.add_line.Goals as goal

pub returns-in-User-clause-kept : goal.returns-in-User-clause-kept
returns-in-User-clause-kept c =
    kept_by c.add_user.result c.args.line.now c.in-User.name.now c.in-User.secret.now (caps_of c.in-User.letters.now) c.args.users.now c.add_user.new.users c.add_user.ensures.new c.add_user.ensures.users
    c.in-User.ensures.2
