use Rattle.fossil.specs.Acts.{input_of}
use Rattle.fossil.proofs.UsersLemmas.{users_as, no_users_as}
use Rattle.fossil.proofs.reading.users.read_users.Goals as goal

pub returns-in-Ok-clause-users : goal.returns-in-Ok-clause-users
returns-in-Ok-clause-users g c =
    users_as (input_of (g.S.Source.state c.args.users.now, g.S.Source.state c.read_front.new.source)) c.bytes.result.now c.in-Ok.text c.users_of.result c.bytes.ensures
    c.in-Ok.ensures.read c.in-Ok.ensures.far c.in-Ok.ensures.few c.in-Ok.ensures.same c.users_of.ensures.users

pub returns-in-Ok-clause-none : goal.returns-in-Ok-clause-none
returns-in-Ok-clause-none g c =
    no_users_as (input_of (g.S.Source.state c.args.users.now, g.S.Source.state c.read_front.new.source)) c.bytes.result.now c.in-Ok.text c.users_of.result c.bytes.ensures
    c.in-Ok.ensures.read c.in-Ok.ensures.far c.in-Ok.ensures.few c.in-Ok.ensures.same c.users_of.ensures.fault
