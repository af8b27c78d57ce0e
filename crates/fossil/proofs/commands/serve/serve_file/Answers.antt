use Rattle.std.proofs.Common.{ap}
use Rattle.fossil.specs.Acts.{input_of}
use Rattle.fossil.specs.ServeCall.{left_of}
use Rattle.fossil.proofs.ServeLemmas.{users_served, nobody_served}
use Rattle.fossil.proofs.commands.serve.serve_file.Goals as goal

pub returns-in-Ok : goal.returns-in-Ok
returns-in-Ok g c = users_served _ _ _ _ _ _ _ c.args.disk _ c.in-Ok.users c.args.requests c.in-Ok.ensures.users c.serve_disk.ensures

pub returns-in-Err : goal.returns-in-Err
returns-in-Err g c =
    nobody_served _ _ (left_of c.ended.result.state) c.args.crews.items c.ended.result.crews.items _ _ c.args.disk (input_of (g.S.Source.state c.args.users.now, g.S.Source.state c.read_users.new.users)) c.in-Err.due c.args.requests
    (ap left_of c.ended.ensures.state) (ap (λ v. v.items) c.ended.ensures.crews) c.in-Err.ensures.none c.ended.ensures.said
