use Rattle.std.proofs.Common.{ap, sym, refl, ◌∙◌, map, Err}
use Rattle.std.specs.Prelude.{string_bytes}
use Rattle.fossil.specs.Acts.{input_of}
use Rattle.fossil.specs.ServeCall.{left_of}
use Rattle.fossil.proofs.ServeLemmas.{unasked, asked_served}
use Rattle.fossil.proofs.commands.serve.serve.Goals as goal

pub returns-in-Ok-clause-said : goal.returns-in-Ok-clause-said
returns-in-Ok-clause-said g c = asked_served _ _ _ _ _ _ _ (map string_bytes c.args.words.now) _ c.args.repo c.in-Ok.requests c.in-Ok.ensures.asked c.serve_file.ensures

pub returns-in-Ok-clause-unread : goal.returns-in-Ok-clause-unread
returns-in-Ok-clause-unread g c = λ none. let e = sym none ∙ c.in-Ok.ensures.asked.1 in absurd (cc)

pub returns-in-Err-clause-said : goal.returns-in-Err-clause-said
returns-in-Err-clause-said g c =
    unasked _ _ (left_of c.ended.result.state) c.args.crews.items c.ended.result.crews.items _ _ (map string_bytes c.args.words.now) (input_of (g.S.Source.state c.args.users.now, g.S.Source.state c.args.users.now)) c.args.repo (Err c.in-Err.fault)
    c.in-Err.ensures.none refl (ap left_of c.ended.ensures.state) (ap (λ v. v.items) c.ended.ensures.crews) c.ended.ensures.said
