use Rattle.std.proofs.Common.{◌≡◌, subst, MatchOption}
use Rattle.std.specs.Prelude.{◌≢◌}
use Rattle.fsl_table.proofs.Outcomes.{if_ok_map}
use Rattle.fsl_uv.specs.declared.heads.Head.{Head}
use Rattle.fsl_uv.specs.Reading.{IsHead, head_text}
use Rattle.fsl_uv.proofs.FrontLemmas.{no-head, front-is}
use Rattle.fsl_uv.proofs.fronts.front_of.Goals as goal

pub returns-in-None : goal.returns-in-None
returns-in-None c =
    let line = c.in-Some.line.now in
    no-head c.args.bytes.now line c.in-Some.behind.now c.in-Some.ensures.0 c.in-Some.ensures.1
    (subst (λ o. MatchOption o ((h : Head) → IsHead h → line ≢ head_text h) (λ h. IsHead h × (line ≡ head_text h))) c.in-None.is c.in_ok-head.ensures)

pub returns-in-Some-head : goal.returns-in-Some-head
returns-in-Some-head c =
    let line = c.in-Some.line.now in
    let head = subst (λ o. MatchOption o ((h : Head) → IsHead h → line ≢ head_text h) (λ h. IsHead h × (line ≡ head_text h))) c.in-Some-head.is c.in_ok-head.ensures in
    if_ok_map c.front_behind.result (λ f p. front-is c.args.bytes.now line c.in-Some.behind.now c.in-Some.ensures.0 c.in-Some.ensures.1 c.in-Some-head.head head.0 head.1 f p) c.front_behind.ensures
