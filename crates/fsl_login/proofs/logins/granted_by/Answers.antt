use Rattle.std.proofs.Common.{◌≡◌, ◌<◌, ◌∙◌, List, length, get_or, ap, arith, Result, Ok, Err}
use Rattle.std.specs.Prelude.{IsErr, IsErrAnd}
use Rattle.fsl_login.specs.declared.User.{User}
use Rattle.fsl_login.specs.Logins.{granted}
use Rattle.fsl_wire.specs.declared.WireCard.{WireCard}
use Rattle.fsl_login.proofs.LoginLemmas.{accepted, refused, none_more}
use Rattle.fsl_login.proofs.logins.granted_by.Goals as goal

-- what a `?` hands on
failed : {X : Type 0} {E : Type 0} (r : Result X E) (e : E) (whole : Result X E) → IsErr r × IsErrAnd r (λ f. f ≡ e) → Err e ≡ whole → r ≡ whole
failed (Ok x) e whole p q = let none = p.0 in cc
failed (Err f) e whole p q = ap Err p.1 ∙ q

pub returns-in_err-card_caps-clause-granted : goal.returns-in_err-card_caps-clause-granted
returns-in_err-card_caps-clause-granted c =
    let message = c.args.draft.now.message in
    let count = c.len-place-end.ensures.count in
    let here = c.loop-place-test.true in
    let within : c.loop-place.place < length message = omega (arith, count, here) in
    let card : c.card.result.now ≡ get_or message c.loop-place.place c.card.result.now =
    c.card.ensures c.card.result.now ∙ ap (λ (m : List WireCard). get_or m c.loop-place.place c.card.result.now) (c.settle.ensures.message ∙ c.loop-place.invariant.0) in
    failed c.from_residual.result _ (granted c.args.users.now message) c.from_residual.ensures
    (refused c.items-users.result.now message c.loop-place.place c.loop-place.caps c.card.result.now c.loop-place.invariant.2 within card c.in_err-card_caps.field-0.0 c.in_err-card_caps.ensures
    ∙ ap (λ (us : List User). granted us message) c.items-users.ensures.value)

pub loop-place-preserved : goal.loop-place-preserved
loop-place-preserved c =
    let message = c.args.draft.now.message in
    let count = c.len-place-end.ensures.count in
    let here = c.loop-place-test.true in
    let within : c.loop-place.place < length message = omega (arith, count, here) in
    let card : c.card.result.now ≡ get_or message c.loop-place.place c.card.result.now =
    c.card.ensures c.card.result.now ∙ ap (λ (m : List WireCard). get_or m c.loop-place.place c.card.result.now) (c.settle.ensures.message ∙ c.loop-place.invariant.0) in
    let far = c.settle.ensures.settled in
    let most = c.loop-place.invariant.4 in (
      c.settle.ensures.message ∙ c.loop-place.invariant.0,
      omega (arith, far),
      accepted c.items-users.result.now message c.loop-place.place c.loop-place.caps c.card.result.now c.loop-place.invariant.2 within card
          c.in_ok-card_caps.field-0 c.both-caps.result c.in_ok-card_caps.ensures c.both-caps.ensures,
      none_more c.items-users.result.now message c.loop-place.place c.loop-place.caps c.card.result.now c.loop-place.invariant.2 within card
          c.in_ok-card_caps.field-0 c.in_ok-card_caps.ensures c.loop-place.invariant.3,
      omega (arith, far, most),
    )
