-- How the logins of a message are judged one after another.
use Rattle.std.proofs.Common.{◌≡◌, ℕ, suc, ◌+◌, ◌<◌, ◌≤◌, List, [], ◌∷◌, ◌++◌, length, take, drop, get_or, filter_map, fold, Option, Some, None, Result, Ok, Err, sym, ap, ◌∙◌, arith, add-one, drop-cons}
use Rattle.std.specs.List.{cons_option}
use Rattle.std.proofs.Math.ListN.{drop_of_length-le}
use Rattle.std.proofs.Math.Seq.{take-suc}
use Rattle.std.proofs.lemmas.List.Elements.{filter_map-append}
use Rattle.fsl_wire.specs.declared.Caps.{Caps}
use Rattle.fsl_wire.specs.declared.WireCard.{WireCard}
use Rattle.fsl_login.specs.declared.User.{User}
use Rattle.fsl_login.specs.declared.LoginFault.{LoginFault}
use Rattle.fsl_login.specs.Logins.{granted, granted_unless, login_fault, both, caps_of_card}
use Rattle.fsl_login.specs.Judging.{IsJudged}

-- what is allowed by cards behind others
abbrev pub granted_from : List User → Caps → List WireCard → Result Caps LoginFault
granted_from users caps cards = granted_unless (filter_map (login_fault users) cards) (fold (λ caps card. both caps (caps_of_card users card)) caps cards)

module _ (users : List User) (cards : List WireCard) (i : ℕ) (caps : Caps) (card : WireCard) (so : granted users cards ≡ granted_from users caps (drop i cards)) (lt : i < length cards) (is : card ≡ get_or cards i card) where
  rest : drop i cards ≡ card ∷ drop (i + 1) cards
  rest = rw add-one (drop-cons cards i card lt ∙ ap (λ (c : WireCard). c ∷ drop (suc i) cards) (sym is))

  behind : (o : Option LoginFault) → login_fault users card ≡ o
      → granted users cards ≡ granted_unless (cons_option o (filter_map (login_fault users) (drop (i + 1) cards))) (fold (λ caps card. both caps (caps_of_card users card)) (both caps (caps_of_card users card)) (drop (i + 1) cards))
  behind o e =
      so ∙ ap (granted_from users caps) rest
      ∙ ap (λ (f : Option LoginFault). granted_unless (cons_option f (filter_map (login_fault users) (drop (i + 1) cards))) (fold (λ caps card. both caps (caps_of_card users card)) (both caps (caps_of_card users card)) (drop (i + 1) cards))) e

  pub accepted : (added new : Caps) → IsJudged users card (Ok added) → new ≡ both caps added → granted users cards ≡ granted_from users new (drop (i + 1) cards)
  accepted added new judged e =
      behind None judged.0 ∙ ap (λ (c : Caps). granted_from users c (drop (i + 1) cards)) (sym (e ∙ ap (both caps) judged.1))

  pub none_more : (added : Caps) → IsJudged users card (Ok added) → filter_map (login_fault users) (take i cards) ≡ [] → filter_map (login_fault users) (take (i + 1) cards) ≡ []
  none_more added judged none =
      let next : i + 1 ≡ suc i = omega arith in
      ap (λ (k : ℕ). filter_map (login_fault users) (take k cards)) next ∙ ap (filter_map (login_fault users)) (take-suc cards i card lt)
      ∙ filter_map-append (login_fault users) (take i cards) (get_or cards i card ∷ [])
      ∙ (λ k. none k ++ filter_map (login_fault users) (sym is k ∷ []))
      ∙ ap (λ (f : Option LoginFault). cons_option f []) judged.0

  pub refused : (fault : LoginFault) → IsJudged users card (Err fault) → Err fault ≡ granted users cards
  refused fault judged = sym (behind (Some fault) judged)

pub all_judged : (users : List User) (cards : List WireCard) (i : ℕ) (caps : Caps) → granted users cards ≡ granted_from users caps (drop i cards) → length cards ≤ i → Ok caps ≡ granted users cards
all_judged users cards i caps so past = sym (so ∙ ap (granted_from users caps) (drop_of_length-le cards past))
