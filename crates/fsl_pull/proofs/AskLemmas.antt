-- What the bytes of a reply read as.
use Rattle.std.specs.Prelude.{◌≡◌, ℕ, List, map, position, slice_get, Option, Some, None, option_and_then, Ok, Err}
use Rattle.std.specs.Option.{option_map_or}
use Rattle.std.proofs.Common.{refl, sym, ap, ◌∙◌, inr}
use Rattle.fsl_wire.specs.declared.WireCard.{WireCard}
use Rattle.fsl_wire.specs.declared.WireCard.TheVariants as wire
use Rattle.fsl_wire.specs.Messages.{IsLineOf}
use Rattle.fsl_wire.specs.Drafts.{bare, IsBareMessage}
use Rattle.fsl_wire.proofs.OneWay.{one_numbered}
use Rattle.fsl_wire.proofs.BareLemmas.{position_bare, picked_bare}
use Rattle.fsl_answer.specs.Contents.{first_of}
use Rattle.fsl_pull.specs.declared.PeerFault.TheVariants as peer
use Rattle.fsl_pull.specs.Replies.{is_private, private_line, error_of, error_text, cards_read, IsBodyRead}

-- cards with their lines, by whether one is private, and whether one is an error
read_by : (lines : List (ℕ × WireCard)) (line : Option ℕ) (text : Option (List ℕ)) → private_line lines ≡ line → error_text (map (λ l. l.1) lines) ≡ text
    → cards_read lines ≡ option_map_or (λ n. Err (peer.Line n)) line (option_map_or (λ t. Err (peer.Error t)) text (Ok (map bare (map (λ l. l.1) lines))))
read_by lines line text a b = λ i. option_map_or (λ n. Err (peer.Line n)) (a i) (option_map_or (λ t. Err (peer.Error t)) (b i) (Ok (map bare (map (λ l. l.1) lines))))

-- a login is no private card and no error
private_bare : (c : WireCard) → is_private (bare c) ≡ is_private c
private_bare (wire.Login u n s t l) = refl
private_bare (wire.Push s p) = refl
private_bare (wire.Pull s p) = refl
private_bare (wire.Clone f) = refl
private_bare (wire.CloneSeqno n) = refl
private_bare (wire.File n b) = refl
private_bare wire.Private = refl
private_bare (wire.Igot n p) = refl
private_bare (wire.Gimme n) = refl
private_bare (wire.Error t) = refl
private_bare (wire.Message t) = refl
private_bare wire.SendPrivate = refl

error_bare : (c : WireCard) → error_of (bare c) ≡ error_of c
error_bare (wire.Login u n s t l) = refl
error_bare (wire.Push s p) = refl
error_bare (wire.Pull s p) = refl
error_bare (wire.Clone f) = refl
error_bare (wire.CloneSeqno n) = refl
error_bare (wire.File n b) = refl
error_bare wire.Private = refl
error_bare (wire.Igot n p) = refl
error_bare (wire.Gimme n) = refl
error_bare (wire.Error t) = refl
error_bare (wire.Message t) = refl
error_bare wire.SendPrivate = refl

abbrev place_line : List (ℕ × WireCard) → Option ℕ → Option ℕ
place_line lines place = option_and_then (λ p. slice_get (map (λ l. l.0) lines) p) place

-- the first private card stands on this line
pub private_read : (body : List ℕ) (cards : List WireCard) (place n : ℕ) → IsBareMessage body cards → position is_private cards ≡ Some place → IsLineOf body place n → IsBodyRead body (Err (peer.Line n))
private_read body cards place n (whole, message, bared) at (others, is_too, line) =
    let lines = message.0 in
    let is = message.1 in
    let same = message.2 in
    let one : lines ≡ others = one_numbered body lines others is is_too in
    let first : position is_private (map (λ l. l.1) lines) ≡ Some place =
    ap (position is_private) (sym same) ∙ sym (position_bare is_private private_bare whole) ∙ ap (position is_private) (sym bared) ∙ at in
    let found : private_line lines ≡ Some n = ap (place_line lines) first ∙ ap (λ (ls : List (ℕ × WireCard)). slice_get (map (λ l. l.0) ls) place) one ∙ line in
    inr (lines, is, sym (read_by lines (Some n) (error_text (map (λ l. l.1) lines)) found refl))

-- no card is private, and the first error has this text, or there is none
pub open_read : (body : List ℕ) (cards : List WireCard) (text : Option (List ℕ)) → IsBareMessage body cards → position is_private cards ≡ None → error_text cards ≡ text
    → IsBodyRead body (option_map_or (λ t. Err (peer.Error t)) text (Ok cards))
open_read body cards text (whole, message, bared) none said =
    let lines = message.0 in
    let is = message.1 in
    let same = message.2 in
    let first : position is_private (map (λ l. l.1) lines) ≡ None =
    ap (position is_private) (sym same) ∙ sym (position_bare is_private private_bare whole) ∙ ap (position is_private) (sym bared) ∙ none in
    let error : error_text (map (λ l. l.1) lines) ≡ text =
    ap error_text (sym same) ∙ sym (ap first_of (picked_bare error_of error_bare whole)) ∙ ap error_text (sym bared) ∙ said in
    let these : cards ≡ map bare (map (λ l. l.1) lines) = bared ∙ ap (map bare) same in
    inr (lines, is, ap (λ (cs : List WireCard). option_map_or (λ t. Err (peer.Error t)) text (Ok cs)) these ∙ sym (read_by lines None text (ap (place_line lines) first) error))
