use Rattle.std.proofs.Common.{◌≡◌, ℕ, List, sym, subst, ◌∙◌}
use Rattle.fsl_wire.specs.declared.WireCard.{WireCard}
use Rattle.fsl_wire.specs.Drafts.{IsBareMessage}
use Rattle.fossil.proofs.reading.message.read_files.Goals as goal

pub files_among-requires : goal.files_among-requires
files_among-requires c =
    let same : c.bytes.result.now ≡ c.bytes-in-Ok.result.now = c.bytes.ensures ∙ sym c.bytes-in-Ok.ensures in
    subst (λ (m : List ℕ). IsBareMessage m c.into_cards.result) same
    (subst (λ (cards : List WireCard). IsBareMessage c.bytes.result.now cards) (sym c.into_cards.ensures) c.in-Ok.ensures.message)
