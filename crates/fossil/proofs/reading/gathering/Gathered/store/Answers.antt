use Rattle.std.proofs.Common.{ℕ, List, length, subst, ◌∙◌, ◌≡◌}
use Rattle.fsl_repo.specs.Machine.{room_of}
use Rattle.fossil.specs.Taking.{IsAdded}
use Rattle.fossil.proofs.GatherLemmas.{room_in}
use Rattle.fossil.proofs.reading.gathering.Gathered.store.Goals as goal

same_room : (a b c d e f : ℕ) → a ≡ d → b ≡ e → c ≡ f → room_of a b c ≡ room_of d e f
same_room a b c d e f p q r = λ i. room_of (p i) (q i) (r i)

pub returns-in-Ok : goal.returns-in-Ok
returns-in-Ok c =
    let g = c.args.self.now in
    let f = c.args.file in
    let new = c.add-added.new.self in
    room_in f g new c.requires.small c.requires.named c.requires.absent
    (subst (λ (b : List ℕ). IsAdded f.name (record { private = f.private; bytes = b }) g new) c.bytes.ensures c.in-Ok.ensures)
    c.len-wants.ensures.ordered c.room.result
    (c.room.ensures ∙ same_room c.from.result c.len-count.result c.len-wants.result new.bytes (length new.facts.entries) (length new.wanted.keys) c.from.ensures c.len-count.ensures.len c.len-wants.ensures.len)
