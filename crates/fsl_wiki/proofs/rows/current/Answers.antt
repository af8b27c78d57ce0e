use Rattle.std.proofs.Common.{◌≡◌, ◌∙◌, ℕ, List, Option, Some, None, refl, sym, ap}
use Rattle.std.specs.Option.{option_map}
use Rattle.fsl_table.specs.Contents.{first_of}
use Rattle.fsl_table.specs.Within.{above, within}
use Rattle.fsl_wiki.specs.Groups.{group_cmp}
use Rattle.fsl_wiki.specs.Late.{late_cmp}
use Rattle.fsl_wiki.specs.Kept.{top}
use Rattle.fsl_wiki.proofs.rows.current.Goals as goal

abbrev place_in : (ℕ × List ℕ) × Unit {0} → ℕ × List ℕ
place_in e = e.0

found : (o : Option (ℕ × List ℕ)) → o ≡ option_map place_in (option_map (λ p. (p, tt)) o)
found None = refl
found (Some p) = refl

pub returns-in-Some : goal.returns-in-Some
returns-in-Some g c =
    let race = c.in-Some.race in
    found c.next_within.result
    ∙ ap (option_map place_in) (c.next_within.ensures.next ∙ ap (λ m. first_of (above late_cmp race.second (within group_cmp race.first m.entries))) c.map.ensures)
    ∙ ap (top c.args.spots.now.held.entries) (sym c.in-Some.is)
