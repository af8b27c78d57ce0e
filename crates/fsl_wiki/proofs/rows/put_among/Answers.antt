use Rattle.std.proofs.Common.{◌≡◌, ◌∙◌, ◌&&◌, ◌||◌, not, ap}
use Rattle.std.specs.Prelude.{Result, Ok, Err, IfOk}
use Rattle.std.specs.Str.{bytes_eq}
use Rattle.fsl_order.specs.Names.{bytes_cmp, has}
use Rattle.fsl_table.specs.Contents.{value_at, with_entry}
use Rattle.fsl_wiki.specs.Kept.{Rows, is_either, leads, race_at, race_in, row_at, row_by, rows_of, same_row}
use Rattle.fsl_wiki.proofs.Latest.{leads_entry, leads_if, row_told}
use Rattle.fsl_wiki.proofs.Changing.{among_changed}
use Rattle.fsl_wiki.proofs.rows.put_among.Goals as goal

both_if : {X E : Type 0} {P Q S : X → Type 0} (r : Result X E) → ((x : X) → P x → Q x → S x) → IfOk r P → IfOk r Q → IfOk r S
both_if (Ok x) f p q = f x p q
both_if (Err e) f p q = tt

pub returns-in-Ok-replace-clause-changed : goal.returns-in-Ok-replace-clause-changed
returns-in-Ok-replace-clause-changed g c =
    let es = c.args.maps.now.facts.held.entries in
    let ss = c.args.maps.now.spots.held.entries in
    let name = c.args.name in
    let entry = c.args.entry in
    let known = c.in-Ok.known in
    let old : Rows = rows_of c.args.maps.now in
    let new : Rows = rows_of c.replace.new.maps in
    let kept = c.in-Ok-replace.ensures.kept in
    let is : new.facts.entries ≡ with_entry bytes_cmp name entry es = c.in-Ok-replace.ensures.entries in
    let before = c.in-Ok.ensures.row ∙ row_told old c.requires.kept name (value_at bytes_cmp name es) in
    let after = row_told new kept name (value_at bytes_cmp name new.facts.entries) ∙ ap (λ fs. row_by (value_at bytes_cmp name fs) (leads fs name)) is in
    both_if c.changed_since-changed.result
    (λ list told rising. among_changed es c.requires.kept.ordered name entry list (has known.leaders.keys)
    (is_either new.spots.entries name known.race known.old_race) (not (same_row known.row (row_at new name))) rising told
    (λ i. not (same_row (before i) (after i)))
    (λ q. c.in-Ok.ensures.leaders q
    ∙ (λ i. is_either ss name (c.in-Ok.ensures.race i) (c.in-Ok.ensures.old_race i) q)
    ∙ (λ i. not (bytes_eq q name) && (leads_entry old c.requires.kept q entry i || leads_if old c.requires.kept q (value_at bytes_cmp name es) i)))
    (λ q. (λ i. is_either new.spots.entries name (c.in-Ok.ensures.race i) (c.in-Ok.ensures.old_race i) q)
    ∙ (λ i. not (bytes_eq q name) && (leads_entry new kept q entry i || leads_if new kept q (value_at bytes_cmp name es) i))
    ∙ ap (λ fs. not (bytes_eq q name) && (leads fs q (race_in entry) || leads fs q (race_at es name))) is))
    c.changed_since-changed.ensures.names c.changed_since-changed.ensures.rising
