use Rattle.std.proofs.Common.{◌≡◌, ◌∙◌, ◌&&◌, ◌||◌, Bool, true, false, not, ap, refl}
use Rattle.std.specs.Str.{bytes_eq}
use Rattle.fsl_order.specs.Names.{has}
use Rattle.fsl_table.proofs.Outcomes.{if_ok_map}
use Rattle.fsl_wiki.specs.Kept.{in_one}
use Rattle.fsl_wiki.proofs.rows.differing.Goals as goal

told : (w b a : Bool) → (w || ((a && not b) || ((b && not a) || false))) ≡ (w || in_one b a)
told true b a = refl
told false true true = refl
told false true false = refl
told false false true = refl
told false false false = refl

pub returns-clause-names : goal.returns-clause-names
returns-clause-names c =
    let before = c.args.before.now.keys in
    let after = c.args.after.now.keys in
    if_ok_map c.listed.result
    (λ list e q.
    ap (λ l. has l q) e
    ∙ c.in_ok-note_differing.ensures q
    ∙ (λ i. (bytes_eq q c.args.name && c.args.wanted) || ((has after q && not (has before q)) || ((has before q && not (has after q)) || has (c.new-names.ensures.empty i) q)))
    ∙ told (bytes_eq q c.args.name && c.args.wanted) (has before q) (has after q))
    c.listed.ensures.names
