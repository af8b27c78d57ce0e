use Rattle.std.proofs.Common.{rules, ◌≡◌, ℕ, List, ◌∷◌, [], ◌++◌, length, ap, ◌∙◌}
use Rattle.std.specs.Prelude.{codes, replicate}
use Rattle.fsl_name.specs.Name.{name_text}
use Rattle.fossil.proofs.DamagedLine.{line_is}
use Rattle.fossil.proofs.answers.due.damaged_line.Goals as goal

pub returns : goal.returns
returns c =
    let t = c.copy_from_slice-2.new.self in
    let u = c.copy_from_slice-3.new.self in
    let one : t ≡ name_text c.args.name = search rules in
    let two : u ≡ name_text c.args.found = search rules in
    let t_long : length t ≡ 40 = search rules in
    let u_long : length u ≡ 40 = search rules in
    line_is _ t u t_long u_long (ap (λ (ys : List ℕ). ys ++ replicate 82 32) c.copy_from_slice.ensures.after)
    ∙ (λ i. codes "damaged " ++ one i ++ 32 ∷ two i ++ 10 ∷ [])
