use Rattle.std.proofs.Common.{ℕ, List, Option, Some, None, ap, sym, ◌∙◌}
use Rattle.std.specs.Map.{keys_of}
use Rattle.fsl_table.specs.Contents.{first_of}
use Rattle.fsl_table.specs.Pairs.{rest_after}
use Rattle.fsl_table.proofs.Seconds.{first_key, next_key}
use Rattle.fsl_table.proofs.keys.name_after.Goals as goal

pub returns-in-None-first : goal.returns-in-None-first
returns-in-None-first g c =
    let none : Option (List ℕ × Unit {0}) = None in
    first_key c.args.table.now.entries none c.in-None-first.ensures.entry ∙ ap (λ a. first_of (rest_after a (keys_of c.args.table.now.entries))) (sym c.in-None.is)

pub returns-in-Some-first : goal.returns-in-Some-first
returns-in-Some-first g c =
    let some : Option (List ℕ × Unit {0}) = Some (c.in-Some-first.name.now, tt) in
    first_key c.args.table.now.entries some c.in-Some-first.ensures.entry ∙ ap (λ a. first_of (rest_after a (keys_of c.args.table.now.entries))) (sym c.in-None.is)

pub returns-in-None-next_after : goal.returns-in-None-next_after
returns-in-None-next_after g c =
    let none : Option (List ℕ × Unit {0}) = None in
    next_key c.in-Some.name c.args.table.now.entries none c.in-None-next_after.ensures.entry ∙ ap (λ a. first_of (rest_after a (keys_of c.args.table.now.entries))) (sym c.in-Some.is)

pub returns-in-Some-next_after : goal.returns-in-Some-next_after
returns-in-Some-next_after g c =
    let some : Option (List ℕ × Unit {0}) = Some (c.in-Some-next_after.next.now, tt) in
    next_key c.in-Some.name c.args.table.now.entries some c.in-Some-next_after.ensures.entry ∙ ap (λ a. first_of (rest_after a (keys_of c.args.table.now.entries))) (sym c.in-Some.is)
