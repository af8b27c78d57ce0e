use Rattle.std.proofs.Common.{ℕ, List, Ok, ap, sym, subst}
use Rattle.std.specs.Prelude.{Result}
use Rattle.std.specs.Option.{option_map_or}
use Rattle.fsl_blobs.specs.Held.{found}
use Rattle.fsl_name.proofs.NameTexts.{name_of_text, no_name_of_text}
use Rattle.fsl_query.specs.declared.Refused.{Refused}
use Rattle.fsl_query.specs.declared.Refused.TheVariants.{NoThread}
use Rattle.fsl_query.specs.Answers.{IsAnswer}
use Rattle.fsl_query.specs.Listings.{beginning, thread_names}
use Rattle.fsl_query.specs.Reports.{by_beginning}
use Rattle.fsl_query.proofs.listing.thread_name.Goals as goal

pub returns-in-Ok : goal.returns-in-Ok
returns-in-Ok c =
    let p = c.args.prefix.now in
    let other : Result (List ℕ) Refused = by_beginning p (NoThread p) (λ id. Ok id) (found (beginning p (thread_names c.args.table.now.facts))) in
    ap (λ o. option_map_or (λ id. Ok id) o other) (name_of_text p c.in-Ok.name c.in-Ok.ensures.value)

pub returns-in-Err : goal.returns-in-Err
returns-in-Err c =
    let p = c.args.prefix.now in
    let other : Result (List ℕ) Refused = by_beginning p (NoThread p) (λ id. Ok id) (found (beginning p (thread_names c.args.table.now.facts))) in
    subst (λ o. IsAnswer (option_map_or (λ id. Ok id) o other) c.thread_named.result) (sym (no_name_of_text p c.in-Err.field-0 c.in-Err.ensures.value)) c.thread_named.ensures
