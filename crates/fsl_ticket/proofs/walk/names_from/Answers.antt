use Rattle.std.proofs.Common.{◌≡◌, ◌∙◌, ◌++◌, ◌∷◌, [], if◌then◌else◌, sym, ap}
use Rattle.std.specs.Option.{option_map}
use Rattle.std.proofs.lemmas.List.{append_assoc, append-nil}
use Rattle.fsl_order.specs.Names.{bytes_cmp}
use Rattle.fsl_table.specs.Contents.{value_at, entries_after}
use Rattle.fsl_table.specs.Within.{within}
use Rattle.fsl_table.proofs.Walk.{from}
use Rattle.fsl_ticket.specs.Newest.{newest_cmp}
use Rattle.fsl_ticket.specs.Walked.{ends_at, names_until}
use Rattle.fsl_ticket.proofs.Going.{until_if, shorter}
use Rattle.fsl_ticket.proofs.walk.names_from.Goals as goal

at_place : (g : _) → (c : goal.After-next_in_walk-next g) → from newest_cmp (option_map (λ b. (b, tt)) c.loop-next.next) (within bytes_cmp c.args.id c.args.spots.now.held.entries) ≡ (c.in-Some.place, tt) ∷ entries_after newest_cmp c.in-Some.place (within bytes_cmp c.args.id c.args.spots.now.held.entries)
at_place g c = ap (λ n. from newest_cmp (option_map (λ b. (b, tt)) n) (within bytes_cmp c.args.id c.args.spots.now.held.entries)) c.in-Some.is

pub loop-next-smaller : goal.loop-next-smaller
loop-next-smaller g c =
    let ws = within bytes_cmp c.args.id c.args.spots.now.held.entries in
    shorter (ends_at (value_at bytes_cmp c.in-Some.place.1 c.args.facts.now.held.entries) c.args.field.now) (from newest_cmp (option_map (λ b. (b, tt)) c.next_in_walk-next.result) ws) (from newest_cmp (option_map (λ b. (b, tt)) c.loop-next.next) ws)
    (c.in-Some.place, tt) (entries_after newest_cmp c.in-Some.place ws) c.next_in_walk-next.ensures (at_place g c)

pub loop-next-preserved : goal.loop-next-preserved
loop-next-preserved g c =
    let es = c.args.facts.now.held.entries in
    let field = c.args.field.now in
    let p = c.in-Some.place in
    let rest = entries_after newest_cmp p (within bytes_cmp c.args.id c.args.spots.now.held.entries) in
    let ends = ends_at (value_at bytes_cmp p.1 es) field in
    (λ i. (c.in_ok-append.ensures.ok ∙ ap (λ n. c.loop-next.names ++ n ∷ []) c.name.ensures) i ++ (ap (names_until es field) c.next_in_walk-next.ensures ∙ until_if es field ends rest) i)
    ∙ append_assoc c.loop-next.names (p.1 ∷ []) (if ends then [] else names_until es field rest)
    ∙ ap (λ l. c.loop-next.names ++ names_until es field l) (sym (at_place g c))
    ∙ c.loop-next.invariant

pub returns : goal.returns
returns g c =
    let ws = within bytes_cmp c.args.id c.args.spots.now.held.entries in
    sym (append-nil c.loop-next.names)
    ∙ ap (λ n. c.loop-next.names ++ names_until c.args.facts.now.held.entries c.args.field.now (from newest_cmp (option_map (λ b. (b, tt)) n) ws)) (sym c.in_default.is)
    ∙ c.loop-next.invariant
