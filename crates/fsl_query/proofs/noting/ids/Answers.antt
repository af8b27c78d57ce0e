use Rattle.std.proofs.Common.{◌≡◌, List, ℕ, map, ap, ◌∙◌, rules}
use Rattle.std.specs.Prelude.{filter_map}
use Rattle.std.specs.Map.Iter.{deref_pair}
use Rattle.std.proofs.lemmas.Map.Iter.{iter_end}
use Rattle.fsl_query.specs.declared.Note.{Note}
use Rattle.fsl_query.specs.Summary.{id_in}
use Rattle.fsl_query.proofs.NoteLemmas.{one_noted, none_noted, id_is, id_not}
use Rattle.fsl_query.proofs.noting.ids.Goals as goal

pub loop-note-preserved-in-Continue-1 : goal.loop-note-preserved-in-Continue-1
loop-note-preserved-in-Continue-1 c =
    c.in_ok-push.ensures.items
    ∙ one_noted id_in deref_pair c.loop-note.yielded (c.in-Some.field-0-0, c.in-Some.note) c.in-Ticket.id c.loop-note.ids.items c.loop-note.invariant
    (id_is c.in-Some.field-0-0.now c.in-Ticket.id c.in-Some.note.now c.in-Ticket.is)

pub loop-note-preserved : goal.loop-note-preserved
loop-note-preserved c =
    none_noted id_in deref_pair c.loop-note.yielded (c.in-Some.field-0-0, c.in-Some.note) c.loop-note.ids.items c.loop-note.invariant (id_not c.in-Some.field-0-0.now c.in-Some.note.now c.in_default.not-Ticket)

pub returns : goal.returns
returns c =
    let all : map deref_pair c.loop-note.yielded ≡ c.args.notes.now.entries = search (rules, iter_end) in
    c.loop-note.invariant ∙ ap (λ (es : List (List ℕ × Note)). filter_map id_in es) all
