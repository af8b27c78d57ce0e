use Rattle.std.proofs.Common.{◌≡◌, List, ℕ, map, ap, ◌∙◌, rules}
use Rattle.std.specs.Prelude.{filter_map}
use Rattle.std.specs.Map.Iter.{deref_pair}
use Rattle.std.proofs.lemmas.Map.Iter.{iter_end}
use Rattle.fsl_query.specs.declared.Note.{Note}
use Rattle.fsl_query.specs.Summary.{post_in}
use Rattle.fsl_query.proofs.NoteLemmas.{one_noted, none_noted, post_is, post_not}
use Rattle.fsl_query.proofs.noting.posts.Goals as goal

pub loop-name-preserved-in-Continue-1 : goal.loop-name-preserved-in-Continue-1
loop-name-preserved-in-Continue-1 c =
    c.in_ok-push.ensures.items
    ∙ one_noted post_in deref_pair c.loop-name.yielded (c.in-Some.name, c.in-Some.note) c.in-Some.name.now c.loop-name.names.items c.loop-name.invariant
    (post_is c.in-Some.name.now c.in-Some.note.now c.in-Post.is)

pub loop-name-preserved : goal.loop-name-preserved
loop-name-preserved c =
    none_noted post_in deref_pair c.loop-name.yielded (c.in-Some.name, c.in-Some.note) c.loop-name.names.items c.loop-name.invariant (post_not c.in-Some.name.now c.in-Some.note.now c.in_default.not-Post)

pub returns : goal.returns
returns c =
    let all : map deref_pair c.loop-name.yielded ≡ c.args.notes.now.entries = search (rules, iter_end) in
    c.loop-name.invariant ∙ ap (λ (es : List (List ℕ × Note)). filter_map post_in es) all
