use Rattle.std.proofs.Common.{◌∙◌, ◌+◌, length, not, if◌then◌else◌, sym, ap}
use Rattle.fsl_table.proofs.Noting.{has-contains, has_noted}
use Rattle.fsl_forum.proofs.Reaching.{visited-seen, visited-new}
use Rattle.fsl_forum.proofs.reached.visit.Goals as goal

pub returns-then-contains-clause-visited : goal.returns-then-contains-clause-visited
returns-then-contains-clause-visited c =
    visited-seen c.args.name c.args.seen.now.keys c.args.waiting.now.items (has-contains c.args.seen.now.keys c.args.name ∙ sym c.contains.ensures ∙ c.if-contains.true)

pub returns-in-Ok-clause-visited : goal.returns-in-Ok-clause-visited
returns-in-Ok-clause-visited c =
    visited-new c.args.name c.args.seen.now.keys c.args.waiting.now.items c.insert.new.self.keys c.push.new.self.items
    (λ q. has_noted c.args.seen.now.keys c.insert.new.self.keys c.args.name q (c.in-Ok.ensures.updates.0 q))
    c.in_ok-push.ensures.items
    (c.in-Ok.ensures.len ∙ ap (λ b. length c.args.seen.now.keys + (if b then 1 else 0)) (c.in-Ok.ensures.added ∙ ap not (sym c.contains.ensures ∙ c.if-contains.false)))
