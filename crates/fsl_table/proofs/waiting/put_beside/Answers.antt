use Rattle.std.proofs.Common.{◌≡◌, ◌+◌, ◌≤◌, ◌∷◌, length, sym, ap, ◌∙◌, arith}
use Rattle.std.specs.Vec.{vec_capacity}
use Rattle.fsl_table.proofs.Keeping.{fits_after, kept-insert}
use Rattle.fsl_table.proofs.Putting.{put-treed, put-waits, kept-waits, put-refused}
use Rattle.fsl_table.proofs.waiting.put_beside.Goals as goal

pub returns-then-not-has_room-clause-put : goal.returns-then-not-has_room-clause-put
returns-then-not-has_room-clause-put g c =
    let t = c.if-not-has_room.true in
    put-refused g.met.K.Ord.total c.args.key c.args.value c.args.waiting.now.items c.has_room.new.waiting.items c.args.tree.now.entries _ _ c.requires.absent (c.has_room.ensures.absent t) c.has_room.ensures.items (c.has_room.ensures.unchanged t) (let f = c.has_room.ensures.full t in omega (arith, f))

pub returns-in-Ok-clause-kept : goal.returns-in-Ok-clause-kept
returns-in-Ok-clause-kept g c =
    let e = c.has_room.ensures.len in
    let fits : length c.insert.new.self.entries + length c.args.waiting.now.items ≤ vec_capacity c.has_room.new.waiting =
    fits_after c.in-Ok.before (length c.args.tree.now.entries) (length c.insert.new.self.entries) (length c.args.waiting.now.items) (vec_capacity c.has_room.new.waiting) c.in-Ok.ensures.len
    (λ n. let r = c.has_room.ensures.room c.if-not-has_room.false (sym c.in-Ok.ensures.old ∙ n) in omega (arith, r, e))
    (omega (arith, c.has_room.ensures.grows, c.requires.kept.fits))
    in
    rw c.has_room.ensures.items (kept-insert g.met.K.Ord.total c.args.key c.args.value c.args.waiting.now.items c.args.tree.now.entries c.insert.new.self.entries _ _ c.requires.absent c.in-Ok.ensures.entries fits c.requires.kept)

pub returns-in-Ok-clause-put : goal.returns-in-Ok-clause-put
returns-in-Ok-clause-put g c =
    rw c.has_room.ensures.items
    (put-treed g.met.K.Ord.total c.args.key c.args.value c.in-Ok.before c.args.waiting.now.items c.args.tree.now.entries c.insert.new.self.entries _ _ c.requires.absent c.in-Ok.ensures.entries c.in-Ok.ensures.old c.in-Ok.ensures.len c.has_room.ensures.grows c.has_room.ensures.same_room)

pub wait-requires : goal.wait-requires
wait-requires g c =
    let r = c.has_room.ensures.room c.if-not-has_room.false c.in-Err.ensures.absent in
    omega (arith, r)

pub returns-in-Err-clause-kept : goal.returns-in-Err-clause-kept
returns-in-Err-clause-kept g c =
    let r = c.has_room.ensures.room c.if-not-has_room.false c.in-Err.ensures.absent in
    let items : c.wait.new.waiting.items ≡ (c.args.key, c.args.value) ∷ c.args.waiting.now.items =
    c.wait.ensures.items ∙ ap (λ x. x ∷ c.has_room.new.waiting.items) c.in-Err.ensures.value_returned ∙ ap (λ l. (c.args.key, c.args.value) ∷ l) c.has_room.ensures.items
    in
    kept-waits g.met.K.Ord.total c.args.key c.args.value c.args.waiting.now.items c.wait.new.waiting.items c.args.tree.now.entries c.insert.new.self.entries _ _ c.requires.absent c.in-Err.ensures.absent c.in-Err.ensures.err items
    (omega (arith, r, c.has_room.ensures.len, c.wait.ensures.grows)) c.requires.kept

pub returns-in-Err-clause-put : goal.returns-in-Err-clause-put
returns-in-Err-clause-put g c =
    let items : c.wait.new.waiting.items ≡ (c.args.key, c.args.value) ∷ c.args.waiting.now.items =
    c.wait.ensures.items ∙ ap (λ x. x ∷ c.has_room.new.waiting.items) c.in-Err.ensures.value_returned ∙ ap (λ l. (c.args.key, c.args.value) ∷ l) c.has_room.ensures.items
    in
    put-waits g.met.K.Ord.total c.args.key c.args.value c.args.waiting.now.items c.wait.new.waiting.items c.args.tree.now.entries c.insert.new.self.entries _ _ c.wait.result c.requires.absent c.in-Err.ensures.absent c.in-Err.ensures.err items c.wait.ensures.done
    (omega (arith, c.has_room.ensures.grows, c.wait.ensures.grows))
