use mathlib.Core.Bool.{true≢false}
use Rattle.std.proofs.Common.{◌≡◌, ℕ, ◌+◌, ◌-◌, ◌<◌, refl, arith, btree_map_len}
use Rattle.std.specs.Prelude.{vec_capacity, vec_len}
use Rattle.fsl_table.proofs.waiting.has_room.Goals as goal

below : (tree waiting room entries free all : ℕ) → entries ≡ tree → all ≡ room → free ≡ waiting → entries < all - free → tree + waiting < room
below tree waiting room entries free all t r w h = omega (arith, t, r, w, h)

pub returns-then-len-capacity : goal.returns-then-len-capacity
returns-then-len-capacity g c =
    let room : btree_map_len c.args.tree.now + vec_len c.args.waiting.now < vec_capacity c.args.waiting.now =
    below (btree_map_len c.args.tree.now) (vec_len c.args.waiting.now) (vec_capacity c.args.waiting.now) c.len.result c.len-2.result c.capacity.result c.len.ensures.len c.capacity.ensures c.len-2.ensures c.if-len-capacity.true in
    record {
      items = refl;
      len = refl;
      grows = omega arith;
      room = λ _ _. room;
      same_room = λ _. refl;
      full = λ e. absurd (true≢false e);
      unchanged = λ e. absurd (true≢false e);
      absent = λ e. absurd (true≢false e);
    }
