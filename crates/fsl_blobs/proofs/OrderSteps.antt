-- What a write does to the names of one kind by their places.
use Rattle.std.proofs.Common.{◌≡◌, ℕ, Bool, true, false, cond, not, List, Option, sym, ap, ◌∙◌}
use Rattle.std.specs.Prelude.{◌&&◌}
use Rattle.std.specs.BTreeMap.{BTreeMap}
use Rattle.fsl_blobs.specs.declared.order.Order.{Order}
use Rattle.fsl_blobs.specs.Kept.{is_kind, is_place, name_at, name_in}

module _ (order : Order) (m : BTreeMap ℕ (List ℕ)) (place : ℕ) (w : Option (List ℕ)) where
  pub private_written : ((n : ℕ) → name_at m.entries n ≡ cond (is_place place n) w (name_at order.private.entries n))
      → (kind b : Bool) (n : ℕ) → kind ≡ true → name_in b (record { public = order.public; private = m }) n ≡ cond (is_kind b kind && is_place place n) w (name_in b order n)
  private_written is kind true n e = is n ∙ ap (λ (k : Bool). cond (k && is_place place n) w (name_at order.private.entries n)) (sym e)
  private_written is kind false n e = ap (λ (k : Bool). cond (not k && is_place place n) w (name_at order.public.entries n)) (sym e)

  pub public_written : ((n : ℕ) → name_at m.entries n ≡ cond (is_place place n) w (name_at order.public.entries n))
      → (kind b : Bool) (n : ℕ) → kind ≡ false → name_in b (record { public = m; private = order.private }) n ≡ cond (is_kind b kind && is_place place n) w (name_in b order n)
  public_written is kind true n e = ap (λ (k : Bool). cond (k && is_place place n) w (name_at order.private.entries n)) (sym e)
  public_written is kind false n e = is n ∙ ap (λ (k : Bool). cond (not k && is_place place n) w (name_at order.public.entries n)) (sym e)
