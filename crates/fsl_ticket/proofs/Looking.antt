-- A value taken out of a map, and put in again in another form.
use Rattle.std.proofs.Common.{◌≡◌, ℕ, Bool, true, false, cond, List, Some, None, refl, sym, ap, ◌∙◌}
use Rattle.std.specs.BTreeMap.{is_at}
use Rattle.std.specs.Str.{bytes_eq}
use Rattle.std.specs.Cmp.Lexicographic.{texts_ties, bytes_decides}
use Rattle.fsl_order.specs.Names.{bytes_cmp}
use Rattle.fsl_ticket.specs.Seen.{look}

abbrev pub Entries : Type 0 → Type 0
Entries X = List (List ℕ × X)

module _ {X : Type 0} where
  -- the value of the key is x, which is f of the key, and no other changes
  pub changed_at : (old mid new : Entries X) (key : List ℕ) (x : X) (f : List ℕ → X)
      → ((q : List ℕ) → look q mid ≡ cond (is_at (bytes_cmp key) q) None (look q old))
      → ((q : List ℕ) → look q new ≡ cond (is_at (bytes_cmp key) q) (Some x) (look q mid))
      → x ≡ f key
      → (q : List ℕ) → look q new ≡ cond (bytes_eq key q) (Some (f q)) (look q old)
  changed_at old mid new key x f taken put is q =
      elim (bytes_eq key q) as (λ b. bytes_eq key q ≡ b → look q new ≡ cond b (Some (f q)) (look q old)) [
        | true ↦ λ e. put q ∙ ap (λ b. cond b (Some x) (look q mid)) (at e) ∙ ap Some (is ∙ ap f ((bytes_decides key q).0 e))
        | false ↦ λ e. put q ∙ ap (λ b. cond b (Some x) (look q mid)) (at e) ∙ taken q ∙ ap (λ b. cond b None (look q old)) (at e)
      ] refl
    where
      at : {b : Bool} → bytes_eq key q ≡ b → is_at (bytes_cmp key) q ≡ b
      at e = sym (texts_ties key q) ∙ e

  -- what is taken out is there no more
  pub taken_out : (old mid : Entries X) (key : List ℕ) → ((q : List ℕ) → look q mid ≡ cond (is_at (bytes_cmp key) q) None (look q old)) → look key mid ≡ None
  taken_out old mid key taken = taken key ∙ ap (λ b. cond b None (look key old)) (sym (texts_ties key key) ∙ (bytes_decides key key).1 refl)
