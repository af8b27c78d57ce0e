-- Shunned names aren't held.
use Rattle.std.proofs.Common.{◌≡◌, ℕ, Bool, true, false, cond, not, List, [], ◌∷◌, Option, Some, None, refl, sym, ap, ◌∙◌, subst}
use Rattle.std.specs.Prelude.{◌&&◌, ◌||◌, is_some, fold}
use Rattle.std.specs.Option.{option_map}
use Rattle.std.specs.FinMap as map_of
use Rattle.std.specs.FinSet as set
use Rattle.std.specs.FinSet.{FinSet}
use Rattle.std.proofs.lemmas.Bool.{and_parts}
use Rattle.fsl_order.specs.Names.{bytes_cmp}
use Rattle.fsl_record.specs.Receipts.{Brought}
use Rattle.fsl_record.specs.declared.Record.{Record}
use Rattle.fsl_record.specs.declared.Record.TheVariants as record_of
use Rattle.fsl_blobs.specs.Fold.{Held, Contents, nothing, after, is_new}
use Rattle.fsl_blobs.specs.Kept.{is_same}
use Rattle.fsl_blobs.specs.Laws.{ShunnedAreNotHeld}
use Rattle.fsl_blobs.proofs.KeptLemmas.{is_same-means, shown, blob-get, blob-shunned, publish-get, publish-shunned, shun-get, shun-shunned, unshun-shunned}

abbrev IsApart : Contents → Type 0
IsApart c = (name : List ℕ) → set.contains c.shunned name ≡ true → map_of.get c.held name ≡ None

out_of : (o : Option Held) (s : Bool) → not (is_some o || s) ≡ true → s ≡ true → ⊥
out_of None true e h = cc
out_of None false e h = cc
out_of (Some a) true e h = cc
out_of (Some a) false e h = cc

apart-after : (c : Contents) (r : Record) → IsApart c → IsApart (after c r)
apart-after c (record_of.Config config) h = h
apart-after c (record_of.Blob private name receipt bytes) h = λ q out.
    let was : set.contains c.shunned q ≡ true = sym (ap (λ (s : FinSet bytes_cmp). set.contains s q) (blob-shunned c name private receipt bytes)) ∙ out in
    let a : Held = record { private = private; bytes = bytes } in
    blob-get c name private receipt bytes q
    ∙ elim (is_same name q && is_new c name) as (λ b. (is_same name q && is_new c name) ≡ b → cond b (Some (record { private = private; bytes = bytes })) (map_of.get c.held q) ≡ None) [
      | true ↦ λ e.
          let parts = and_parts (is_same name q) (is_new c name) e in
          let new : is_new c q ≡ true = subst (λ (x : List ℕ). is_new c x ≡ true) (is_same-means name q parts.0) parts.1 in
          absurd (out_of (map_of.get c.held q) (set.contains c.shunned q) new was)
      | false ↦ λ _. h q was
    ] refl
apart-after c (record_of.Publish name) h = λ q out.
    let was : set.contains c.shunned q ≡ true = sym (ap (λ (s : FinSet bytes_cmp). set.contains s q) (publish-shunned c name)) ∙ out in
    publish-get c name q ∙ ap (option_map (shown name q)) (h q was)
apart-after c (record_of.Shun name) h = λ q out.
    shun-get c name q
    ∙ elim (is_same name q) as (λ b. is_same name q ≡ b → cond b None (map_of.get c.held q) ≡ None) [
      | true ↦ λ _. refl
      | false ↦ λ e. h q (sym (shun-shunned c name q ∙ ap (λ (b : Bool). b || set.contains c.shunned q) e) ∙ out)
    ] refl
apart-after c (record_of.Unshun name) h = λ q out. h q (and_parts (not (is_same name q)) (set.contains c.shunned q) (sym (unshun-shunned c name q) ∙ out)).1

apart-fold : (records : List Record) (c : Contents) → IsApart c → IsApart (fold after c records)
apart-fold [] c h = h
apart-fold (r ∷ records) c h = apart-fold records (after c r) (apart-after c r h)

pub shunned_are_not_held : ShunnedAreNotHeld
shunned_are_not_held records = apart-fold records nothing (λ q _. map_of.get-empty bytes_cmp q)
