-- What a put makes of the parts of a table, and so of the whole.
use Rattle.std.proofs.Common.{◌≡◌, ℕ, ◌+◌, ◌-◌, ◌<◌, ◌≤◌, true, List, ◌∷◌, length, get_or, set, refl, sym, ap, subst, ◌∙◌, arith, length-set, if◌then◌else◌, is_some, Option, Result, Some, None, Ok, Err}
use Rattle.std.specs.declared.cmp.Ordering.{Ordering}
use Rattle.std.specs.Cmp.{IsTotalOrder}
use Rattle.std.specs.Map.{lookup}
use Rattle.std.specs.BTreeMap.{is_at, insert_entry}
use Rattle.fsl_table.specs.Contents.{Contents}
use Rattle.fsl_table.specs.Weave.{weave, place}
use Rattle.fsl_table.specs.Kept.{IsKept}
use Rattle.fsl_table.specs.Put.{IsPut, seen}
use Rattle.fsl_table.proofs.Keeping.{weave-set_place, weave-insert, kept-wait}
use Rattle.fsl_table.proofs.Weaving.{lookup-waiting, lookup-tree}

module _ {K X : Type 0} {R : K → K → Ordering} (o : IsTotalOrder R) where
  -- in the place of a value that waits
  pub put-replaced : (k : K) (v b : X) (w u t : List (K × X)) (room more i : ℕ) (d : K × X) → place (is_at (R k)) w ≡ Some i → u ≡ set w i ((get_or w i d).0, v) → b ≡ (get_or w i d).1 → more ≡ room
      → IsPut R k v (seen R room w t) (seen R more u t) (Ok (Some b))
  put-replaced k v b w u t room more i d p e is r =
      let same : length u ≡ length w = ap length e ∙ length-set w i ((get_or w i d).0, v) in
      record {
        before = ap (λ x. Some x) is ∙ sym (lookup-waiting o k w t i d p);
        ok = weave-set_place o k v w u t i d p e;
        spare_of_new = tt;
        spare_of_old = ap (λ n. more - (length t + n)) same ∙ ap (λ n. n - (length t + length w)) r;
        back = tt;
        unchanged = tt;
        none_spare = tt;
        absent = tt;
      }

  -- into the tree
  pub put-treed : (k : K) (v : X) (before : Option X) (w t s : List (K × X)) (room more : ℕ) → place (is_at (R k)) w ≡ None → s ≡ insert_entry R t k v → before ≡ lookup (is_at (R k)) t
      → length s ≡ length t + (if is_some before then 0 else 1) → room ≤ more → (is_some (lookup (is_at (R k)) t) ≡ true → more ≡ room)
      → IsPut R k v (seen R room w t) (seen R more w s) (Ok before)
  put-treed k v None w t s room more p e is longer grows same = record {
    before = is ∙ sym (lookup-tree o k w t p);
    ok = weave-insert o k v w t s p e;
    spare_of_new = omega (arith, longer, grows);
    spare_of_old = tt;
    back = tt;
    unchanged = tt;
    none_spare = tt;
    absent = tt;
  }
  put-treed k v (Some b) w t s room more p e is longer grows same =
      let r : more ≡ room = same (ap (λ q. is_some q) (sym is)) in
      record {
        before = is ∙ sym (lookup-tree o k w t p);
        ok = weave-insert o k v w t s p e;
        spare_of_new = tt;
        spare_of_old = omega (arith, longer, r);
        back = tt;
        unchanged = tt;
        none_spare = tt;
        absent = tt;
      }

  -- before what waits
  pub put-waits : (k : K) (v : X) (w u t s : List (K × X)) (room more : ℕ) (r : Result (Option X) (K × X)) → place (is_at (R k)) w ≡ None → lookup (is_at (R k)) t ≡ None → s ≡ t → u ≡ (k, v) ∷ w → r ≡ Ok None
      → room ≤ more → IsPut R k v (seen R room w t) (seen R more u s) r
  put-waits k v w u t s room more r p absent same more_wait done grows = rw (done, same, more_wait) (record {
    before = sym (lookup-tree o k w t p ∙ absent);
    ok = refl;
    spare_of_new = omega (arith, grows);
    spare_of_old = tt;
    back = tt;
    unchanged = tt;
    none_spare = tt;
    absent = tt;
  })

  pub kept-waits : (k : K) (v : X) (w u t s : List (K × X)) (room more : ℕ) → place (is_at (R k)) w ≡ None → lookup (is_at (R k)) t ≡ None → s ≡ t → u ≡ (k, v) ∷ w → length t + length w < more → IsKept R room w t → IsKept R more u s
  kept-waits k v w u t s room more p absent same more_wait fits kept = rw (same, more_wait) (kept-wait o (k, v) w t room more (lookup-tree o k w t p ∙ absent) fits kept)

  -- nowhere
  pub put-refused : (k : K) (v : X) (w u t : List (K × X)) (room more : ℕ) → place (is_at (R k)) w ≡ None → lookup (is_at (R k)) t ≡ None → u ≡ w → more ≡ room → room ≡ length t + length w
      → IsPut R k v (seen R room w t) (seen R more u t) (Err (k, v))
  put-refused k v w u t room more p absent same r full = rw (same, r) (record {
    before = tt;
    ok = tt;
    spare_of_new = tt;
    spare_of_old = tt;
    back = refl;
    unchanged = refl;
    none_spare = omega (arith, full);
    absent = lookup-tree o k w t p ∙ absent;
  })

-- the same of another that is seen alike
pub put-from : {K X : Type 0} {R : K → K → Ordering} {k : K} {v : X} {r : Result (Option X) (K × X)} {new : Contents K X} (w u t s : List (K × X)) (room more : ℕ) (old : Contents K X)
    → seen R room w t ≡ old → weave R u s ≡ weave R w t → length s + length u ≡ length t + length w → more ≡ room → IsPut R k v (seen R more u s) new r → IsPut R k v old new r
put-from {R = R} {k = k} {v = v} {r = r} {new = new} w u t s room more old is entries len same p =
    let spare : more - (length s + length u) ≡ room - (length t + length w) = omega (arith, len, same) in
    let alike : seen R more u s ≡ seen R room w t = rw (entries, spare) refl in
    subst (λ c. IsPut R k v c new r) (alike ∙ is) p
