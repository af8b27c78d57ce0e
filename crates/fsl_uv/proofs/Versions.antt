-- Versions have a total order, in which those that tie are the same.
use Rattle.std.specs.Prelude.{◌≡◌, ℕ, List, [], ◌∷◌, Option, Some, None}
use Rattle.std.proofs.Common.{refl, sym, ap}
use Rattle.std.specs.declared.cmp.Ordering.{Ordering}
use Rattle.std.specs.declared.cmp.Ordering.TheVariants.{Less, Equal, Greater}
use Rattle.std.specs.Ordering.{nat_cmp, ordering_then}
use Rattle.std.specs.Cmp.{IsTotalOrder, then_total, on_total, nat_cmp_total}
use Rattle.std.specs.Cmp.Lexicographic.{nat_list_cmp_total}
use Rattle.std.specs.FinMap.{nat_cmp-IsAntisymmetric}
use Rattle.hex.specs.Hex.{encode_lower, encode_with}
use Rattle.fsl_order.specs.Names.{bytes_cmp}
use Rattle.fsl_order.proofs.Orders.{bytes_cmp-IsAntisymmetric}
use Rattle.fsl_name.specs.Name.{name_of}
use Rattle.fsl_uv.specs.Entries.{Version, hash_text, content}
use Rattle.fsl_uv.specs.Maps.{stamp_cmp, version_cmp}
use Rattle.fsl_uv.specs.Laws.{TiesAreSame}

pub stamp_cmp-IsTotalOrder : IsTotalOrder stamp_cmp
stamp_cmp-IsTotalOrder = then_total (on_total (λ v. v.moment) nat_cmp_total) (on_total (λ v. hash_text v.bytes) nat_list_cmp_total)

pub version_cmp-IsTotalOrder : IsTotalOrder version_cmp
version_cmp-IsTotalOrder = then_total stamp_cmp-IsTotalOrder (on_total (λ v. content v.bytes) nat_list_cmp_total)

-- ---- ties

pub both_equal : (a b : Ordering) → ordering_then a b ≡ Equal → (a ≡ Equal) × (b ≡ Equal)
both_equal Less b h = absurd cc
both_equal Equal b h = (refl, h)
both_equal Greater b h = absurd cc

-- digits stand in pairs
no_lone_digit : (name : List ℕ) (c : ℕ) → encode_lower name ≡ c ∷ [] → ⊥
unfolding encode_with
no_lone_digit [] c h = cc
no_lone_digit (b ∷ name) c h = cc

same_bytes : (a b : Option (List ℕ)) → hash_text a ≡ hash_text b → content a ≡ content b → a ≡ b
same_bytes None None h c = refl
same_bytes None (Some y) h c = absurd (no_lone_digit (name_of y) 45 (sym h))
same_bytes (Some x) None h c = absurd (no_lone_digit (name_of x) 45 h)
same_bytes (Some x) (Some y) h c = ap Some c

same_version : (a b : Version) → a.moment ≡ b.moment → a.bytes ≡ b.bytes → a ≡ b
same_version a b m c = λ i. record { moment = m i; bytes = c i }

pub ties_are_same : TiesAreSame
ties_are_same a b h =
    let parts = both_equal (stamp_cmp a b) (bytes_cmp (content a.bytes) (content b.bytes)) h in
    let stamps = both_equal (nat_cmp a.moment b.moment) (bytes_cmp (hash_text a.bytes) (hash_text b.bytes)) parts.0 in
    same_version a b (nat_cmp-IsAntisymmetric a.moment b.moment stamps.0)
    (same_bytes a.bytes b.bytes (bytes_cmp-IsAntisymmetric (hash_text a.bytes) (hash_text b.bytes) stamps.1) (bytes_cmp-IsAntisymmetric (content a.bytes) (content b.bytes) parts.1))
