-- How the versions of paths are kept.
use Rattle.std.specs.Prelude.{◌≡◌, ◌<◌, ◌^◌, ℕ, true, false, List, length, is_some, cond}
use Rattle.std.specs.Option.{option_map_or}
use Rattle.fsl_order.specs.Maps.{value_at}
use Rattle.fsl_uv.specs.Entries.{Version, content}
use Rattle.fsl_uv.specs.Maps.{total, is_over}
use Rattle.fsl_uv.specs.Syncing.{is_kept, with_entry}
use Rattle.fsl_uv.specs.declared.Entry.{Entry}
use Rattle.fsl_uv.specs.declared.held.Place.{Place}
use Rattle.fsl_uv.specs.declared.held.Place.TheVariants as place_is
use Rattle.fsl_uv.specs.Laws.{Rises}

-- the bytes of the content of a path, 0 where the path isn't there
abbrev pub size_at : List (List ℕ × Version) → List ℕ → ℕ
size_at m path = option_map_or (λ v. length (content v.bytes)) (value_at m path) 0

-- one where a path isn't there
abbrev pub new_paths : List (List ℕ × Version) → List ℕ → ℕ
new_paths m path = cond (is_some (value_at m path)) 0 1

-- the paths rise, and the sum is right
pub record IsHeld (m : List (List ℕ × Version)) (bytes : ℕ) : Type 0 where
  pub rises : Rises m
  pub sum : bytes ≡ total m
  pub small : bytes < 2 ^ 63

-- where an entry goes: nowhere where it is kept, nor where the map with it is above a limit
abbrev pub IsPlace : List (List ℕ × Version) → Entry → Place → Type 0
IsPlace m e place_is.Kept = is_kept m e ≡ true
IsPlace m e (place_is.Over bytes count) =
    (is_kept m e ≡ false) × (is_over (with_entry m e) ≡ true) × (bytes ≡ total (with_entry m e)) × (count ≡ length (with_entry m e))
IsPlace m e place_is.Free = (is_kept m e ≡ false) × (is_over (with_entry m e) ≡ false)
