-- What a crash of a disk in memory leaves, behind a fuse.
use Rattle.std.specs.Prelude.{◌≡◌, ℕ, List, [], Some}
use Rattle.std.proofs.Common.{refl, sym, ap, subst, ◌∙◌}
use Rattle.fsl_disk.specs.Change.{Leaves}
use Rattle.fsl_disk.specs.Fuse.{Fused}
use Rattle.fsl_disk.specs.Memory.{InMemory, held, memory_state, memory_counts, reads_left}
use Rattle.tests_laws.specs.Crashes.{IsCrashOf, IsImageOf, IsKeptOf, state_of}

-- a disk with one of the images, all of it stable
pub image_left : (ended left : Fused InMemory) (inner image : InMemory) (calls : ℕ) → inner ≡ ended.disk
    → image ≡ record { first = held image; past = []; fails = []; made = 0; faults = 0 } → (memory_state inner).images (held image)
    → left ≡ record { disk = image; calls = calls; blown = 0 } → IsImageOf (state_of ended) (state_of left)
image_left ended left inner image calls same fresh among new = record {
  modelled = λ model. record { tells = refl; model = refl };
  image = λ t. (
    held image,
    memory_counts ended.disk.first ended.disk.past t (held image) (subst (λ (d : InMemory). Leaves d.first d.past (held image)) same among),
    λ c found. subst (λ (d : InMemory). Leaves d.first d.past c) (ap (λ (f : Fused InMemory). f.disk) new ∙ fresh) found,
  );
}

-- a crash of it leaves nothing but what one of the first might have left
pub crashed : (ended left : Fused InMemory) (inner image : InMemory) (calls : ℕ) → inner ≡ ended.disk
    → image ≡ record { first = held image; past = []; fails = []; made = 0; faults = 0 } → (memory_state inner).images (held image)
    → left ≡ record { disk = image; calls = calls; blown = 0 } → IsCrashOf (state_of ended) (state_of left)
crashed ended left inner image calls same fresh among new =
    let one = image_left ended left inner image calls same fresh among new in
    record {
      modelled = one.modelled;
      images = λ t c found. subst (λ b. (state_of ended).since t b) (sym ((one.image t).2 c found)) (one.image t).1;
    }

-- the same disk
pub let_be : (ended left : Fused InMemory) (inner : InMemory) (calls : ℕ) → inner ≡ ended.disk → left ≡ record { disk = inner; calls = calls; blown = 0 }
    → IsCrashOf (state_of ended) (state_of left)
let_be ended left inner calls same new = record {
  modelled = λ model. record { tells = refl; model = refl };
  images = λ t c found.
      memory_counts ended.disk.first ended.disk.past t c
      (subst (λ (d : InMemory). Leaves d.first d.past c) (ap (λ (f : Fused InMemory). f.disk) new ∙ same) found);
}

-- it reads as one of the contents
pub kept : (ended left : Fused InMemory) (inner : InMemory) (calls : ℕ) → inner ≡ ended.disk → left ≡ record { disk = inner; calls = calls; blown = 0 }
    → IsKeptOf (state_of ended) (state_of left)
kept ended left inner calls same new =
    let stays = let_be ended left inner calls same new in
    record {
      modelled = stays.modelled;
      kept = λ t. (
        held ended.disk,
        memory_counts ended.disk.first ended.disk.past t (held ended.disk) (reads_left ended.disk.first ended.disk.past),
        ap (λ (d : InMemory). Some (held d)) (ap (λ (f : Fused InMemory). f.disk) new ∙ same),
        stays.images t,
      );
    }
