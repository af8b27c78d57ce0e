-- What a crash leaves, place by place.
use Rattle.std.proofs.Common.{◌≡◌, ◌⊎◌, inl, inr, ℕ, ◌+◌, ◌-◌, ◌<◌, ◌≤◌, min, max, List, [], ◌∷◌, length, get_or, take, drop, refl, sym, ◌∙◌, ap, subst, arith}
use Rattle.std.proofs.lemmas.Bool.{cases_lt}
use Rattle.std.proofs.lemmas.List.{length-take, length-drop, get_or-take, get_or-drop, ext_get_or}
use Rattle.std.proofs.lemmas.List.FromFn.{length-map-range_with_len, get_or-map-range_with_len}
use Rattle.std.specs.Prelude.{map}
use Rattle.std.specs.List.{range_with_len}
use Rattle.fsl_disk.specs.Disk.{Torn, CutShort}
use Rattle.fsl_disk.specs.Change.{reads, stable, Leaves, AreInside}
use Rattle.fsl_disk.specs.Images.{least, greatest, IsTouched, IsImage, ImagesByPlace}
use Rattle.fsl_disk.specs.Memory.{reads_left}
use Rattle.fsl_disk.specs.declared.change.Change.{Change}
use Rattle.fsl_disk.specs.declared.change.Change.TheVariants.{Write, Cut, Sync}
use Rattle.fsl_disk.proofs.Stopping.{torn_part, cut_part}

-- lists with the same front have the same bytes there, and so at the end
front_byte : (n : ℕ) (a b : List ℕ) (i : ℕ) → take n a ≡ take n b → i < n → get_or a i 0 ≡ get_or b i 0
front_byte n a b i same below = sym (get_or-take n a i 0 below) ∙ ap (λ (l : List ℕ). get_or l i 0) same ∙ get_or-take n b i 0 below

front_length : (n : ℕ) (a b : List ℕ) → take n a ≡ take n b → min n (length a) ≡ min n (length b)
front_length n a b same = sym (length-take n a) ∙ ap length same ∙ length-take n b

end_byte : (n : ℕ) (a b : List ℕ) (i : ℕ) → drop n a ≡ drop n b → n ≤ i → get_or a i 0 ≡ get_or b i 0
end_byte n a b i same above =
    let place : n + (i - n) ≡ i = omega arith in
    subst (λ (k : ℕ). get_or a k 0 ≡ get_or b k 0) place
    (sym (get_or-drop n a (i - n) 0) ∙ ap (λ (l : List ℕ). get_or l (i - n) 0) same ∙ get_or-drop n b (i - n) 0)

end_length : (n : ℕ) (a b : List ℕ) → drop n a ≡ drop n b → length a - n ≡ length b - n
end_length n a b same = sym (length-drop n a) ∙ ap length same ∙ length-drop n b

-- and the other way round
front_same : (n : ℕ) (a b : List ℕ) → min n (length a) ≡ min n (length b) → ((i : ℕ) → i < n → i < length a → get_or a i 0 ≡ get_or b i 0) → take n a ≡ take n b
front_same n a b size same =
    ext_get_or 0 (take n a) (take n b) (length-take n a ∙ size ∙ sym (length-take n b)) (λ i inside.
    let low : i < n = omega (arith, length-take n a, inside) in
    let within : i < length a = omega (arith, length-take n a, inside) in
    get_or-take n a i 0 low ∙ same i low within ∙ sym (get_or-take n b i 0 low))

end_same : (n : ℕ) (a b : List ℕ) → length a - n ≡ length b - n → ((i : ℕ) → n ≤ i → i < length a → get_or a i 0 ≡ get_or b i 0) → drop n a ≡ drop n b
end_same n a b size same =
    ext_get_or 0 (drop n a) (drop n b) (length-drop n a ∙ size ∙ sym (length-drop n b)) (λ i inside.
    let high : n ≤ n + i = omega arith in
    let within : n + i < length a = omega (arith, length-drop n a, inside) in
    get_or-drop n a i 0 ∙ same (n + i) high within ∙ sym (get_or-drop n b i 0))

-- what an image may hold at a place
abbrev Holds : List ℕ → List Change → List ℕ → ℕ → Type 0
Holds first past c i = IsTouched past i ⊎ ((i < length (stable first past)) × (get_or c i 0 ≡ get_or (stable first past) i 0))

holds_same : (first : List ℕ) (past : List Change) (d c : List ℕ) (i : ℕ) → get_or c i 0 ≡ get_or d i 0 → Holds first past d i → Holds first past c i
holds_same first past d c i same (inl touched) = inl touched
holds_same first past d c i same (inr held) = inr (held.0, same ∙ held.1)

-- one more touched range
holds_write : (first : List ℕ) (before : List Change) (at range : ℕ) (bytes c : List ℕ) (i : ℕ) → Holds first before c i → Holds first (Write at bytes range ∷ before) c i
holds_write first before at range bytes c i (inl touched) = inl (inr touched)
holds_write first before at range bytes c i (inr held) = inr held

holds_cut : (first : List ℕ) (before : List Change) (len left : ℕ) (c : List ℕ) (i : ℕ) → Holds first before c i → Holds first (Cut len left ∷ before) c i
holds_cut first before len left c i (inl touched) = inl (inr touched)
holds_cut first before len left c i (inr held) = inr held

-- one write, stopped anywhere
write_image : (first : List ℕ) (before : List Change) (at range : ℕ) (bytes d c : List ℕ) → IsImage first before d → Torn at range d c
    → IsImage first (Write at bytes range ∷ before) c
write_image first before at range bytes d c image torn = record {
  no_shorter = omega (arith, image.no_shorter, torn.no_shorter);
  no_longer = omega (arith, image.no_longer, torn.no_longer);
  bytes = λ i inside. place i inside (cases_lt i at) (cases_lt i (at + range));
}
  where
    place : (i : ℕ) → i < length c → (i < at) ⊎ (at ≤ i) → (i < at + range) ⊎ (at + range ≤ i) → Holds first (Write at bytes range ∷ before) c i
    place i inside (inl low) other =
        let within : i < length d = omega (arith, front_length at c d torn.before) in
        holds_write first before at range bytes c i (holds_same first before d c i (front_byte at c d i torn.before low) (image.bytes i within))
    place i inside (inr high) (inl low) = inl (inl (high, low))
    place i inside (inr high) (inr past) =
        let within : i < length d = omega (arith, end_length (at + range) c d torn.after) in
        holds_write first before at range bytes c i (holds_same first before d c i (end_byte (at + range) c d i torn.after past) (image.bytes i within))

-- one cut, stopped anywhere
cut_image : (first : List ℕ) (before : List Change) (len left : ℕ) (d c : List ℕ) → IsImage first before d → CutShort len d c
    → IsImage first (Cut len left ∷ before) c
cut_image first before len left d c image cut = record {
  no_shorter = omega (arith, image.no_shorter, cut.no_shorter);
  no_longer = omega (arith, image.no_longer, cut.no_longer);
  bytes = λ i inside. place i inside (cases_lt i len);
}
  where
    place : (i : ℕ) → i < length c → (i < len) ⊎ (len ≤ i) → Holds first (Cut len left ∷ before) c i
    place i inside (inl low) =
        let within : i < length d = omega (arith, cut.no_longer) in
        holds_cut first before len left c i (holds_same first before d c i (front_byte len c d i cut.front low) (image.bytes i within))
    place i inside (inr high) = inl (inl high)

-- what was stable alone
stable_image : (first : List ℕ) (past : List Change) (c : List ℕ) → least first past ≡ length (stable first past) → greatest first past ≡ length (stable first past)
    → c ≡ stable first past → IsImage first past c
stable_image first past c low high is = record {
  no_shorter = omega (arith, ap length is);
  no_longer = omega (arith, ap length is);
  bytes = λ i inside. let within : i < length (stable first past) = omega (arith, ap length is) in inr (within, ap (λ (l : List ℕ). get_or l i 0) is);
}

pub leaves_image : (first : List ℕ) (past : List Change) → AreInside first past → (c : List ℕ) → Leaves first past c → IsImage first past c
leaves_image first [] inside c left = stable_image first [] c refl refl left
leaves_image first (Write at bytes range ∷ before) inside c (inl done) =
    write_image first before at range bytes (reads first before) c (leaves_image first before inside.2 (reads first before) (reads_left first before))
    (torn_part at range bytes (reads first before) c inside.0 inside.1 done)
leaves_image first (Write at bytes range ∷ before) inside c (inr stopped) =
    write_image first before at range bytes stopped.0 c (leaves_image first before inside.2 stopped.0 stopped.1) stopped.2
leaves_image first (Cut len left ∷ before) inside c (inl done) =
    cut_image first before len left (reads first before) c (leaves_image first before inside.1 (reads first before) (reads_left first before))
    (cut_part len left (reads first before) c inside.0 done)
leaves_image first (Cut len left ∷ before) inside c (inr stopped) =
    cut_image first before len left stopped.0 c (leaves_image first before inside.1 stopped.0 stopped.1) stopped.2
leaves_image first (Sync ∷ before) inside c left = stable_image first (Sync ∷ before) c refl refl left

-- the present length is one of those since the last sync
reads_image : (first : List ℕ) (past : List Change) → AreInside first past → IsImage first past (reads first past)
reads_image first past inside = leaves_image first past inside (reads first past) (reads_left first past)

-- each place behind what was stable and below the greatest length was written
grown : (first : List ℕ) (past : List Change) → AreInside first past → (i : ℕ) → length (stable first past) ≤ i → i < greatest first past → IsTouched past i
grown first [] inside i high low = absurd (omega arith)
grown first (Write at bytes range ∷ before) inside i high low =
    let far : at ≤ greatest first before = omega (arith, inside.0, (reads_image first before inside.2).no_longer) in
    elim (cases_lt i (greatest first before)) [
      | inl below ↦ inr (grown first before inside.2 i high below)
      | inr above ↦ inl (omega (arith, far, above), omega (arith, low, above))
    ]
grown first (Cut len left ∷ before) inside i high low = inr (grown first before inside.1 i high low)
grown first (Sync ∷ before) inside i high low = absurd (omega arith)

-- a byte of one list where the place is in a range and in the list, and else of another
abbrev mix : (s c : List ℕ) (low high i : ℕ) → (i < low) ⊎ (low ≤ i) → (i < high) ⊎ (high ≤ i) → (i < length s) ⊎ (length s ≤ i) → ℕ
mix s c low high i (inl below) other third = get_or c i 0
mix s c low high i (inr in_low) (inr above) third = get_or c i 0
mix s c low high i (inr in_low) (inl in_high) (inl inside) = get_or s i 0
mix s c low high i (inr in_low) (inl in_high) (inr behind) = get_or c i 0

mix_outside : (s c : List ℕ) (low high i : ℕ) (a : (i < low) ⊎ (low ≤ i)) (b : (i < high) ⊎ (high ≤ i)) (e : (i < length s) ⊎ (length s ≤ i))
    → (i < low) ⊎ (high ≤ i) → mix s c low high i a b e ≡ get_or c i 0
mix_outside s c low high i (inl below) b e out = refl
mix_outside s c low high i (inr in_low) (inr above) e out = refl
mix_outside s c low high i (inr in_low) (inl in_high) (inr behind) out = refl
mix_outside s c low high i (inr in_low) (inl in_high) (inl inside) (inl below) = absurd (omega arith)
mix_outside s c low high i (inr in_low) (inl in_high) (inl inside) (inr above) = absurd (omega arith)

mix_within : (s c : List ℕ) (low high i : ℕ) (a : (i < low) ⊎ (low ≤ i)) (b : (i < high) ⊎ (high ≤ i)) (e : (i < length s) ⊎ (length s ≤ i))
    → low ≤ i → i < high → ((i < length s) × (mix s c low high i a b e ≡ get_or s i 0)) ⊎ (length s ≤ i)
mix_within s c low high i (inl below) b e up down = absurd (omega arith)
mix_within s c low high i (inr in_low) (inr above) e up down = absurd (omega arith)
mix_within s c low high i (inr in_low) (inl in_high) (inl inside) up down = inl (inside, refl)
mix_within s c low high i (inr in_low) (inl in_high) (inr behind) up down = inr behind

-- a list of this length with such bytes
record Mixed (s c : List ℕ) (low high m : ℕ) (d : List ℕ) : Type 0 where
  pub size : length d ≡ m
  pub outside : (i : ℕ) → i < m → (i < low) ⊎ (high ≤ i) → get_or d i 0 ≡ get_or c i 0
  pub within : (i : ℕ) → i < m → low ≤ i → i < high → ((i < length s) × (get_or d i 0 ≡ get_or s i 0)) ⊎ (length s ≤ i)

abbrev chosen : (s c : List ℕ) (low high : ℕ) → ℕ → ℕ
chosen s c low high i = mix s c low high i (cases_lt i low) (cases_lt i high) (cases_lt i (length s))

mixed : (s c : List ℕ) (low high m : ℕ) → Mixed s c low high m (map (chosen s c low high) (range_with_len 0 m))
mixed s c low high m = record {
  size = length-map-range_with_len (chosen s c low high) 0 m;
  outside = λ i below out. at i below ∙ mix_outside s c low high i (cases_lt i low) (cases_lt i high) (cases_lt i (length s)) out;
  within = λ i below up down.
      elim (mix_within s c low high i (cases_lt i low) (cases_lt i high) (cases_lt i (length s)) up down) [
        | inl inside ↦ inl (inside.0, at i below ∙ inside.1)
        | inr behind ↦ inr behind
      ];
}
  where
    at : (i : ℕ) → i < m → get_or (map (chosen s c low high) (range_with_len 0 m)) i 0 ≡ chosen s c low high i
    at i below = get_or-map-range_with_len (chosen s c low high) 0 m i i 0 below (omega arith)

-- Each image after a write comes from one before it.
write_from : (first : List ℕ) (before : List Change) (at range : ℕ) (bytes c d : List ℕ) → AreInside first before → at ≤ greatest first before → least first before ≤ greatest first before
    → IsImage first (Write at bytes range ∷ before) c → Mixed (stable first before) c at (at + range) (min (length c) (greatest first before)) d
    → IsImage first before d × Torn at range d c
write_from first before at range bytes c d inside far some image from = (
  record {
    no_shorter = omega (arith, from.size, image.no_shorter, some);
    no_longer = omega (arith, from.size);
    bytes = λ i below. place i below (cases_lt i at) (cases_lt i (at + range));
  },
  record {
    before =
        front_same at c d (omega (arith, from.size, far)) (λ i low within. sym (from.outside i (omega (arith, far, low, within)) (inl low)));
    after =
        end_same (at + range) c d (omega (arith, from.size, image.no_longer)) (λ i high within. sym (from.outside i (omega (arith, image.no_longer, high, within)) (inr high)));
    no_shorter = omega (arith, from.size);
    no_longer = omega (arith, from.size, image.no_longer);
  },
)
  where
    left : (i : ℕ) → i < length d → (i < at) ⊎ (at + range ≤ i) → Holds first (Write at bytes range ∷ before) c i → Holds first before d i
    left i below out (inl (inl touched)) = absurd (elim out [ inl low ↦ omega arith | inr high ↦ omega arith ])
    left i below out (inl (inr touched)) = inl touched
    left i below out (inr held) = inr (held.0, from.outside i (omega (arith, from.size, below)) out ∙ held.1)

    place : (i : ℕ) → i < length d → (i < at) ⊎ (at ≤ i) → (i < at + range) ⊎ (at + range ≤ i) → Holds first before d i
    place i below (inl low) other = left i below (inl low) (image.bytes i (omega (arith, from.size, below)))
    place i below (inr high) (inr past) = left i below (inr past) (image.bytes i (omega (arith, from.size, below)))
    place i below (inr high) (inl low) =
        elim (from.within i (omega (arith, from.size, below)) high low) [
          | inl held ↦ inr held
          | inr behind ↦ inl (grown first before inside i behind (omega (arith, from.size, below)))
        ]

-- Each image after a cut comes from one before it.
cut_from : (first : List ℕ) (before : List Change) (len left : ℕ) (c d : List ℕ) → AreInside first before → least first before ≤ greatest first before
    → IsImage first (Cut len left ∷ before) c → Mixed (stable first before) c len (greatest first before) (max (length c) (least first before)) d
    → IsImage first before d × CutShort len d c
cut_from first before len left c d inside some image from = (
  record {
    no_shorter = omega (arith, from.size);
    no_longer = omega (arith, from.size, image.no_longer, some);
    bytes = λ i below. place i below (cases_lt i len);
  },
  record {
    front =
        front_same len c d (omega (arith, from.size, image.no_shorter)) (λ i low within. sym (from.outside i (omega (arith, within)) (inl low)));
    no_shorter = omega (arith, from.size, image.no_shorter);
    no_longer = omega (arith, from.size);
  },
)
  where
    kept : (i : ℕ) → i < length d → i < len → Holds first (Cut len left ∷ before) c i → Holds first before d i
    kept i below low (inl (inl touched)) = absurd (omega arith)
    kept i below low (inl (inr touched)) = inl touched
    kept i below low (inr held) = inr (held.0, from.outside i (omega (arith, from.size, below)) (inl low) ∙ held.1)

    place : (i : ℕ) → i < length d → (i < len) ⊎ (len ≤ i) → Holds first before d i
    place i below (inl low) = kept i below low (image.bytes i (omega (arith, from.size, below, image.no_shorter)))
    place i below (inr high) =
        elim (from.within i (omega (arith, from.size, below)) high (omega (arith, from.size, below, image.no_longer, some))) [
          | inl held ↦ inr held
          | inr behind ↦ inl (grown first before inside i behind (omega (arith, from.size, below, image.no_longer, some)))
        ]

-- what was stable, where nothing is touched since
same_stable : (first : List ℕ) (past : List Change) (c : List ℕ) → least first past ≡ length (stable first past) → greatest first past ≡ length (stable first past)
    → ((i : ℕ) → IsTouched past i → ⊥) → IsImage first past c → c ≡ stable first past
same_stable first past c low high none image =
    ext_get_or 0 c (stable first past) (omega (arith, image.no_shorter, image.no_longer)) (λ i inside.
    elim (image.bytes i inside) [ inl touched ↦ absurd (none i touched) | inr held ↦ held.1 ])

pub image_leaves : (first : List ℕ) (past : List Change) → AreInside first past → (c : List ℕ) → IsImage first past c → Leaves first past c
image_leaves first [] inside c image = same_stable first [] c refl refl (λ i touched. touched) image
image_leaves first (Write at bytes range ∷ before) inside c image =
    let present = reads_image first before inside.2 in
    let m = min (length c) (greatest first before) in
    let d = map (chosen (stable first before) c at (at + range)) (range_with_len 0 (min (length c) (greatest first before))) in
    let from = mixed (stable first before) c at (at + range) (min (length c) (greatest first before)) in
    let both =
    write_from first before at range bytes c (map (chosen (stable first before) c at (at + range)) (range_with_len 0 (min (length c) (greatest first before)))) inside.2
    (omega (arith, inside.0, present.no_longer)) (omega (arith, present.no_shorter, present.no_longer)) image from in
    inr (map (chosen (stable first before) c at (at + range)) (range_with_len 0 (min (length c) (greatest first before))), image_leaves first before inside.2 _ both.0, both.1)
image_leaves first (Cut len left ∷ before) inside c image =
    let present = reads_image first before inside.1 in
    let from = mixed (stable first before) c len (greatest first before) (max (length c) (least first before)) in
    let both =
    cut_from first before len left c (map (chosen (stable first before) c len (greatest first before)) (range_with_len 0 (max (length c) (least first before)))) inside.1
    (omega (arith, present.no_shorter, present.no_longer)) image from in
    inr (map (chosen (stable first before) c len (greatest first before)) (range_with_len 0 (max (length c) (least first before))), image_leaves first before inside.1 _ both.0, both.1)
image_leaves first (Sync ∷ before) inside c image = same_stable first (Sync ∷ before) c refl refl (λ i touched. touched) image

pub images_by_place : ImagesByPlace
images_by_place first past inside c = (leaves_image first past inside c, image_leaves first past inside c)
