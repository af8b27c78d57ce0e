-- What is read of the front of a file that another process may write to.
use Rattle.std.proofs.Common.{◌≡◌, ◌⊎◌, inl, inr, ℕ, ◌+◌, ◌<◌, ◌≤◌, ◌==◌, List, Option, None, Some, Result, Ok, Err, length, length-take-le, length-drop, take, drop, sym, ◌∙◌, ap, subst, refl, arith}
use Rattle.std.specs.Prelude.{slice_index, slice_set, if◌then◌else◌, OnOk, OnErr}
use Rattle.fsl_order.specs.Causes.{Rose}
use Rattle.std.specs.Option.{option_map}
use Rattle.std.proofs.lemmas.Bool.{cases_eq}
use Rattle.std.proofs.lemmas.List.{ext_get_or, get_or-set_same, get_or-set_other, get_or-take, get_or-drop, length-set}
use Rattle.fsl_disk.specs.Front.{put, shown, byte_at, IsAt, Stays, IsFronted, fronted, AreShown}
use Rattle.fsl_disk.specs.Shared.{SharedState, ToldOf, ReadFailed}
use Rattle.fsl_disk.specs.declared.front.Front.{Front}
use Rattle.fsl_disk.specs.declared.front.Seen.{Seen}

some_same : {a b : List ℕ} → Some a ≡ Some b → a ≡ b
some_same e = cc

told_shown : (o : Option (ℕ → List ℕ)) (f : (ℕ → List ℕ) → List ℕ) (held : List ℕ) → option_map f o ≡ Some held → (h : ℕ → List ℕ) × (o ≡ Some h) × (held ≡ f h)
told_shown None f held told = absurd (cc)
told_shown (Some h) f held told = (h, refl, sym (some_same told))

length_put : (seen : Option Seen) (l : List ℕ) → length (put seen l) ≡ length l
length_put None l = refl
length_put (Some seen) l = length-set l seen.at seen.byte

put_at : (seen : Option Seen) (l : List ℕ) (k : ℕ) → k < length l → slice_index (put seen l) k ≡ byte_at seen k (slice_index l k)
put_at None l k inside = refl
put_at (Some seen) l k inside = by (cases_eq k seen.at)
  where
    by : (k ≡ seen.at) ⊎ (k ≡ seen.at → ⊥) → slice_index (slice_set l seen.at seen.byte) k ≡ (if k == seen.at then seen.byte else slice_index l k)
    by (inl same) = grind (arith, get_or-set_same)
    by (inr other) = grind (arith, get_or-set_other)

same_at : (seen : Option Seen) (k x y : ℕ) → IsAt seen k → byte_at seen k x ≡ byte_at seen k y
same_at None k x y is = absurd is
same_at (Some seen) k x y is = by (cases_eq k seen.at)
  where
    by : (k ≡ seen.at) ⊎ (k ≡ seen.at → ⊥) → (if k == seen.at then seen.byte else x) ≡ (if k == seen.at then seen.byte else y)
    by (inl same) = grind (arith, same)
    by (inr other) = absurd (other is)

length_shown : (front : Front) (l : List ℕ) → front.len ≤ length l → length (shown front l) ≡ front.len
length_shown front l inside =
    length-take-le front.len (put front.gate (put front.mark l)) (omega (arith, inside, length_put front.mark l, length_put front.gate (put front.mark l)))

shown_at : (front : Front) (l : List ℕ) (k : ℕ) → front.len ≤ length l → k < front.len → slice_index (shown front l) k ≡ byte_at front.gate k (byte_at front.mark k (slice_index l k))
shown_at front l k inside below =
    get_or-take front.len (put front.gate (put front.mark l)) k 0 below
    ∙ put_at front.gate (put front.mark l) k (omega (arith, inside, below, length_put front.mark l))
    ∙ ap (byte_at front.gate k) (put_at front.mark l k (omega (arith, inside, below)))

kept_byte : (front : Front) (k x y : ℕ) → IsAt front.mark k ⊎ IsAt front.gate k ⊎ (x ≡ y) → byte_at front.gate k (byte_at front.mark k x) ≡ byte_at front.gate k (byte_at front.mark k y)
kept_byte front k x y (inl is) = ap (byte_at front.gate k) (same_at front.mark k x y is)
kept_byte front k x y (inr (inl is)) = same_at front.gate k (byte_at front.mark k x) (byte_at front.mark k y) is
kept_byte front k x y (inr (inr same)) = ap (λ (b : ℕ). byte_at front.gate k (byte_at front.mark k b)) same

pub fronted_read : {F : Type 0} (state : F → SharedState) (first now : F) (front : Front) (faults at n : ℕ) (into : List ℕ) →
    IsFronted (state first) (state now) front → length into ≡ n → at + length into ≤ front.len →
    ToldOf (state now) (λ held. AreShown front held (state now).moment at into) → (held : List ℕ) → (fronted state first front faults).contents ≡ Some held → into ≡ take n (drop at held)
fronted_read {F} state first now front faults at n into kept size inside read held is =
    let told = told_shown (state first).held (λ h. shown front (h (state first).moment)) held is in
    let h = told.0 in
    let start = (state first).moment in
    let stays = kept.stays h told.1 in
    let long : front.len ≤ length (h start) = (stays start (omega arith)).0 in
    let whole : length held ≡ front.len = ap length told.2 ∙ length_shown front (h start) long in
    ext_get_or 0 into (take n (drop at held))
    (size ∙ sym (length-take-le n (drop at held) (omega (arith, length-drop at held, whole, inside, size))))
    (λ k below.
    let seen = read h (kept.same ∙ told.1) k below in
    let p : at + k < front.len = omega (arith, below, inside) in
    seen.2
    ∙ kept_byte front (at + k) (slice_index (h seen.0) (at + k)) (slice_index (h start) (at + k)) ((stays seen.0 (omega (arith, kept.later, seen.1))).1 (at + k) p)
    ∙ sym (shown_at front (h start) (at + k) long p)
    ∙ ap (λ (l : List ℕ). slice_index l (at + k)) (sym told.2)
    ∙ sym (get_or-drop at held k 0)
    ∙ sym (get_or-take n (drop at held) k 0 (omega (arith, below, size))))

pub on_same : {X E : Type 0} (r s : Result X E) (P Q : Type 0) → r ≡ s → OnOk s P → (P → Q) → OnOk r Q
on_same {X} {E} r s P Q same ok more = subst (λ (t : Result X E). OnOk t Q) (sym same) (by s ok)
  where
    by : (t : Result X E) → OnOk t P → OnOk t Q
    by (Ok x) p = more p
    by (Err e) p = tt

pub on_both : {X E : Type 0} (r : Result X E) (P Q : Type 0) → OnOk r P → OnOk r Q → OnOk r (P × Q)
on_both (Ok x) P Q p q = (p, q)
on_both (Err e) P Q p q = tt

-- a read inside the front isn't past the end of the file
pub never_short : (first before after : SharedState) (front : Front) (end : ℕ) → IsFronted first before front → end ≤ front.len → ReadFailed before after end → Rose before.faults after.faults
never_short first before after front end kept inside (inl rose) = rose
never_short first before after front end kept inside (inr short) =
    let stays = kept.stays short.held (sym kept.same ∙ short.told) short.moment (omega (arith, kept.later, short.within.0)) in
    absurd (omega (arith, stays.0, short.short, inside))

pub on_err_same : {X E : Type 0} (r s : Result X E) (P Q : Type 0) → r ≡ s → OnErr s P → (P → Q) → OnErr r Q
on_err_same {X} {E} r s P Q same failed more = subst (λ (t : Result X E). OnErr t Q) (sym same) (by s failed)
  where
    by : (t : Result X E) → OnErr t P → OnErr t Q
    by (Ok x) p = tt
    by (Err e) p = more p
