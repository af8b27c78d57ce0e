-- What one record does to what the code keeps.
use Rattle.std.proofs.Common.{◌≡◌, ℕ, ◌+◌, Bool, true, false, cond, List, [], ◌∷◌, ◌++◌, length, Option, Some, None, refl, sym, ap, ◌∙◌, subst, not}
use Rattle.std.specs.Prelude.{◌||◌, ◌&&◌, if◌then◌else◌, is_some, IfSome}
use Rattle.std.specs.Option.{option_map, option_map_or, option_or}
use Rattle.std.specs.Cmp.{eq_by_cmp_equiv, tied_itself}
use Rattle.std.specs.Cmp.Lexicographic.{texts_ties}
use Rattle.std.specs.Str.{bytes_eq}
use Rattle.std.specs.FinSet.{FinSet}
use Rattle.std.specs.FinMap.{FinMap}
use Rattle.std.proofs.lemmas.Bool.{and_parts}
use Rattle.std.specs.declared.cmp.Ordering.{Ordering}
use Rattle.std.specs.declared.cmp.Ordering.TheVariants.{Less, Equal, Greater}
use Rattle.std.specs.Ordering.{is_eq}
use Rattle.std.specs.FinMap as map_of
use Rattle.std.specs.FinSet as set
use Rattle.fsl_order.specs.Names.{bytes_cmp}
use Rattle.fsl_order.proofs.Orders.{bytes_cmp-IsTotalOrder, bytes_cmp-IsAntisymmetric}
use Rattle.fsl_record.specs.declared.Config.{Config}
use Rattle.fsl_record.specs.Receipts.{Brought}
use Rattle.fsl_record.specs.declared.Record.{Record}
use Rattle.fsl_record.specs.declared.Record.TheVariants as record_of
use Rattle.fsl_blobs.specs.declared.blobs.HeldArtifact.{HeldArtifact}
use Rattle.fsl_blobs.specs.Fold.{Held, HeldSet, Contents, contents, after, received, is_new, is_blob_of, place}
use Rattle.fsl_blobs.specs.Held.{still_new}
use Rattle.fsl_blobs.proofs.Places.{contents_push, place_push}
use Rattle.fsl_blobs.specs.Kept.{is_same, is_kept, held_at, stands, published, artifact_of, receipt_of, IsKept}

-- ---- the same names

equal : (o : Ordering) → is_eq o ≡ true → o ≡ Equal
equal Less e = cc
equal Equal e = refl
equal Greater e = cc

pub is_same-means : (a b : List ℕ) → is_same a b ≡ true → a ≡ b
is_same-means a b e = bytes_cmp-IsAntisymmetric a b (equal (bytes_cmp a b) e)

-- ---- a name is published

-- a look-up by the same name finds the same
at_same : (m : List (List ℕ × HeldArtifact)) (name q : List ℕ) (o : Option HeldArtifact) → is_same name q ≡ true → held_at m name ≡ o → held_at m q ≡ o
at_same m name q o e is = subst (λ (x : List ℕ). held_at m x ≡ o) (is_same-means name q e) is

unchanged : (name q : List ℕ) (o : Option HeldArtifact) → is_same name q ≡ false → o ≡ option_map (published name q) o
unchanged name q None e = refl
unchanged name q (Some a) e = ap (λ (b : Bool). Some (if b then record a { private = false } else a)) (sym e)

pub published_here : (name : List ℕ) (old new : List (List ℕ × HeldArtifact)) (a : HeldArtifact) → held_at old name ≡ Some a
    → ((q : List ℕ) → held_at new q ≡ cond (is_same name q) (Some (record a { private = false })) (held_at old q))
    → (q : List ℕ) → held_at new q ≡ option_map (published name q) (held_at old q)
published_here name old new a was now q =
    now q ∙ elim (is_same name q) as (λ b. is_same name q ≡ b → cond b (Some (record a { private = false })) (held_at old q) ≡ option_map (published name q) (held_at old q)) [
      | true ↦ λ e. ap (λ (b : Bool). Some (if b then record a { private = false } else a)) (sym e) ∙ ap (option_map (published name q)) (sym (at_same old name q (Some a) e was))
      | false ↦ λ e. unchanged name q (held_at old q) e
    ] refl

pub published_nowhere : (name : List ℕ) (old new : List (List ℕ × HeldArtifact)) → held_at old name ≡ None → new ≡ old
    → (q : List ℕ) → held_at new q ≡ option_map (published name q) (held_at old q)
published_nowhere name old new was same q =
    ap (λ (m : List (List ℕ × HeldArtifact)). held_at m q) same
    ∙ elim (is_same name q) as (λ b. is_same name q ≡ b → held_at old q ≡ option_map (published name q) (held_at old q)) [
      | true ↦ λ e. let none = at_same old name q None e was in none ∙ sym (ap (option_map (published name q)) none)
      | false ↦ λ e. unchanged name q (held_at old q) e
    ] refl

-- ---- what records leave, name by name

pub turned : (a b : List ℕ) → is_same a b ≡ is_same b a
turned a b = (eq_by_cmp_equiv bytes_cmp-IsTotalOrder).symm a b

if_also : {A : Type 0} (s : Bool) (x y : A) → cond s x y ≡ cond (s && true) x y
if_also true x y = refl
if_also false x y = refl

if_never : {A : Type 0} (s : Bool) (x y : A) → y ≡ cond (s && false) x y
if_never true x y = refl
if_never false x y = refl

is_some-map : {A B : Type 0} (f : A → B) (o : Option A) → is_some (option_map f o) ≡ is_some o
is_some-map f None = refl
is_some-map f (Some a) = refl

-- the artifact of a name after another, or the same, was published
abbrev pub shown : List ℕ → List ℕ → Held → Held
shown name q a = if is_same name q then record a { private = false } else a

at_same_set : (m : HeldSet) (name q : List ℕ) (o : Option Held) → is_same name q ≡ true → map_of.get m name ≡ o → map_of.get m q ≡ o
at_same_set m name q o e is = subst (λ (x : List ℕ). map_of.get m x ≡ o) (is_same-means name q e) is

shown_apart : (name q : List ℕ) (o : Option Held) → is_same name q ≡ false → o ≡ option_map (shown name q) o
shown_apart name q None e = refl
shown_apart name q (Some a) e = ap (λ (b : Bool). Some (if b then record a { private = false } else a)) (sym e)

module _ (c : Contents) (name : List ℕ) where
  abbrev pub blobbed : Bool → Option Brought → List ℕ → Contents
  blobbed private receipt bytes = after c (record_of.Blob private name receipt bytes)

  abbrev blobbing : Bool → Option Brought → List ℕ → Bool → Contents
  blobbing private receipt bytes b = if b then record c { held = map_of.insert c.held name (record { private = private; bytes = bytes }); receipts = received c.receipts name receipt } else c

  pub blob-get : (private : Bool) (receipt : Option Brought) (bytes q : List ℕ) → map_of.get (blobbed private receipt bytes).held q ≡ cond (is_same name q && is_new c name) (Some (record { private = private; bytes = bytes })) (map_of.get c.held q)
  blob-get private receipt bytes q =
      let a : Held = record { private = private; bytes = bytes } in
      elim (is_new c name) as (λ b. map_of.get (blobbing private receipt bytes b).held q ≡ cond (is_same name q && b) (Some (record { private = private; bytes = bytes })) (map_of.get c.held q)) [
        | true ↦ map_of.get-insert bytes_cmp-IsTotalOrder c.held name a q ∙ ap (λ (b : Bool). cond b (Some a) (map_of.get c.held q)) (turned q name) ∙ if_also (is_same name q) (Some a) (map_of.get c.held q)
        | false ↦ if_never (is_same name q) (Some a) (map_of.get c.held q)
      ]

  pub blob-shunned : (private : Bool) (receipt : Option Brought) (bytes : List ℕ) → (blobbed private receipt bytes).shunned ≡ c.shunned
  blob-shunned private receipt bytes = elim (is_new c name) as (λ b. (blobbing private receipt bytes b).shunned ≡ c.shunned) [ true ↦ refl | false ↦ refl ]

  blob-config : (private : Bool) (receipt : Option Brought) (bytes : List ℕ) → (blobbed private receipt bytes).config ≡ c.config
  blob-config private receipt bytes = elim (is_new c name) as (λ b. (blobbing private receipt bytes b).config ≡ c.config) [ true ↦ refl | false ↦ refl ]

  received-get : (receipt : Option Brought) (q : List ℕ) → map_of.get (received c.receipts name receipt) q ≡ option_map_or (λ r. cond (is_same name q) (Some r) (map_of.get c.receipts q)) receipt (map_of.get c.receipts q)
  received-get None q = refl
  received-get (Some r) q = map_of.get-insert bytes_cmp-IsTotalOrder c.receipts name r q ∙ ap (λ (b : Bool). cond b (Some r) (map_of.get c.receipts q)) (turned q name)

  -- the receipts after a blob, where a name that is new had none
  pub blob-receipts : (private : Bool) (receipt : Option Brought) (bytes q : List ℕ) → (is_new c name ≡ true → map_of.get c.receipts name ≡ None)
      → map_of.get (blobbed private receipt bytes).receipts q ≡ cond (is_same name q && is_new c name) receipt (map_of.get c.receipts q)
  blob-receipts private receipt bytes q none =
      elim (is_new c name) as (λ b. is_new c name ≡ b → map_of.get (blobbing private receipt bytes b).receipts q ≡ cond (is_same name q && b) receipt (map_of.get c.receipts q)) [
        | true ↦ λ new. received-get receipt q ∙ by receipt (none new) ∙ if_also (is_same name q) receipt (map_of.get c.receipts q)
        | false ↦ λ _. if_never (is_same name q) receipt (map_of.get c.receipts q)
      ] refl
    where
      gone : is_same name q ≡ true → map_of.get c.receipts name ≡ None → map_of.get c.receipts q ≡ None
      gone e missing = subst (λ (x : List ℕ). map_of.get c.receipts x ≡ None) (is_same-means name q e) missing

      by : (r : Option Brought) → map_of.get c.receipts name ≡ None → option_map_or (λ r. cond (is_same name q) (Some r) (map_of.get c.receipts q)) r (map_of.get c.receipts q) ≡ cond (is_same name q) r (map_of.get c.receipts q)
      by (Some r) missing = refl
      by None missing = elim (is_same name q) as (λ b. is_same name q ≡ b → map_of.get c.receipts q ≡ cond b None (map_of.get c.receipts q)) [ true ↦ λ e. gone e missing | false ↦ λ _. refl ] refl

  abbrev publishing : Option Held → Contents
  publishing o = option_map_or (λ a. record c { held = map_of.insert c.held name (record a { private = false }) }) o c

  pub publish-get : (q : List ℕ) → map_of.get (after c (record_of.Publish name)).held q ≡ option_map (shown name q) (map_of.get c.held q)
  publish-get q =
      elim (map_of.get c.held name) as (λ o. map_of.get c.held name ≡ o → map_of.get (publishing o).held q ≡ option_map (shown name q) (map_of.get c.held q)) [
        | None ↦ λ is. elim (is_same name q) as (λ b. is_same name q ≡ b → map_of.get c.held q ≡ option_map (shown name q) (map_of.get c.held q)) [
          | true ↦ λ e. let none : map_of.get c.held q ≡ None = at_same_set c.held name q None e is in none ∙ sym (ap (option_map (shown name q)) none)
          | false ↦ λ e. shown_apart name q (map_of.get c.held q) e
        ] refl
        | Some a ↦ λ is.
            let bare : Held = record a { private = false } in
            map_of.get-insert bytes_cmp-IsTotalOrder c.held name bare q ∙ ap (λ (b : Bool). cond b (Some bare) (map_of.get c.held q)) (turned q name)
            ∙ elim (is_same name q) as (λ b. is_same name q ≡ b → cond b (Some (record a { private = false })) (map_of.get c.held q) ≡ option_map (shown name q) (map_of.get c.held q)) [
              | true ↦ λ e. ap (λ (b : Bool). Some (if b then record a { private = false } else a)) (sym e) ∙ ap (option_map (shown name q)) (sym (at_same_set c.held name q (Some a) e is))
              | false ↦ λ e. shown_apart name q (map_of.get c.held q) e
            ] refl
      ] refl

  pub publish-shunned : (after c (record_of.Publish name)).shunned ≡ c.shunned
  publish-shunned = elim (map_of.get c.held name) as (λ o. (publishing o).shunned ≡ c.shunned) [ None ↦ refl | Some a ↦ refl ]

  publish-config : (after c (record_of.Publish name)).config ≡ c.config
  publish-config = elim (map_of.get c.held name) as (λ o. (publishing o).config ≡ c.config) [ None ↦ refl | Some a ↦ refl ]

  publish-receipts : (after c (record_of.Publish name)).receipts ≡ c.receipts
  publish-receipts = elim (map_of.get c.held name) as (λ o. (publishing o).receipts ≡ c.receipts) [ None ↦ refl | Some a ↦ refl ]

  pub shun-get : (q : List ℕ) → map_of.get (after c (record_of.Shun name)).held q ≡ cond (is_same name q) None (map_of.get c.held q)
  shun-get q = map_of.get-remove bytes_cmp-IsTotalOrder c.held name q ∙ ap (λ (b : Bool). cond b None (map_of.get c.held q)) (turned q name)

  pub shun-shunned : (q : List ℕ) → set.contains (after c (record_of.Shun name)).shunned q ≡ (is_same name q || set.contains c.shunned q)
  shun-shunned q = set.contains-insert bytes_cmp-IsTotalOrder c.shunned name q ∙ ap (λ (b : Bool). b || set.contains c.shunned q) (turned q name)

  pub shun-receipts : (q : List ℕ) → map_of.get (after c (record_of.Shun name)).receipts q ≡ cond (is_same name q) None (map_of.get c.receipts q)
  shun-receipts q = map_of.get-remove bytes_cmp-IsTotalOrder c.receipts name q ∙ ap (λ (b : Bool). cond b None (map_of.get c.receipts q)) (turned q name)

  pub unshun-shunned : (q : List ℕ) → set.contains (after c (record_of.Unshun name)).shunned q ≡ (not (is_same name q) && set.contains c.shunned q)
  unshun-shunned q = set.contains-remove bytes_cmp-IsTotalOrder c.shunned name q ∙ ap (λ (b : Bool). not b && set.contains c.shunned q) (turned q name)

-- ---- which names are new

abbrev newness : Option Held → Bool → Bool
newness o s = not (is_some o || s)

publish-new : (c : Contents) (name q : List ℕ) → is_new (after c (record_of.Publish name)) q ≡ is_new c q
publish-new c name q =
    let some : is_some (map_of.get (after c (record_of.Publish name)).held q) ≡ is_some (map_of.get c.held q) = ap is_some (publish-get c name q) ∙ is_some-map (shown name q) (map_of.get c.held q) in
    let shuns = ap (λ (s : FinSet bytes_cmp). set.contains s q) (publish-shunned c name) in
    λ i. not (some i || shuns i)

blob-new_apart : (c : Contents) (name : List ℕ) (private : Bool) (receipt : Option Brought) (bytes q : List ℕ) → is_same name q ≡ false → is_new (after c (record_of.Blob private name receipt bytes)) q ≡ is_new c q
blob-new_apart c name private receipt bytes q e =
    let a : Held = record { private = private; bytes = bytes } in
    let at : map_of.get (after c (record_of.Blob private name receipt bytes)).held q ≡ map_of.get c.held q =
    blob-get c name private receipt bytes q ∙ ap (λ (b : Bool). cond (b && is_new c name) (Some a) (map_of.get c.held q)) e in
    let shuns = ap (λ (s : FinSet bytes_cmp). set.contains s q) (blob-shunned c name private receipt bytes) in
    λ i. newness (at i) (shuns i)

itself : (name : List ℕ) → is_same name name ≡ true
itself name = ap is_eq (tied_itself bytes_cmp-IsTotalOrder name)

blob-not_new : (c : Contents) (name : List ℕ) (private : Bool) (receipt : Option Brought) (bytes : List ℕ) → is_new (after c (record_of.Blob private name receipt bytes)) name ≡ false
blob-not_new c name private receipt bytes =
    let a : Held = record { private = private; bytes = bytes } in
    let at : map_of.get (after c (record_of.Blob private name receipt bytes)).held name ≡ cond (is_new c name) (Some a) (map_of.get c.held name) =
    blob-get c name private receipt bytes name ∙ ap (λ (b : Bool). cond (b && is_new c name) (Some a) (map_of.get c.held name)) (itself name) in
    let shuns = ap (λ (s : FinSet bytes_cmp). set.contains s name) (blob-shunned c name private receipt bytes) in
    (λ i. newness (at i) (shuns i))
    ∙ elim (is_new c name) as (λ b. is_new c name ≡ b → newness (cond b (Some (record { private = private; bytes = bytes })) (map_of.get c.held name)) (set.contains c.shunned name) ≡ false) [ true ↦ λ e. refl | false ↦ λ e. e ] refl

shun-not_new : (c : Contents) (name : List ℕ) → is_new (after c (record_of.Shun name)) name ≡ false
shun-not_new c name =
    let shuns : set.contains (after c (record_of.Shun name)).shunned name ≡ true = shun-shunned c name name ∙ ap (λ (b : Bool). b || set.contains c.shunned name) (itself name) in
    ap (newness (map_of.get (after c (record_of.Shun name)).held name)) shuns
    ∙ elim (is_some (map_of.get (after c (record_of.Shun name)).held name)) as (λ b. not (b || true) ≡ false) [ true ↦ refl | false ↦ refl ]

shun-new_apart : (c : Contents) (name q : List ℕ) → is_same name q ≡ false → is_new (after c (record_of.Shun name)) q ≡ is_new c q
shun-new_apart c name q e =
    let at : map_of.get (after c (record_of.Shun name)).held q ≡ map_of.get c.held q = shun-get c name q ∙ ap (λ (b : Bool). cond b None (map_of.get c.held q)) e in
    let shuns : set.contains (after c (record_of.Shun name)).shunned q ≡ set.contains c.shunned q = shun-shunned c name q ∙ ap (λ (b : Bool). b || set.contains c.shunned q) e in
    λ i. newness (at i) (shuns i)

-- a name that is new stays so when a name is taken off the list
unshun-still_new : (c : Contents) (name q : List ℕ) → is_new c q ≡ true → is_new (after c (record_of.Unshun name)) q ≡ true
unshun-still_new c name q new =
    ap (newness (map_of.get c.held q)) (unshun-shunned c name q)
    ∙ elim (is_same name q) as (λ b. newness (map_of.get c.held q) (not b && set.contains c.shunned q) ≡ true) [
      | true ↦ out (is_some (map_of.get c.held q)) (set.contains c.shunned q) new
      | false ↦ new
    ]
  where
    out : (h s : Bool) → not (h || s) ≡ true → not (h || false) ≡ true
    out true s e = e
    out false s e = refl

-- ---- announced names

-- the names that stand are those that stood and are still new
abbrev IsStill : Contents → List (List ℕ) → List (List ℕ) → Type 0
IsStill c old new = (q : List ℕ) → stands new q ≡ (stands old q && is_new c q)

still_same : (c d : Contents) (old : List (List ℕ)) → ((q : List ℕ) → stands old q ≡ true → is_new c q ≡ true) → ((q : List ℕ) → is_new d q ≡ is_new c q) → IsStill d old old
still_same c d old were same q =
    elim (stands old q) as (λ b. stands old q ≡ b → b ≡ (b && is_new d q)) [ true ↦ λ e. sym (same q ∙ were q e) | false ↦ λ e. refl ] refl

still_without : (c d : Contents) (name : List ℕ) (old new : List (List ℕ)) → ((q : List ℕ) → stands old q ≡ true → is_new c q ≡ true) → is_new d name ≡ false → ((q : List ℕ) → is_same name q ≡ false → is_new d q ≡ is_new c q)
    → ((q : List ℕ) → stands new q ≡ (not (is_same name q) && stands old q)) → IsStill d old new
still_without c d name old new were gone apart now q =
    now q ∙ elim (is_same name q) as (λ b. is_same name q ≡ b → (not b && stands old q) ≡ (stands old q && is_new d q)) [
      | true ↦ λ e.
          let none : is_new d q ≡ false = subst (λ (x : List ℕ). is_new d x ≡ false) (is_same-means name q e) gone in
          elim (stands old q) as (λ b. false ≡ (b && is_new d q)) [ true ↦ sym none | false ↦ refl ]
      | false ↦ λ e. elim (stands old q) as (λ b. stands old q ≡ b → b ≡ (b && is_new d q)) [ true ↦ λ s. sym (apart q e ∙ were q s) | false ↦ λ s. refl ] refl
    ] refl

pub still_new-from : (c : Contents) (old new : List (List ℕ)) → IsStill c old new → set.from_list {R = bytes_cmp} new ≡ still_new c (set.from_list old)
still_new-from c old new now =
    set.same_set bytes_cmp-IsTotalOrder bytes_cmp-IsAntisymmetric _ _ λ q.
    set.contains-from_list bytes_cmp-IsTotalOrder new q ∙ now q
    ∙ ap (λ (b : Bool). b && is_new c q) (sym (set.contains-from_list bytes_cmp-IsTotalOrder old q))
    ∙ sym (set.contains-retain (set.from_list {R = bytes_cmp} old) (is_new c) q (λ x e. ap (is_new c) (sym (bytes_cmp-IsAntisymmetric q x e))))

still_means : (c : Contents) (old new : List (List ℕ)) → IsStill c old new → (q : List ℕ) → stands new q ≡ true → is_new c q ≡ true
still_means c old new now q e = (and_parts (stands old q) (is_new c q) (sym (now q) ∙ e)).1

-- what a set without a name has
pub left-from : (name : List ℕ) (old new : List (List ℕ)) → ((q : List ℕ) → stands new q ≡ cond (is_same name q) false (stands old q)) → (q : List ℕ) → stands new q ≡ (not (is_same name q) && stands old q)
left-from name old new now q =
    now q ∙ elim (is_same name q) as (λ b. cond b false (stands old q) ≡ (not b && stands old q)) [ true ↦ refl | false ↦ refl ]

-- ---- places

-- a name that is held isn't new
held-not_new : (c : Contents) (q : List ℕ) (o : Option HeldArtifact) → option_map artifact_of o ≡ map_of.get c.held q → is_some o ≡ true → is_new c q ≡ false
held-not_new c q o is some =
    let held : is_some (map_of.get c.held q) ≡ true = sym (ap is_some is) ∙ is_some-map artifact_of o ∙ some in
    ap (λ (b : Bool). not (b || set.contains c.shunned q)) held

-- a place stays where the name is held already
place_stays : (records : List Record) (r : Record) (q : List ℕ) → is_new (contents records) q ≡ false → place (records ++ r ∷ []) q ≡ place records q
place_stays records r q e =
    place_push records r q ∙ elim (is_blob_of q r) as (λ b. cond (b && is_new (contents records) q) (Some (length records + 1)) (place records q) ≡ place records q) [
      | true ↦ ap (λ (b : Bool). cond b (Some (length records + 1)) (place records q)) e
      | false ↦ refl
    ]

abbrev IsPlaced : List Record → List ℕ → Option HeldArtifact → Type 0
IsPlaced records q o = IfSome o (λ a. place records q ≡ Some a.place)

placed_still : (records : List Record) (r : Record) (q : List ℕ) (o : Option HeldArtifact) → option_map artifact_of o ≡ map_of.get (contents records).held q → IsPlaced records q o → IsPlaced (records ++ r ∷ []) q o
placed_still records r q None is placed = tt
placed_still records r q (Some a) is placed = place_stays records r q (held-not_new (contents records) q (Some a) is refl) ∙ placed

placed_public : (records : List Record) (name q : List ℕ) (o : Option HeldArtifact) → IsPlaced records q o → IsPlaced records q (option_map (published name q) o)
placed_public records name q None placed = tt
placed_public records name q (Some a) placed = elim (is_same name q) as (λ b. place records q ≡ Some (if b then record a { private = false } else a).place) [ true ↦ placed | false ↦ placed ]

placed_less : (records : List Record) (b : Bool) (q : List ℕ) (o : Option HeldArtifact) → IsPlaced records q o → IsPlaced records q (cond b None o)
placed_less records true q o placed = tt
placed_less records false q o placed = placed

-- ---- what is kept, after one record more

map_published : (name q : List ℕ) (o : Option HeldArtifact) → option_map artifact_of (option_map (published name q) o) ≡ option_map (shown name q) (option_map artifact_of o)
map_published name q None = refl
map_published name q (Some a) = elim (is_same name q) as (λ b. Some (artifact_of (if b then record a { private = false } else a)) ≡ Some (if b then record (artifact_of a) { private = false } else artifact_of a)) [ true ↦ refl | false ↦ refl ]

map_less : (b : Bool) (o : Option HeldArtifact) → option_map artifact_of (cond b None o) ≡ cond b None (option_map artifact_of o)
map_less true o = refl
map_less false o = refl

map_more : (b : Bool) (a : HeldArtifact) (o : Option HeldArtifact) → option_map artifact_of (cond b (Some a) o) ≡ cond b (Some (artifact_of a)) (option_map artifact_of o)
map_more true a o = refl
map_more false a o = refl

receipt_more : (b : Bool) (a : HeldArtifact) (o : Option HeldArtifact) → receipt_of (cond b (Some a) o) ≡ cond b a.receipt (receipt_of o)
receipt_more true a o = refl
receipt_more false a o = refl

receipt_less : (b : Bool) (o : Option HeldArtifact) → receipt_of (cond b None o) ≡ cond b None (receipt_of o)
receipt_less true o = refl
receipt_less false o = refl

receipt_published : (name q : List ℕ) (o : Option HeldArtifact) → receipt_of (option_map (published name q) o) ≡ receipt_of o
receipt_published name q None = refl
receipt_published name q (Some a) = elim (is_same name q) as (λ b. (if b then record a { private = false } else a).receipt ≡ a.receipt) [ true ↦ refl | false ↦ refl ]

module _ (records : List Record) (found : Config) (es : List (List ℕ × HeldArtifact)) (shuns announced : List (List ℕ)) (kept : IsKept records found es shuns announced) where
  abbrev with_one : Record → List Record
  with_one r = records ++ r ∷ []

  pub is_some-held : (name : List ℕ) → is_some (held_at es name) ≡ is_some (map_of.get (contents records).held name)
  is_some-held name = sym (is_some-map artifact_of (held_at es name)) ∙ ap is_some (kept.held name)

  pub kept-new : (name : List ℕ) → not (is_kept es shuns name) ≡ is_new (contents records) name
  kept-new name =
      let held = is_some-held name in
      let shun = kept.shunned name in
      λ i. not (held i || shun i)

  -- ---- a blob

  blob-still : (private : Bool) (name : List ℕ) (receipt : Option Brought) (bytes : List ℕ) (fewer : List (List ℕ)) → ((q : List ℕ) → stands fewer q ≡ (not (is_same name q) && stands announced q)) → IsStill (contents (with_one (record_of.Blob private name receipt bytes))) announced fewer
  blob-still private name receipt bytes fewer left =
      subst (λ (c : Contents). IsStill c announced fewer) (sym (contents_push records (record_of.Blob private name receipt bytes)))
      (still_without (contents records) (after (contents records) (record_of.Blob private name receipt bytes)) name announced fewer kept.new (blob-not_new (contents records) name private receipt bytes) (blob-new_apart (contents records) name private receipt bytes) left)

  pub announced-blob : (private : Bool) (name : List ℕ) (receipt : Option Brought) (bytes : List ℕ) (fewer : List (List ℕ)) → ((q : List ℕ) → stands fewer q ≡ (not (is_same name q) && stands announced q)) → set.from_list {R = bytes_cmp} fewer ≡ still_new (contents (with_one (record_of.Blob private name receipt bytes))) (set.from_list announced)
  announced-blob private name receipt bytes fewer left = still_new-from (contents (with_one (record_of.Blob private name receipt bytes))) announced fewer (blob-still private name receipt bytes fewer left)

  module _ (private : Bool) (name : List ℕ) (receipt : Option Brought) (bytes : List ℕ) (artifact : HeldArtifact) (is : artifact_of artifact ≡ record { private = private; bytes = bytes }) (brought : artifact.receipt ≡ receipt) (last : artifact.place ≡ length records + 1)
      (new : List (List ℕ × HeldArtifact)) (fewer : List (List ℕ))
      (now : (q : List ℕ) → held_at new q ≡ cond (is_same name q && not (is_kept es shuns name)) (Some artifact) (held_at es q))
      (left : (q : List ℕ) → stands fewer q ≡ (not (is_same name q) && stands announced q)) where
    abbrev blob : Record
    blob = record_of.Blob private name receipt bytes

    abbrev added : List ℕ → Bool
    added q = is_same name q && is_new (contents records) name

    now_new : (q : List ℕ) → held_at new q ≡ cond (added q) (Some artifact) (held_at es q)
    now_new q = now q ∙ ap (λ (b : Bool). cond (is_same name q && b) (Some artifact) (held_at es q)) (kept-new name)

    -- the artifact that is added has the last place
    placed_last : (q : List ℕ) → added q ≡ true → place (with_one blob) q ≡ Some artifact.place
    placed_last q e =
        let parts = and_parts (is_same name q) (is_new (contents records) name) e in
        let same = is_same-means name q parts.0 in
        let of_name : bytes_eq name q ≡ true = texts_ties name q ∙ parts.0 in
        let new_name : is_new (contents records) q ≡ true = subst (λ (x : List ℕ). is_new (contents records) x ≡ true) same parts.1 in
        place_push records blob q ∙ ap (λ (b : Bool). cond (b && is_new (contents records) q) (Some (length records + 1)) (place records q)) of_name
        ∙ ap (λ (b : Bool). cond b (Some (length records + 1)) (place records q)) new_name ∙ ap Some (sym last)

    blob-placed : (q : List ℕ) → IsPlaced (with_one blob) q (held_at new q)
    blob-placed q =
        subst (IsPlaced (with_one blob) q) (sym (now_new q))
        (elim (added q) as (λ b. added q ≡ b → IsPlaced (with_one blob) q (cond b (Some artifact) (held_at es q))) [
          | true ↦ λ e. placed_last q e
          | false ↦ λ e. placed_still records blob q (held_at es q) (kept.held q) (kept.places q)
        ] refl)

    blob-held : (q : List ℕ) → option_map artifact_of (held_at new q) ≡ map_of.get (contents (with_one blob)).held q
    blob-held q =
        ap (option_map artifact_of) (now_new q) ∙ map_more (added q) artifact (held_at es q) ∙ ap (cond (added q) (Some (artifact_of artifact))) (kept.held q)
        ∙ ap (λ (a : Held). cond (added q) (Some a) (map_of.get (contents records).held q)) is
        ∙ sym (blob-get (contents records) name private receipt bytes q) ∙ ap (λ (c : Contents). map_of.get c.held q) (sym (contents_push records blob))

    -- a name that is new has no receipt
    unbrought : is_new (contents records) name ≡ true → map_of.get (contents records).receipts name ≡ None
    unbrought e = sym (kept.receipts name) ∙ ap receipt_of (nowhere (held_at es name) (stands shuns name) (kept-new name ∙ e))
      where
        nowhere : (o : Option HeldArtifact) (s : Bool) → not (is_some o || s) ≡ true → o ≡ None
        nowhere None s e = refl
        nowhere (Some a) s e = absurd cc

    blob-brought : (q : List ℕ) → receipt_of (held_at new q) ≡ map_of.get (contents (with_one blob)).receipts q
    blob-brought q =
        ap receipt_of (now_new q) ∙ receipt_more (added q) artifact (held_at es q) ∙ (λ i. cond (added q) (brought i) (kept.receipts q i))
        ∙ sym (blob-receipts (contents records) name private receipt bytes q unbrought) ∙ ap (λ (c : Contents). map_of.get c.receipts q) (sym (contents_push records blob))

    pub kept-blob : IsKept (with_one blob) found new shuns fewer
    kept-blob = record {
      config = ap (λ (c : Contents). c.config) (contents_push records blob) ∙ blob-config (contents records) name private receipt bytes ∙ kept.config;
      held = blob-held;
      places = blob-placed;
      receipts = blob-brought;
      shunned = λ q. kept.shunned q ∙ ap (λ (s : FinSet bytes_cmp). set.contains s q) (sym (ap (λ (c : Contents). c.shunned) (contents_push records blob) ∙ blob-shunned (contents records) name private receipt bytes));
      new = still_means (contents (with_one blob)) announced fewer (blob-still private name receipt bytes fewer left);
    }

  -- ---- a name is published

  publish-still : (name : List ℕ) → IsStill (contents (with_one (record_of.Publish name))) announced announced
  publish-still name =
      subst (λ (c : Contents). IsStill c announced announced) (sym (contents_push records (record_of.Publish name)))
      (still_same (contents records) (after (contents records) (record_of.Publish name)) announced kept.new (publish-new (contents records) name))

  pub announced-publish : (name : List ℕ) → set.from_list {R = bytes_cmp} announced ≡ still_new (contents (with_one (record_of.Publish name))) (set.from_list announced)
  announced-publish name = still_new-from (contents (with_one (record_of.Publish name))) announced announced (publish-still name)

  module _ (name : List ℕ) (new : List (List ℕ × HeldArtifact)) (now : (q : List ℕ) → held_at new q ≡ option_map (published name q) (held_at es q)) where
    abbrev publish : Record
    publish = record_of.Publish name

    publish-held : (q : List ℕ) → option_map artifact_of (held_at new q) ≡ map_of.get (contents (with_one publish)).held q
    publish-held q =
        ap (option_map artifact_of) (now q) ∙ map_published name q (held_at es q) ∙ ap (option_map (shown name q)) (kept.held q)
        ∙ sym (publish-get (contents records) name q) ∙ ap (λ (c : Contents). map_of.get c.held q) (sym (contents_push records publish))

    publish-placed : (q : List ℕ) → IsPlaced (with_one publish) q (held_at new q)
    publish-placed q =
        subst (IsPlaced (with_one publish) q) (sym (now q))
        (placed_public (with_one publish) name q (held_at es q) (placed_still records publish q (held_at es q) (kept.held q) (kept.places q)))

    pub kept-publish : IsKept (with_one publish) found new shuns announced
    kept-publish = record {
      config = ap (λ (c : Contents). c.config) (contents_push records publish) ∙ publish-config (contents records) name ∙ kept.config;
      held = publish-held;
      places = publish-placed;
      receipts = λ q. ap receipt_of (now q) ∙ receipt_published name q (held_at es q) ∙ kept.receipts q
          ∙ ap (λ (m : FinMap bytes_cmp Brought). map_of.get m q) (sym (ap (λ (c : Contents). c.receipts) (contents_push records publish) ∙ publish-receipts (contents records) name));
      shunned = λ q. kept.shunned q ∙ ap (λ (s : FinSet bytes_cmp). set.contains s q) (sym (ap (λ (c : Contents). c.shunned) (contents_push records publish) ∙ publish-shunned (contents records) name));
      new = still_means (contents (with_one publish)) announced announced (publish-still name);
    }

  -- ---- another Config changes nothing

  module _ (other : Config) where
    abbrev config : Record
    config = record_of.Config other

    config-still : IsStill (contents (with_one config)) announced announced
    config-still =
        subst (λ (c : Contents). IsStill c announced announced) (sym (contents_push records config))
        (still_same (contents records) (after (contents records) config) announced kept.new (λ q. refl))

    pub announced-config : set.from_list {R = bytes_cmp} announced ≡ still_new (contents (with_one config)) (set.from_list announced)
    announced-config = still_new-from (contents (with_one config)) announced announced config-still

    pub kept-config : IsKept (with_one config) found es shuns announced
    kept-config = record {
      config = ap (λ (c : Contents). c.config) (contents_push records config) ∙ ap (λ (o : Option Config). option_or o (Some other)) kept.config;
      held = λ q. kept.held q ∙ ap (λ (c : Contents). map_of.get c.held q) (sym (contents_push records config));
      places = λ q. placed_still records config q (held_at es q) (kept.held q) (kept.places q);
      receipts = λ q. kept.receipts q ∙ ap (λ (c : Contents). map_of.get c.receipts q) (sym (contents_push records config));
      shunned = λ q. kept.shunned q ∙ ap (λ (c : Contents). set.contains c.shunned q) (sym (contents_push records config));
      new = still_means (contents (with_one config)) announced announced config-still;
    }

  -- ---- a name is shunned

  shun-still : (name : List ℕ) (fewer : List (List ℕ)) → ((q : List ℕ) → stands fewer q ≡ (not (is_same name q) && stands announced q)) → IsStill (contents (with_one (record_of.Shun name))) announced fewer
  shun-still name fewer left =
      subst (λ (c : Contents). IsStill c announced fewer) (sym (contents_push records (record_of.Shun name)))
      (still_without (contents records) (after (contents records) (record_of.Shun name)) name announced fewer kept.new (shun-not_new (contents records) name) (shun-new_apart (contents records) name) left)

  pub announced-shun : (name : List ℕ) (fewer : List (List ℕ)) → ((q : List ℕ) → stands fewer q ≡ (not (is_same name q) && stands announced q)) → set.from_list {R = bytes_cmp} fewer ≡ still_new (contents (with_one (record_of.Shun name))) (set.from_list announced)
  announced-shun name fewer left = still_new-from (contents (with_one (record_of.Shun name))) announced fewer (shun-still name fewer left)

  module _ (name : List ℕ) (new : List (List ℕ × HeldArtifact)) (more fewer : List (List ℕ))
      (now : (q : List ℕ) → held_at new q ≡ cond (is_same name q) None (held_at es q))
      (listed : (q : List ℕ) → stands more q ≡ (is_same name q || stands shuns q))
      (left : (q : List ℕ) → stands fewer q ≡ (not (is_same name q) && stands announced q)) where
    abbrev shun : Record
    shun = record_of.Shun name

    shun-held : (q : List ℕ) → option_map artifact_of (held_at new q) ≡ map_of.get (contents (with_one shun)).held q
    shun-held q =
        ap (option_map artifact_of) (now q) ∙ map_less (is_same name q) (held_at es q) ∙ ap (cond (is_same name q) None) (kept.held q)
        ∙ sym (shun-get (contents records) name q) ∙ ap (λ (c : Contents). map_of.get c.held q) (sym (contents_push records shun))

    shun-placed : (q : List ℕ) → IsPlaced (with_one shun) q (held_at new q)
    shun-placed q =
        subst (IsPlaced (with_one shun) q) (sym (now q))
        (placed_less (with_one shun) (is_same name q) q (held_at es q) (placed_still records shun q (held_at es q) (kept.held q) (kept.places q)))

    shun-listed : (q : List ℕ) → stands more q ≡ set.contains (contents (with_one shun)).shunned q
    shun-listed q =
        listed q ∙ ap (λ (b : Bool). is_same name q || b) (kept.shunned q) ∙ sym (shun-shunned (contents records) name q)
        ∙ ap (λ (c : Contents). set.contains c.shunned q) (sym (contents_push records shun))

    pub kept-shun : IsKept (with_one shun) found new more fewer
    kept-shun = record {
      config = ap (λ (c : Contents). c.config) (contents_push records shun) ∙ kept.config;
      held = shun-held;
      places = shun-placed;
      receipts = λ q. ap receipt_of (now q) ∙ receipt_less (is_same name q) (held_at es q) ∙ ap (cond (is_same name q) None) (kept.receipts q)
          ∙ sym (shun-receipts (contents records) name q) ∙ ap (λ (c : Contents). map_of.get c.receipts q) (sym (contents_push records shun));
      shunned = shun-listed;
      new = still_means (contents (with_one shun)) announced fewer (shun-still name fewer left);
    }

  -- ---- a name is taken off the list

  unshun-still : (name : List ℕ) → IsStill (contents (with_one (record_of.Unshun name))) announced announced
  unshun-still name =
      subst (λ (c : Contents). IsStill c announced announced) (sym (contents_push records (record_of.Unshun name)))
      (λ q. elim (stands announced q) as (λ b. stands announced q ≡ b → b ≡ (b && is_new (after (contents records) (record_of.Unshun name)) q)) [
        | true ↦ λ e. sym (unshun-still_new (contents records) name q (kept.new q e))
        | false ↦ λ _. refl
      ] refl)

  pub announced-unshun : (name : List ℕ) → set.from_list {R = bytes_cmp} announced ≡ still_new (contents (with_one (record_of.Unshun name))) (set.from_list announced)
  announced-unshun name = still_new-from (contents (with_one (record_of.Unshun name))) announced announced (unshun-still name)

  module _ (name : List ℕ) (fewer : List (List ℕ)) (listed : (q : List ℕ) → stands fewer q ≡ (not (is_same name q) && stands shuns q)) where
    abbrev unshun : Record
    unshun = record_of.Unshun name

    pub kept-unshun : IsKept (with_one unshun) found es fewer announced
    kept-unshun = record {
      config = ap (λ (c : Contents). c.config) (contents_push records unshun) ∙ kept.config;
      held = λ q. kept.held q ∙ ap (λ (c : Contents). map_of.get c.held q) (sym (contents_push records unshun));
      places = λ q. placed_still records unshun q (held_at es q) (kept.held q) (kept.places q);
      receipts = λ q. kept.receipts q ∙ ap (λ (c : Contents). map_of.get c.receipts q) (sym (contents_push records unshun));
      shunned = λ q. listed q ∙ ap (λ (b : Bool). not (is_same name q) && b) (kept.shunned q) ∙ sym (unshun-shunned (contents records) name q)
          ∙ ap (λ (c : Contents). set.contains c.shunned q) (sym (contents_push records unshun));
      new = still_means (contents (with_one unshun)) announced announced (unshun-still name);
    }

-- ---- the first record

pub kept-first : (first : Record) (found : Config) (records : List Record) (es : List (List ℕ × HeldArtifact)) (shuns announced : List (List ℕ)) → first ≡ record_of.Config found → records ≡ first ∷ [] → es ≡ [] → shuns ≡ [] → announced ≡ []
    → IsKept records found es shuns announced
kept-first first found records es shuns announced is one none no_shuns no_names =
    subst (λ (rs : List Record). IsKept rs found es shuns announced) (sym (one ∙ ap (λ (r : Record). r ∷ []) is)) record {
      config = refl;
      held = λ q. ap (λ (m : List (List ℕ × HeldArtifact)). option_map artifact_of (held_at m q)) none ∙ sym (map_of.get-empty bytes_cmp q);
      places = λ q. subst (λ (m : List (List ℕ × HeldArtifact)). IsPlaced (record_of.Config found ∷ []) q (held_at m q)) (sym none) tt;
      receipts = λ q. ap (λ (m : List (List ℕ × HeldArtifact)). receipt_of (held_at m q)) none ∙ sym (map_of.get-empty bytes_cmp q);
      shunned = λ q. ap (λ (ns : List (List ℕ)). stands ns q) no_shuns ∙ sym (set.contains-empty bytes_cmp q);
      new = λ q e. absurd (nothing_stands (sym (ap (λ (ns : List (List ℕ)). stands ns q) no_names) ∙ e));
    }
  where
    nothing_stands : false ≡ true → ⊥
    nothing_stands e = cc
