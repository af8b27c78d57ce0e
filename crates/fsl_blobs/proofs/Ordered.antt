-- What one record does to the names by their places.
use Rattle.std.proofs.Common.{◌≡◌, ℕ, ◌+◌, ◌-◌, Bool, true, false, cond, List, [], length, Option, Some, None, refl, sym, ap, ◌∙◌, subst, not, arith}
use Rattle.std.specs.Prelude.{◌||◌, ◌&&◌, if◌then◌else◌, is_some, IfSome, slice_get}
use Rattle.std.specs.Option.{option_map, option_map_or}
use Rattle.std.specs.Cmp.{nat_cmp_total, unsigned_tied, tied_itself}
use Rattle.std.specs.Ordering.{is_eq}
use Rattle.std.proofs.lemmas.Bool.{and_parts, eqb-true}
use Rattle.std.proofs.lemmas.Option.{slice_get_past}
use Rattle.fsl_order.proofs.Orders.{bytes_cmp-IsTotalOrder}
use Rattle.fsl_record.specs.declared.Config.{Config}
use Rattle.fsl_record.specs.declared.Record.{Record}
use Rattle.fsl_blobs.specs.declared.blobs.HeldArtifact.{HeldArtifact}
use Rattle.fsl_blobs.specs.declared.order.Order.{Order}
use Rattle.fsl_blobs.specs.Fold.{is_blob_of, place}
use Rattle.fsl_blobs.specs.Kept.{is_same, is_kept, held_at, stands, published, is_kind, is_place, names_in, name_at, name_in, place_as, added, revealed, gone, Fits, IsOrdered, IsKept}
use Rattle.fsl_blobs.proofs.KeptLemmas.{is_same-means}
use Rattle.fsl_blobs.proofs.HeldLists.{place-blob, one_place}

pub place-means : (a b : ℕ) → is_place a b ≡ true → a ≡ b
place-means a b e = eqb-true a b (sym (unsigned_tied a b) ∙ e)

pub place-itself : (a : ℕ) → is_place a a ≡ true
place-itself a = ap is_eq (tied_itself nat_cmp_total a)

same-itself : (name : List ℕ) → is_same name name ≡ true
same-itself name = ap is_eq (tied_itself bytes_cmp-IsTotalOrder name)

-- ---- places and names in general

abbrev Placing : Type 0
Placing = Bool → List ℕ → Option ℕ

abbrev Naming : Type 0
Naming = Bool → ℕ → Option (List ℕ)

nothing-there : (P : Placing) (O : Naming) → Fits P O → (b : Bool) (m : ℕ) → ((q : List ℕ) → P b q ≡ Some m → ⊥) → O b m ≡ None
nothing-there P O fits b m none =
    elim (O b m) as (λ o. O b m ≡ o → o ≡ None) [ None ↦ λ _. refl | Some q ↦ λ e. absurd (none q (fits.only b q m e)) ] refl

pub alike : (P Q : Placing) (O N : Naming) → ((b : Bool) (q : List ℕ) → Q b q ≡ P b q) → ((b : Bool) (n : ℕ) → N b n ≡ O b n) → Fits P O → Fits Q N
alike P Q O N same_places same_names fits = record {
  there = λ b q n e. same_names b n ∙ fits.there b q n (sym (same_places b q) ∙ e);
  only = λ b q n e. same_places b q ∙ fits.only b q n (sym (same_names b n) ∙ e);
}

module _ (P Q : Placing) (O N : Naming) (kind : Bool) (m : ℕ) (name : List ℕ) (fits : Fits P O) where
  inside : {A : Type 0} (x y : A) → Some x ≡ Some y → x ≡ y
  inside x y e = cc

  -- a name comes in at a place
  module _ (absent : (b : Bool) → P b name ≡ None) (free : (b : Bool) → O b m ≡ None)
      (places : (b : Bool) (q : List ℕ) → Q b q ≡ cond (is_same name q) (cond (is_kind b kind) (Some m) None) (P b q))
      (names : (b : Bool) (n : ℕ) → N b n ≡ cond (is_kind b kind && is_place m n) (Some name) (O b n)) where
    come-there : (b : Bool) (q : List ℕ) (n : ℕ) → Q b q ≡ Some n → N b n ≡ Some q
    come-there b q n e =
        names b n
        ∙ elim (is_same name q) as (λ s. is_same name q ≡ s → cond s (cond (is_kind b kind) (Some m) None) (P b q) ≡ Some n → cond (is_kind b kind && is_place m n) (Some name) (O b n) ≡ Some q) [
          | true ↦ λ s e. own (is_kind b kind) e (is_same-means name q s)
          | false ↦ λ s e.
              let old : O b n ≡ Some q = fits.there b q n e in
              elim (is_place m n) as (λ t. is_place m n ≡ t → cond (is_kind b kind && t) (Some name) (O b n) ≡ Some q) [
                | true ↦ λ t. let none : O b n ≡ None = subst (λ (k : ℕ). O b k ≡ None) (place-means m n t) (free b) in absurd (clash (O b n) none old)
                | false ↦ λ t. never (is_kind b kind) ∙ old
              ] refl
        ] refl (sym (places b q) ∙ e)
      where
        clash : (o : Option (List ℕ)) → o ≡ None → o ≡ Some q → ⊥
        clash o none some = cc

        never : (k : Bool) → cond (k && false) (Some name) (O b n) ≡ O b n
        never true = refl
        never false = refl

        own : (k : Bool) → cond k (Some m) None ≡ Some n → name ≡ q → cond (k && is_place m n) (Some name) (O b n) ≡ Some q
        own true e same = ap (λ (t : Bool). cond t (Some name) (O b n)) (subst (λ (k : ℕ). is_place m k ≡ true) (inside m n e) (place-itself m)) ∙ ap Some same
        own false e same = absurd cc

    come-only : (b : Bool) (q : List ℕ) (n : ℕ) → N b n ≡ Some q → Q b q ≡ Some n
    come-only b q n e =
        places b q
        ∙ elim (is_kind b kind && is_place m n) as (λ t. (is_kind b kind && is_place m n) ≡ t → cond t (Some name) (O b n) ≡ Some q → cond (is_same name q) (cond (is_kind b kind) (Some m) None) (P b q) ≡ Some n) [
          | true ↦ λ t e.
              let parts = and_parts (is_kind b kind) (is_place m n) t in
              let same : is_same name q ≡ true = subst (λ (x : List ℕ). is_same name x ≡ true) (inside name q e) (same-itself name) in
              ap (λ (s : Bool). cond s (cond (is_kind b kind) (Some m) None) (P b q)) same ∙ ap (λ (k : Bool). cond k (Some m) None) parts.0 ∙ ap Some (place-means m n parts.1)
          | false ↦ λ t e.
              let old : P b q ≡ Some n = fits.only b q n e in
              elim (is_same name q) as (λ s. is_same name q ≡ s → cond s (cond (is_kind b kind) (Some m) None) (P b q) ≡ Some n) [
                | true ↦ λ s. absurd (clash (P b q) (subst (λ (x : List ℕ). P b x ≡ None) (is_same-means name q s) (absent b)) old)
                | false ↦ λ s. old
              ] refl
        ] refl (sym (names b n) ∙ e)
      where
        clash : (o : Option ℕ) → o ≡ None → o ≡ Some n → ⊥
        clash o none some = cc

    pub comes : Fits Q N
    comes = record { there = come-there; only = come-only }

  -- a name goes from its place
  module _ (held : (b : Bool) → P b name ≡ cond (is_kind b kind) (Some m) None)
      (places : (b : Bool) (q : List ℕ) → Q b q ≡ cond (is_same name q) None (P b q))
      (names : (b : Bool) (n : ℕ) → N b n ≡ cond (is_kind b kind && is_place m n) None (O b n)) where
    here : (b : Bool) (n : ℕ) → (is_kind b kind && is_place m n) ≡ true → P b name ≡ Some n
    here b n t =
        let parts = and_parts (is_kind b kind) (is_place m n) t in
        held b ∙ ap (λ (k : Bool). cond k (Some m) None) parts.0 ∙ ap Some (place-means m n parts.1)

    go-there : (b : Bool) (q : List ℕ) (n : ℕ) → Q b q ≡ Some n → N b n ≡ Some q
    go-there b q n e =
        names b n
        ∙ elim (is_same name q) as (λ s. is_same name q ≡ s → cond s None (P b q) ≡ Some n → cond (is_kind b kind && is_place m n) None (O b n) ≡ Some q) [
          | true ↦ λ s e. absurd cc
          | false ↦ λ s e.
              let old : O b n ≡ Some q = fits.there b q n e in
              elim (is_kind b kind && is_place m n) as (λ t. (is_kind b kind && is_place m n) ≡ t → cond t None (O b n) ≡ Some q) [
                | true ↦ λ t.
                    let two : name ≡ q = inside name q (sym (fits.there b name n (here b n t)) ∙ old) in
                    absurd (no (sym (same-itself name) ∙ ap (is_same name) two ∙ s))
                | false ↦ λ t. old
              ] refl
        ] refl (sym (places b q) ∙ e)
      where
        no : true ≡ false → ⊥
        no e = cc

    go-only : (b : Bool) (q : List ℕ) (n : ℕ) → N b n ≡ Some q → Q b q ≡ Some n
    go-only b q n e =
        places b q
        ∙ elim (is_kind b kind && is_place m n) as (λ t. (is_kind b kind && is_place m n) ≡ t → cond t None (O b n) ≡ Some q → cond (is_same name q) None (P b q) ≡ Some n) [
          | true ↦ λ t e. absurd cc
          | false ↦ λ t e.
              let old : P b q ≡ Some n = fits.only b q n e in
              elim (is_same name q) as (λ s. is_same name q ≡ s → cond s None (P b q) ≡ Some n) [
                | true ↦ λ s. absurd (still (is_kind b kind) t (sym (held b) ∙ ap (P b) (is_same-means name q s) ∙ old))
                | false ↦ λ s. old
              ] refl
        ] refl (sym (names b n) ∙ e)
      where
        no : true ≡ false → ⊥
        no e = cc

        still : (k : Bool) → (k && is_place m n) ≡ false → cond k (Some m) None ≡ Some n → ⊥
        still true t e = no (sym (subst (λ (k : ℕ). is_place m k ≡ true) (inside m n e) (place-itself m)) ∙ t)
        still false t e = cc

    pub goes : Fits Q N
    goes = record { there = go-there; only = go-only }

-- ---- the held names

abbrev places_of : List (List ℕ × HeldArtifact) → Placing
places_of es b q = place_as b (held_at es q)

abbrev names_of : Order → Naming
names_of order b n = name_in b order n

pub place_some : (o : Option HeldArtifact) (b : Bool) (n : ℕ) → place_as b o ≡ Some n → (a : HeldArtifact) × (o ≡ Some a) × (is_kind b a.private ≡ true) × (a.place ≡ n)
place_some None b n e = absurd cc
place_some (Some a) b n e = let is = by (is_kind b a.private) e in (a, refl, is.0, is.1)
  where
    by : (k : Bool) → cond k (Some a.place) None ≡ Some n → (k ≡ true) × (a.place ≡ n)
    by true e = (refl, cc)
    by false e = absurd cc

if_place : (s : Bool) (b : Bool) (a : HeldArtifact) (o : Option HeldArtifact) → place_as b (cond s (Some a) o) ≡ cond s (cond (is_kind b a.private) (Some a.place) None) (place_as b o)
if_place true b a o = refl
if_place false b a o = refl

less_place : (s : Bool) (b : Bool) (o : Option HeldArtifact) → place_as b (cond s None o) ≡ cond s None (place_as b o)
less_place true b o = refl
less_place false b o = refl

module _ (records : List Record) (found : Config) (es : List (List ℕ × HeldArtifact)) (shuns announced : List (List ℕ)) (kept : IsKept records found es shuns announced) (order : Order) (fits : IsOrdered es order) where
  place_is : (q : List ℕ) (a : HeldArtifact) → held_at es q ≡ Some a → place records q ≡ Some a.place
  place_is q a at = subst (λ (o : Option HeldArtifact). IfSome o (λ a. place records q ≡ Some a.place)) at (kept.places q)

  -- two held names don't have one place
  one_name : (p q : List ℕ) (a b : HeldArtifact) → held_at es p ≡ Some a → held_at es q ≡ Some b → a.place ≡ b.place → p ≡ q
  one_name p q a b at bt same = one_place (slice_get records (b.place - 1)) p q (place-blob records p b.place (place_is p a at ∙ ap Some same)) (place-blob records q b.place (place_is q b bt))

  -- a held name doesn't have the place of the next record
  not_next : (b : Bool) (q : List ℕ) → place_as b (held_at es q) ≡ Some (length records + 1) → ⊥
  not_next b q e =
      let some = place_some (held_at es q) b (length records + 1) e in
      let blob : option_map_or (is_blob_of q) (slice_get records ((length records + 1) - 1)) false ≡ true = place-blob records q (length records + 1) (place_is q some.0 some.1 ∙ ap Some some.3) in
      let past : slice_get records ((length records + 1) - 1) ≡ None = slice_get_past records ((length records + 1) - 1) (omega arith) in
      no (sym (ap (λ (o : Option Record). option_map_or (is_blob_of q) o false) past) ∙ blob)
    where
      no : false ≡ true → ⊥
      no e = cc

  not_kept : (q : List ℕ) → is_kept es shuns q ≡ false → held_at es q ≡ None
  not_kept q e = by (held_at es q) (stands shuns q) e
    where
      by : (o : Option HeldArtifact) (s : Bool) → (is_some o || s) ≡ false → o ≡ None
      by None s e = refl
      by (Some a) true e = absurd cc
      by (Some a) false e = absurd cc

  pub ordered-add : (name : List ℕ) (a : HeldArtifact) → a.place ≡ length records + 1 → (new : List (List ℕ × HeldArtifact)) (after : Order)
      → ((q : List ℕ) → held_at new q ≡ cond (is_same name q && not (is_kept es shuns name)) (Some a) (held_at es q))
      → ((b : Bool) (n : ℕ) → name_in b after n ≡ added (is_kept es shuns name) name a b n (name_in b order n)) → IsOrdered new after
  ordered-add name a last new after now names =
      elim (is_kept es shuns name) as (λ k. is_kept es shuns name ≡ k → ((q : List ℕ) → held_at new q ≡ cond (is_same name q && not k) (Some a) (held_at es q)) → ((b : Bool) (n : ℕ) → name_in b after n ≡ added k name a b n (name_in b order n)) → IsOrdered new after) [
        | true ↦ λ k now names. alike (places_of es) (places_of new) (names_of order) (names_of after) (λ b q. ap (place_as b) (now q ∙ never (is_same name q) (held_at es q))) names fits
        | false ↦ λ k now names.
            let none : held_at es name ≡ None = not_kept name k in
            comes (places_of es) (places_of new) (names_of order) (names_of after) a.private a.place name fits
            (λ b. ap (place_as b) none)
            (λ b. nothing-there (places_of es) (names_of order) fits b a.place (λ q e. not_next b q (e ∙ ap Some last)))
            (λ b q. ap (place_as b) (now q ∙ also (is_same name q) (held_at es q)) ∙ if_place (is_same name q) b a (held_at es q))
            names
      ] refl now names
    where
      never : (s : Bool) (o : Option HeldArtifact) → cond (s && false) (Some a) o ≡ o
      never true o = refl
      never false o = refl

      also : (s : Bool) (o : Option HeldArtifact) → cond (s && true) (Some a) o ≡ cond s (Some a) o
      also true o = refl
      also false o = refl

  -- a place that the next record has is free
  pub next_free : (place : ℕ) → place ≡ length records + 1 → (b : Bool) → name_in b order place ≡ None
  next_free place last b = nothing-there (places_of es) (names_of order) fits b place (λ q e. not_next b q (e ∙ ap Some last))

  pub ordered-same : (new : List (List ℕ × HeldArtifact)) (after : Order) → new ≡ es → ((b : Bool) (n : ℕ) → name_in b after n ≡ name_in b order n) → IsOrdered new after
  ordered-same new after same names =
      alike (places_of es) (places_of new) (names_of order) (names_of after) (λ b q. ap (λ (m : List (List ℕ × HeldArtifact)). place_as b (held_at m q)) same) names fits

  pub ordered-shun : (name : List ℕ) (new : List (List ℕ × HeldArtifact)) (after : Order)
      → ((q : List ℕ) → held_at new q ≡ cond (is_same name q) None (held_at es q))
      → ((b : Bool) (n : ℕ) → name_in b after n ≡ gone (held_at es name) b n (name_in b order n)) → IsOrdered new after
  ordered-shun name new after now names =
      elim (held_at es name) as (λ o. held_at es name ≡ o → ((b : Bool) (n : ℕ) → name_in b after n ≡ gone o b n (name_in b order n)) → IsOrdered new after) [
        | None ↦ λ none names. alike (places_of es) (places_of new) (names_of order) (names_of after) (λ b q. ap (place_as b) (now q ∙ still none q)) names fits
        | Some a ↦ λ some names.
            goes (places_of es) (places_of new) (names_of order) (names_of after) a.private a.place name fits (λ b. ap (place_as b) some)
            (λ b q. ap (place_as b) (now q) ∙ less_place (is_same name q) b (held_at es q)) names
      ] refl names
    where
      still : held_at es name ≡ None → (q : List ℕ) → cond (is_same name q) None (held_at es q) ≡ held_at es q
      still none q =
          elim (is_same name q) as (λ s. is_same name q ≡ s → cond s None (held_at es q) ≡ held_at es q) [
            | true ↦ λ s. sym (subst (λ (x : List ℕ). held_at es x ≡ None) (is_same-means name q s) none)
            | false ↦ λ _. refl
          ] refl

  -- ---- a name is published

  shown : (name : List ℕ) (q : List ℕ) (o : Option HeldArtifact) (b : Bool) → is_same name q ≡ false → place_as b (option_map (published name q) o) ≡ place_as b o
  shown name q None b e = refl
  shown name q (Some a) b e = ap (λ (s : Bool). place_as b (Some (if s then record a { private = false } else a))) e

  open_still : (name q : List ℕ) (a : HeldArtifact) (b : Bool) → a.private ≡ false → place_as b (Some (published name q a)) ≡ place_as b (Some a)
  open_still name q a b open_ =
      elim (is_same name q) as (λ s. place_as b (Some (if s then record a { private = false } else a)) ≡ place_as b (Some a)) [
        | true ↦ ap (λ (p : Bool). cond (is_kind b p) (Some a.place) None) (sym open_)
        | false ↦ refl
      ]

  module _ (name : List ℕ) (new : List (List ℕ × HeldArtifact)) (after : Order) (now : (q : List ℕ) → held_at new q ≡ option_map (published name q) (held_at es q)) where
    nowhere : held_at es name ≡ None → (b : Bool) (q : List ℕ) → place_as b (held_at new q) ≡ place_as b (held_at es q)
    nowhere none b q =
        ap (place_as b) (now q)
        ∙ elim (is_same name q) as (λ s. is_same name q ≡ s → place_as b (option_map (published name q) (held_at es q)) ≡ place_as b (held_at es q)) [
          | true ↦ λ s.
              let gone_ : held_at es q ≡ None = subst (λ (x : List ℕ). held_at es x ≡ None) (is_same-means name q s) none in
              ap (λ (o : Option HeldArtifact). place_as b (option_map (published name q) o)) gone_ ∙ sym (ap (place_as b) gone_)
          | false ↦ λ s. shown name q (held_at es q) b s
        ] refl

    open_already : (a : HeldArtifact) → held_at es name ≡ Some a → a.private ≡ false → (b : Bool) (q : List ℕ) → place_as b (held_at new q) ≡ place_as b (held_at es q)
    open_already a some open_ b q =
        ap (place_as b) (now q)
        ∙ elim (is_same name q) as (λ s. is_same name q ≡ s → place_as b (option_map (published name q) (held_at es q)) ≡ place_as b (held_at es q)) [
          | true ↦ λ s.
              let it : held_at es q ≡ Some a = subst (λ (x : List ℕ). held_at es x ≡ Some a) (is_same-means name q s) some in
              ap (λ (o : Option HeldArtifact). place_as b (option_map (published name q) o)) it ∙ open_still name q a b open_ ∙ sym (ap (place_as b) it)
          | false ↦ λ s. shown name q (held_at es q) b s
        ] refl

    module _ (a : HeldArtifact) (some : held_at es name ≡ Some a) (closed : a.private ≡ true) where
      -- between, the name is nowhere
      abbrev between_places : Placing
      between_places b q = cond (is_same name q) None (place_as b (held_at es q))

      abbrev between_names : Naming
      between_names b n = cond (is_kind b true && is_place a.place n) None (name_in b order n)

      private_place : (b : Bool) → place_as b (held_at es name) ≡ cond (is_kind b true) (Some a.place) None
      private_place b = ap (place_as b) some ∙ ap (λ (p : Bool). cond (is_kind b p) (Some a.place) None) closed

      between : Fits between_places between_names
      between = goes (places_of es) between_places (names_of order) between_names true a.place name fits private_place (λ b q. refl) (λ b n. refl)

      no_public : (q : List ℕ) → place_as false (held_at es q) ≡ Some a.place → ⊥
      no_public q e =
          let it = place_some (held_at es q) false a.place e in
          let same : name ≡ q = one_name name q a it.0 some it.1 (sym it.3) in
          let two : a ≡ it.0 = inside (sym some ∙ ap (held_at es) same ∙ it.1) in
          no (sym (ap (λ (x : HeldArtifact). not x.private) two ∙ it.2) ∙ ap not closed)
        where
          inside : {x y : HeldArtifact} → Some x ≡ Some y → x ≡ y
          inside e = cc

          no : true ≡ false → ⊥
          no e = cc

      free : (b : Bool) → between_names b a.place ≡ None
      free true = ap (λ (t : Bool). cond t None (name_in true order a.place)) (place-itself a.place)
      free false = nothing-there (places_of es) (names_of order) fits false a.place no_public

      absent : (b : Bool) → between_places b name ≡ None
      absent b = ap (λ (s : Bool). cond s None (place_as b (held_at es name))) (same-itself name)

      open_there : (q : List ℕ) (b : Bool) → is_same name q ≡ true → place_as b (option_map (published name q) (held_at es q)) ≡ cond (is_kind b false) (Some a.place) None
      open_there q b s =
          let it : held_at es q ≡ Some a = subst (λ (x : List ℕ). held_at es x ≡ Some a) (is_same-means name q s) some in
          ap (λ (o : Option HeldArtifact). place_as b (option_map (published name q) o)) it
          ∙ ap (λ (t : Bool). place_as b (Some (if t then record a { private = false } else a))) s

      new_places : (b : Bool) (q : List ℕ) → place_as b (held_at new q) ≡ cond (is_same name q) (cond (is_kind b false) (Some a.place) None) (between_places b q)
      new_places b q =
          ap (place_as b) (now q)
          ∙ elim (is_same name q) as (λ s. is_same name q ≡ s → place_as b (option_map (published name q) (held_at es q)) ≡ cond s (cond (is_kind b false) (Some a.place) None) (cond s None (place_as b (held_at es q)))) [
            | true ↦ λ s. open_there q b s
            | false ↦ λ s. shown name q (held_at es q) b s
          ] refl

      moved : (b t : Bool) (o : Option (List ℕ)) → cond t (if b then None else Some name) o ≡ cond (is_kind b false && t) (Some name) (cond (is_kind b true && t) None o)
      moved true true o = refl
      moved true false o = refl
      moved false true o = refl
      moved false false o = refl

      pub ordered-open : ((b : Bool) (n : ℕ) → name_in b after n ≡ revealed name (Some a) b n (name_in b order n)) → IsOrdered new after
      ordered-open names =
          comes between_places (places_of new) between_names (names_of after) false a.place name between absent free new_places
          (λ b n. names b n ∙ ap (λ (p : Bool). cond (p && is_place a.place n) (if b then None else Some name) (name_in b order n)) closed ∙ moved b (is_place a.place n) (name_in b order n))

    pub ordered-publish : ((b : Bool) (n : ℕ) → name_in b after n ≡ revealed name (held_at es name) b n (name_in b order n)) → IsOrdered new after
    ordered-publish names =
        elim (held_at es name) as (λ o. held_at es name ≡ o → ((b : Bool) (n : ℕ) → name_in b after n ≡ revealed name o b n (name_in b order n)) → IsOrdered new after) [
          | None ↦ λ none names. alike (places_of es) (places_of new) (names_of order) (names_of after) (nowhere none) names fits
          | Some a ↦ λ some names.
              elim a.private as (λ p. a.private ≡ p → IsOrdered new after) [
                | true ↦ λ closed. ordered-open a some closed names
                | false ↦ λ open_. alike (places_of es) (places_of new) (names_of order) (names_of after) (open_already a some open_)
                    (λ b n. names b n ∙ ap (λ (p : Bool). cond (p && is_place a.place n) (if b then None else Some name) (name_in b order n)) open_) fits
              ] refl
        ] refl names

-- ---- the first record

pub ordered-first : (es : List (List ℕ × HeldArtifact)) (order : Order) → es ≡ [] → order.public.entries ≡ [] → order.private.entries ≡ [] → IsOrdered es order
ordered-first es order none open_ closed = record {
  there = λ b q n e. absurd (nowhere n (place_as b (held_at es q)) (ap (λ (m : List (List ℕ × HeldArtifact)). place_as b (held_at m q)) none) e);
  only = λ b q n e. absurd (nobody q (name_in b order n) (ap (λ (ps : List (ℕ × List ℕ)). name_at ps n) (empty b)) e);
}
  where
    nowhere : (n : ℕ) (o : Option ℕ) → o ≡ None → o ≡ Some n → ⊥
    nowhere n o is e = cc

    nobody : (q : List ℕ) (o : Option (List ℕ)) → o ≡ None → o ≡ Some q → ⊥
    nobody q o is e = cc

    empty : (b : Bool) → names_in b order ≡ []
    empty true = closed
    empty false = open_
