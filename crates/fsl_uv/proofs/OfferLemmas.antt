-- The first offers of a message, one card more, and the answers to them.
use Rattle.std.proofs.Common.{◌≡◌, ℕ, Bool, true, false, cond, List, [], ◌∷◌, ◌++◌, map, Option, Some, None, Result, Ok, Err, refl, sym, ap, subst, ◌∙◌, if◌then◌else◌, append_assoc}
use Rattle.std.specs.Prelude.{is_some, ◌||◌, option_map, flat_map, OnOk, IfOk}
use Rattle.std.specs.List.Sorted.{IsStrictlySortedBy}
use Rattle.std.specs.Map.{keys_of}
use Rattle.std.specs.Ordering.{is_eq}
use Rattle.std.specs.BTreeMap.{insert_entry}
use Rattle.std.specs.Str.{bytes_eq}
use Rattle.std.specs.Cmp.Lexicographic.{texts_ties, bytes_decides}
use Rattle.std.proofs.lemmas.List.Folds.{list_any-append}
use Rattle.fsl_order.specs.Names.{bytes_cmp, has}
use Rattle.fsl_order.specs.Rows.{ascending}
use Rattle.fsl_order.specs.Maps.{value_at}
use Rattle.fsl_order.proofs.Orders.{bytes_cmp-IsTotalOrder, bytes_cmp-IsAntisymmetric}
use Rattle.fsl_order.proofs.AscendingLemmas.{has-ascending}
use Rattle.fsl_table.proofs.Entries.{lookup-insert_entry, sorted-insert_entry}
use Rattle.std.proofs.lemmas.List.{append-nil}
use Rattle.fsl_table.proofs.Finding.{same_found}
use Rattle.fsl_uv.specs.declared.Card.{Card}
use Rattle.fsl_uv.specs.declared.Card.TheVariants.{Igot, Gimme, File}
use Rattle.fsl_uv.specs.declared.messages.Offer.{Offer}
use Rattle.fsl_uv.specs.Entries.{Version}
use Rattle.fsl_uv.specs.Cards.{hashed, card_text, message_text}
use Rattle.fsl_uv.specs.Syncing.{offer_at, offered_paths, answer_at, answered}
use Rattle.fsl_uv.specs.Reading.{offer_seen, has_offer, offers_seen, first_offers, answer_for}
use Rattle.fsl_uv.proofs.Mapped.{ascending-sorted}

abbrev Stamp : Type 0
Stamp = ℕ × List ℕ

abbrev Offers : Type 0
Offers = List (List ℕ × Option Offer)

-- ---- what an answer that is Ok gives

pub ok-then : {A B : Type 0} (r : Result A B) (P Q : Type 0) → (P → Q) → OnOk r P → OnOk r Q
ok-then (Ok x) P Q f p = f p
ok-then (Err y) P Q f p = tt

pub if-ok-then : {A B : Type 0} (r : Result A B) (P Q : A → Type 0) → ((x : A) → P x → Q x) → IfOk r P → IfOk r Q
if-ok-then (Ok x) P Q f p = f x p
if-ok-then (Err y) P Q f p = tt

-- ---- paths beside what they have

abbrev paired : (List ℕ → Option Stamp) → List (List ℕ) → List (List ℕ × Option Stamp)
paired f paths = map (λ path. (path, f path)) paths

keys-paired : (f : List ℕ → Option Stamp) (paths : List (List ℕ)) → keys_of (paired f paths) ≡ paths
keys-paired f [] = refl
keys-paired f (p ∷ paths) = ap (λ (ks : List (List ℕ)). p ∷ ks) (keys-paired f paths)

value-paired : (f : List ℕ → Option Stamp) (paths : List (List ℕ)) (q : List ℕ) → value_at (paired f paths) q ≡ cond (has paths q) (Some (f q)) None
value-paired f [] q = refl
value-paired f (p ∷ paths) q =
    ap (λ b. cond b (Some (f p)) (value_at (paired f paths) q)) (sym (texts_ties q p))
    ∙ elim (bytes_eq q p) as (λ b. bytes_eq q p ≡ b → cond b (Some (f p)) (value_at (paired f paths) q) ≡ cond (b || has paths q) (Some (f q)) None) [
      | true ↦ λ e. ap (λ x. Some (f x)) (sym ((bytes_decides q p).0 e))
      | false ↦ λ e. value-paired f paths q
    ] refl

keys-seen : (os : Offers) → keys_of (offers_seen os) ≡ keys_of os
keys-seen [] = refl
keys-seen (e ∷ os) = ap (λ (ks : List (List ℕ)). e.0 ∷ ks) (keys-seen os)

value-seen : (os : Offers) (q : List ℕ) → value_at (offers_seen os) q ≡ option_map offer_seen (value_at os q)
value-seen [] q = refl
value-seen (e ∷ os) q =
    elim (is_eq (bytes_cmp q e.0)) as (λ b. cond b (Some (offer_seen e.1)) (value_at (offers_seen os) q) ≡ option_map offer_seen (cond b (Some e.1) (value_at os q))) [
      | true ↦ refl
      | false ↦ value-seen os q
    ]

-- ---- the first offer of a path

abbrev or_else : Option Stamp → Option Stamp → Option Stamp
or_else None b = b
or_else (Some x) b = Some x

or-none : (a : Option Stamp) → or_else a None ≡ a
or-none None = refl
or-none (Some x) = refl

or-first : (a b : Option Stamp) → is_some a ≡ true → or_else a b ≡ a
or-first None b h = absurd cc
or-first (Some x) b h = refl

or-second : (a b : Option Stamp) → is_some a ≡ false → or_else a b ≡ b
or-second None b h = refl
or-second (Some x) b h = absurd cc

offer-append : (cards more : List Card) (q : List ℕ) → offer_at (cards ++ more) q ≡ or_else (offer_at cards q) (offer_at more q)
offer-append [] more q = refl
offer-append (Igot other moment hash size ∷ cards) more q =
    elim (bytes_eq q other) as (λ b. (if b then Some (moment, hashed hash) else offer_at (cards ++ more) q) ≡ or_else (if b then Some (moment, hashed hash) else offer_at cards q) (offer_at more q)) [
      | true ↦ refl
      | false ↦ offer-append cards more q
    ]
offer-append (Gimme path ∷ cards) more q = offer-append cards more q
offer-append (File e ∷ cards) more q = offer-append cards more q

is-offered : (cards : List Card) (q : List ℕ) → has (offered_paths cards) q ≡ is_some (offer_at cards q)
is-offered [] q = refl
is-offered (Igot other moment hash size ∷ cards) q =
    elim (bytes_eq q other) as (λ b. (b || has (offered_paths cards) q) ≡ is_some (if b then Some (moment, hashed hash) else offer_at cards q)) [
      | true ↦ refl
      | false ↦ is-offered cards q
    ]
is-offered (Gimme path ∷ cards) q = is-offered cards q
is-offered (File e ∷ cards) q = is-offered cards q

-- a card that isn't an offer offers nothing
pub no-offer : (c : Card) → ((path : List ℕ) (moment : ℕ) (hash : Option (List ℕ)) (size : ℕ) → c ≡ Igot path moment hash size → ⊥) → (q : List ℕ) → offer_at (c ∷ []) q ≡ None
no-offer (Igot path moment hash size) not q = absurd (not path moment hash size refl)
no-offer (Gimme path) not q = refl
no-offer (File e) not q = refl

-- what a path has among the first offers, by whether it is one of the paths and by its offer
abbrev noted : Bool → Option Stamp → Option (Option Stamp)
noted here offer = cond (here || is_some offer) (Some offer) None

abbrev inner : Option (Option Stamp) → Bool
inner None = false
inner (Some o) = is_some o

first-at : (paths : List (List ℕ)) (cards : List Card) (q : List ℕ) → value_at (first_offers paths cards) q ≡ noted (has paths q) (offer_at cards q)
first-at paths cards q =
    value-paired (offer_at cards) (ascending (paths ++ offered_paths cards)) q
    ∙ ap (λ b. cond b (Some (offer_at cards q)) None)
    (has-ascending (paths ++ offered_paths cards) q ∙ list_any-append (λ p. bytes_eq q p) paths (offered_paths cards) ∙ ap (λ b. has paths q || b) (is-offered cards q))

first-sorted : (paths : List (List ℕ)) (cards : List Card) → IsStrictlySortedBy bytes_cmp (keys_of (first_offers paths cards))
first-sorted paths cards =
    subst (IsStrictlySortedBy bytes_cmp) (sym (keys-paired (offer_at cards) (ascending (paths ++ offered_paths cards)))) (ascending-sorted (paths ++ offered_paths cards))

-- offers are the first ones where they are so path by path
same-offers : (os : Offers) (paths : List (List ℕ)) (cards : List Card) → IsStrictlySortedBy bytes_cmp (keys_of os) → ((q : List ℕ) → option_map offer_seen (value_at os q) ≡ noted (has paths q) (offer_at cards q))
    → offers_seen os ≡ first_offers paths cards
same-offers os paths cards up h =
    same_found bytes_cmp bytes_cmp-IsTotalOrder bytes_cmp-IsAntisymmetric (offers_seen os) (first_offers paths cards) (subst (IsStrictlySortedBy bytes_cmp) (sym (keys-seen os)) up) (first-sorted paths cards)
    (λ q. value-seen os q ∙ h q ∙ sym (first-at paths cards q))

module _ (os : Offers) (paths : List (List ℕ)) (cards : List Card) (h : offers_seen os ≡ first_offers paths cards) where
  at : (q : List ℕ) → option_map offer_seen (value_at os q) ≡ noted (has paths q) (offer_at cards q)
  at q = sym (value-seen os q) ∙ ap (λ (m : List (List ℕ × Option Stamp)). value_at m q) h ∙ first-at paths cards q

  sorted : IsStrictlySortedBy bytes_cmp (keys_of os)
  sorted = subst (IsStrictlySortedBy bytes_cmp) (sym (ap (λ (m : List (List ℕ × Option Stamp)). keys_of m) h) ∙ keys-seen os) (first-sorted paths cards)

  -- whether a path is noted with an offer
  offered-here : (q : List ℕ) → has_offer (value_at os q) ≡ is_some (offer_at cards q)
  offered-here q = left (value_at os q) ∙ ap inner (at q) ∙ right (has paths q) (offer_at cards q)
    where
      left : (v : Option (Option Offer)) → has_offer v ≡ inner (option_map offer_seen v)
      left None = refl
      left (Some None) = refl
      left (Some (Some o)) = refl

      right : (b : Bool) (o : Option Stamp) → inner (noted b o) ≡ is_some o
      right true None = refl
      right false None = refl
      right true (Some x) = refl
      right false (Some x) = refl

  -- a card that isn't an offer
  pub unnoted : (c : Card) → ((q : List ℕ) → offer_at (c ∷ []) q ≡ None) → offers_seen os ≡ first_offers paths (cards ++ c ∷ [])
  unnoted c none =
      same-offers os paths (cards ++ c ∷ []) sorted
      (λ q. at q ∙ ap (noted (has paths q)) (sym (offer-append cards (c ∷ []) q ∙ ap (or_else (offer_at cards q)) (none q) ∙ or-none (offer_at cards q))))

  module _ (path : List ℕ) (moment : ℕ) (hash : Option (List ℕ)) (size : ℕ) where
    -- an offer of a path that has one already
    pub noted-before : has_offer (value_at os path) ≡ true → offers_seen os ≡ first_offers paths (cards ++ Igot path moment hash size ∷ [])
    noted-before before =
        same-offers os paths (cards ++ Igot path moment hash size ∷ []) sorted
        (λ q. at q ∙ ap (noted (has paths q)) (sym (offer-append cards (Igot path moment hash size ∷ []) q ∙ by q (bytes_eq q path) refl)))
      where
        by : (q : List ℕ) (b : Bool) → bytes_eq q path ≡ b → or_else (offer_at cards q) (if b then Some (moment, hashed hash) else None) ≡ offer_at cards q
        by q true e = or-first (offer_at cards q) (Some (moment, hashed hash)) (ap (λ p. is_some (offer_at cards p)) ((bytes_decides q path).0 e) ∙ sym (offered-here path) ∙ before)
        by q false e = or-none (offer_at cards q)

    -- the first offer of a path
    pub noted-first : has_offer (value_at os path) ≡ false → offers_seen (insert_entry bytes_cmp os path (Some (record { moment = moment; hash = hash }))) ≡ first_offers paths (cards ++ Igot path moment hash size ∷ [])
    noted-first new =
        same-offers (insert_entry bytes_cmp os path (Some o)) paths (cards ++ Igot path moment hash size ∷ []) (sorted-insert_entry bytes_cmp-IsTotalOrder path (Some o) os sorted)
        (λ q. ap (option_map offer_seen) (lookup-insert_entry bytes_cmp-IsTotalOrder q path (Some o) os ∙ ap (λ b. cond b (Some (Some o)) (value_at os q)) (sym (texts_ties q path)))
        ∙ by q (bytes_eq q path) refl ∙ ap (noted (has paths q)) (sym (offer-append cards (Igot path moment hash size ∷ []) q)))
      where
        o : Offer
        o = record { moment = moment; hash = hash }

        some : (b : Bool) (x : Stamp) → Some (Some x) ≡ noted b (Some x)
        some true x = refl
        some false x = refl

        by : (q : List ℕ) (b : Bool) → bytes_eq q path ≡ b → option_map offer_seen (cond b (Some (Some o)) (value_at os q)) ≡ noted (has paths q) (or_else (offer_at cards q) (if b then Some (moment, hashed hash) else None))
        by q true e =
            some (has paths q) (moment, hashed hash)
            ∙ ap (noted (has paths q)) (sym (or-second (offer_at cards q) (Some (moment, hashed hash)) (ap (λ p. is_some (offer_at cards p)) ((bytes_decides q path).0 e) ∙ sym (offered-here path) ∙ new)))
        by q false e = at q ∙ ap (noted (has paths q)) (sym (or-none (offer_at cards q)))

  -- a path more, without an offer
  pub path-more : (p : List ℕ) → cards ≡ [] → offers_seen (insert_entry bytes_cmp os p None) ≡ first_offers (paths ++ p ∷ []) []
  path-more p none =
      same-offers (insert_entry bytes_cmp os p None) (paths ++ p ∷ []) [] (sorted-insert_entry bytes_cmp-IsTotalOrder p None os sorted)
      (λ q. ap (option_map offer_seen) (lookup-insert_entry bytes_cmp-IsTotalOrder q p None os ∙ ap (λ b. cond b (Some None) (value_at os q)) (sym (texts_ties q p)))
      ∙ by q (bytes_eq q p) ∙ ap (λ b. noted b None) (sym (list_any-append (λ x. bytes_eq q x) paths (p ∷ []))))
    where
      one : (here : Bool) → Some None ≡ noted (here || (true || false)) None
      one true = refl
      one false = refl

      none-here : (here : Bool) → noted here None ≡ noted (here || (false || false)) None
      none-here true = refl
      none-here false = refl

      by : (q : List ℕ) (b : Bool) → option_map offer_seen (cond b (Some None) (value_at os q)) ≡ noted (has paths q || (b || false)) None
      by q true = one (has paths q)
      by q false = at q ∙ ap (λ (cs : List Card). noted (has paths q) (offer_at cs q)) none ∙ none-here (has paths q)

-- no paths and no offers
pub no-offers : offers_seen [] ≡ first_offers [] []
no-offers = refl

module _ {Y X : Type 0} (shows : Y → List ℕ × X) where
  keys-more : (ys : List Y) (y : Y) → keys_of (map shows (ys ++ y ∷ [])) ≡ keys_of (map shows ys) ++ (shows y).0 ∷ []
  keys-more [] y = refl
  keys-more (x ∷ ys) y = ap (λ (ks : List (List ℕ)). (shows x).0 ∷ ks) (keys-more ys y)

  pub paths-more : (ys : List Y) (y : Y) (os new : Offers) → offers_seen os ≡ first_offers (keys_of (map shows ys)) [] → new ≡ insert_entry bytes_cmp os (shows y).0 None
      → offers_seen new ≡ first_offers (keys_of (map shows (ys ++ y ∷ []))) []
  paths-more ys y os new h is =
      ap offers_seen is ∙ path-more os (keys_of (map shows ys)) [] h (shows y).0 refl ∙ ap (λ (ks : List (List ℕ)). first_offers ks []) (sym (keys-more ys y))

-- ---- the answers

message-append : (a b : List Card) → message_text (a ++ b) ≡ message_text a ++ message_text b
message-append [] b = refl
message-append (c ∷ a) b = ap (λ (t : List ℕ). card_text c ++ t) (message-append a b) ∙ sym (append_assoc (card_text c) (message_text a) (message_text b))

abbrev Map : Type 0
Map = List (List ℕ × Version)

module _ (m : Map) where
  module _ {Y : Type 0} (shows : Y → List ℕ × Option Offer) where
    flat-more : (ys : List Y) (y : Y) → flat_map (answer_for m) (map shows (ys ++ y ∷ [])) ≡ flat_map (answer_for m) (map shows ys) ++ answer_for m (shows y)
    flat-more [] y = append-nil (answer_for m (shows y))
    flat-more (x ∷ ys) y =
        ap (λ (cs : List Card). answer_for m (shows x) ++ cs) (flat-more ys y)
        ∙ sym (append_assoc (answer_for m (shows x)) (flat_map (answer_for m) (map shows ys)) (answer_for m (shows y)))

    pub answers-more : (ys : List Y) (y : Y) (text new : List ℕ) → text ≡ message_text (flat_map (answer_for m) (map shows ys)) → new ≡ text ++ message_text (answer_for m (shows y))
        → new ≡ message_text (flat_map (answer_for m) (map shows (ys ++ y ∷ [])))
    answers-more ys y text new h is =
        is ∙ ap (λ t. t ++ message_text (answer_for m (shows y))) h
        ∙ sym (message-append (flat_map (answer_for m) (map shows ys)) (answer_for m (shows y)))
        ∙ ap message_text (sym (flat-more ys y))

  abbrev by_pair : List ℕ × Option Stamp → List Card
  by_pair e = answer_at e.0 (value_at m e.0) e.1

  flat-seen : (os : Offers) → flat_map (answer_for m) os ≡ flat_map by_pair (offers_seen os)
  flat-seen [] = refl
  flat-seen (e ∷ os) = ap (λ (cs : List Card). answer_for m e ++ cs) (flat-seen os)

  flat-paired : (f : List ℕ → Option Stamp) (paths : List (List ℕ)) → flat_map by_pair (paired f paths) ≡ flat_map (λ path. answer_at path (value_at m path) (f path)) paths
  flat-paired f [] = refl
  flat-paired f (p ∷ paths) = ap (λ (cs : List Card). answer_at p (value_at m p) (f p) ++ cs) (flat-paired f paths)

  pub all-answered : (os : Offers) (cards : List Card) → offers_seen os ≡ first_offers (keys_of m) cards → flat_map (answer_for m) os ≡ answered m cards
  all-answered os cards h = flat-seen os ∙ ap (λ (es : List (List ℕ × Option Stamp)). flat_map by_pair es) h ∙ flat-paired (offer_at cards) (ascending (keys_of m ++ offered_paths cards))
