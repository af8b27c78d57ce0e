-- The laws of a sync.
use Rattle.std.specs.Prelude.{◌≡◌, ◌||◌, ℕ, List, [], ◌∷◌, ◌++◌, Bool, true, false, cond, Option, Some, None, map, flat_map, option_map}
use Rattle.std.proofs.Common.{refl, sym, ap, ◌∙◌, append_assoc}
use Rattle.std.specs.declared.cmp.Ordering.{Ordering}
use Rattle.std.specs.declared.cmp.Ordering.TheVariants.{Less, Equal, Greater}
use Rattle.std.specs.Ordering.{is_lt, is_eq, match_ordering, ordering_then, ordering_reverse}
use Rattle.std.specs.List.{AllByRecursion, filter}
use Rattle.std.specs.Map.{keys_of}
use Rattle.std.specs.Str.{bytes_eq}
use Rattle.std.specs.Cmp.Lexicographic.{texts_ties, bytes_decides}
use Rattle.std.proofs.lemmas.List.Folds.{list_any-append}
use Rattle.fsl_order.specs.Names.{bytes_cmp, has, dated_cmp}
use Rattle.fsl_order.specs.Rows.{ascending, greatest}
use Rattle.fsl_order.specs.Maps.{value_at}
use Rattle.fsl_order.proofs.AscendingLemmas.{has-ascending}
use Rattle.fsl_order.proofs.Orders.{dated_cmp-IsTotalOrder}
use Rattle.fsl_order.proofs.Booleans.{or_true}
use Rattle.std.specs.Cmp.{tied_itself}
use Rattle.fsl_name.specs.Name.{name_of}
use Rattle.fsl_uv.specs.declared.Entry.{Entry}
use Rattle.fsl_uv.specs.declared.Card.{Card}
use Rattle.fsl_uv.specs.declared.Card.TheVariants.{Igot, Gimme, File}
use Rattle.fsl_uv.specs.Entries.{Version, version_of, hash_text, content}
use Rattle.fsl_uv.specs.Maps.{stamp_of, stamp_cmp, version_cmp, newest, uv, greater_at, merge, is_over}
use Rattle.fsl_uv.specs.Cards.{hashed}
use Rattle.fsl_uv.specs.Syncing.{offered, offer_at, offered_paths, entry_of, file_of, answer_at, file_at, given_for, given, files, peer_answer, synced_here, synced_there, AgreeAt}
use Rattle.fsl_uv.specs.Laws.{Agree, SyncMergesAt, SyncMerges}
use Rattle.fsl_uv.proofs.Merging.{value-uv, value-merge, rises-merge, only-merge, most, most-same, newest-append, merges_in_any_order}

abbrev Map : Type 0
Map = List (List ℕ × Version)

-- ---- files of flattened cards

files-append : (a b : List Card) → files (a ++ b) ≡ files a ++ files b
files-append [] b = refl
files-append (File e ∷ a) b = ap (λ (es : List Entry). e ∷ es) (files-append a b)
files-append (Igot path moment hash size ∷ a) b = files-append a b
files-append (Gimme path ∷ a) b = files-append a b

files-flat : (g : List ℕ → List Card) (paths : List (List ℕ)) → files (flat_map g paths) ≡ flat_map (λ p. files (g p)) paths
files-flat g [] = refl
files-flat g (p ∷ paths) = files-append (g p) (flat_map g paths) ∙ ap (λ (es : List Entry). files (g p) ++ es) (files-flat g paths)

given-append : (u : Map) (a b : List Card) → given u (a ++ b) ≡ given u a ++ given u b
given-append u [] b = refl
given-append u (c ∷ a) b = ap (λ (cs : List Card). given_for u c ++ cs) (given-append u a b) ∙ sym (append_assoc (given_for u c) (given u a) (given u b))

pub given-flat : (u : Map) (g : List ℕ → List Card) (paths : List (List ℕ)) → given u (flat_map g paths) ≡ flat_map (λ p. given u (g p)) paths
given-flat u g [] = refl
given-flat u g (p ∷ paths) = given-append u (g p) (flat_map g paths) ∙ ap (λ (cs : List Card). given u (g p) ++ cs) (given-flat u g paths)

-- ---- entries that each path has for itself

abbrev OfPath : List ℕ → List Entry → Type 0
OfPath p es = AllByRecursion (λ (e : Entry). e.path ≡ p) es

none-other : (p q : List ℕ) (es : List Entry) → OfPath p es → bytes_eq q p ≡ false → newest es q ≡ None
none-other p q es all other = ap (λ (fs : List Entry). greatest version_cmp (map version_of fs)) (empty es all)
  where
    empty : (es : List Entry) → OfPath p es → filter (λ (e : Entry). bytes_eq q e.path) es ≡ []
    empty [] all = refl
    empty (e ∷ es) all = ap (λ b. cond b (e ∷ filter (λ (e : Entry). bytes_eq q e.path) es) (filter (λ (e : Entry). bytes_eq q e.path) es)) (ap (bytes_eq q) all.0 ∙ other) ∙ empty es all.1

most-cond : (b : Bool) (o : Option Version) → most o (cond b o None) ≡ o
most-cond true o = most-same o
most-cond false None = refl
most-cond false (Some v) = refl

newest-flat : (g : List ℕ → List Entry) → ((p : List ℕ) → OfPath p (g p)) → (paths : List (List ℕ)) (q : List ℕ) → newest (flat_map g paths) q ≡ cond (has paths q) (newest (g q) q) None
newest-flat g own [] q = refl
newest-flat g own (p ∷ paths) q =
    newest-append (g p) (flat_map g paths) q
    ∙ ap (most (newest (g p) q)) (newest-flat g own paths q)
    ∙ elim (bytes_eq q p) as (λ b. bytes_eq q p ≡ b → most (newest (g p) q) (cond (has paths q) (newest (g q) q) None) ≡ cond (b || has paths q) (newest (g q) q) None) [
      | true ↦ λ e. let same : p ≡ q = sym ((bytes_decides q p).0 e) in ap (λ r. most (newest (g r) q) (cond (has paths q) (newest (g q) q) None)) same ∙ most-cond (has paths q) (newest (g q) q)
      | false ↦ λ e. ap (λ o. most o (cond (has paths q) (newest (g q) q) None)) (none-other p q (g p) (own p) e)
    ] refl

-- ---- an offer

hash-same : (b : Option (List ℕ)) → hashed (option_map name_of b) ≡ hash_text b
hash-same None = refl
hash-same (Some b) = refl

offer-offered : (u : Map) (q : List ℕ) → offer_at (offered u) q ≡ option_map stamp_of (value_at u q)
offer-offered [] q = refl
offer-offered (e ∷ u) q =
    (λ i. cond (texts_ties q e.0 i) (Some (e.1.moment, hash-same e.1.bytes i)) (offer-offered u q i))
    ∙ elim (is_eq (bytes_cmp q e.0)) as (λ b. cond b (Some (stamp_of e.1)) (option_map stamp_of (value_at u q)) ≡ option_map stamp_of (cond b (Some e.1) (value_at u q))) [ true ↦ refl | false ↦ refl ]

pub paths-offered : (u : Map) → offered_paths (offered u) ≡ keys_of u
paths-offered [] = refl
paths-offered (e ∷ u) = ap (λ ps. e.0 ∷ ps) (paths-offered u)

-- ---- one path

newest-one : (q : List ℕ) (y : Version) → newest (entry_of q y ∷ []) q ≡ Some y
newest-one q y = ap (λ b. greatest version_cmp (map version_of (cond b (entry_of q y ∷ []) []))) ((bytes_decides q q).1 refl)

abbrev Same : Option Version → Option Version → Type 0
Same a b = (x y : Version) → a ≡ Some x → b ≡ Some y → stamp_cmp x y ≡ Equal → x ≡ y

-- the newest file in what is answered for a path
abbrev sent : List ℕ → Option Version → Option (ℕ × List ℕ) → Option Version
sent q b offer = newest (files (answer_at q b offer)) q

back : (x y : Version) (r : Ordering) → stamp_cmp x y ≡ r → dated_cmp (stamp_of y) (stamp_of x) ≡ ordering_reverse r
back x y r h = dated_cmp-IsTotalOrder.antisymm (stamp_of y) (stamp_of x) ∙ ap ordering_reverse h

either : (b : Bool) (x y : Version) → x ≡ y → Some x ≡ Some (cond b y x)
either true x y e = ap Some e
either false x y e = refl

by_stamp : (x y : Version) (r : Ordering) → stamp_cmp x y ≡ r → is_lt (version_cmp x y) ≡ is_lt (ordering_then r (bytes_cmp (content x.bytes) (content y.bytes)))
by_stamp x y r h = ap (λ s. is_lt (ordering_then s (bytes_cmp (content x.bytes) (content y.bytes)))) h

here-at : (q : List ℕ) (a b : Option Version) → Same a b → most a (sent q b (option_map stamp_of a)) ≡ most a b
here-at q None None same = refl
here-at q None (Some y) same = newest-one q y
here-at q (Some x) None same = refl
here-at q (Some x) (Some y) same = by (stamp_cmp x y) refl
  where
    found : (r : Ordering) → stamp_cmp x y ≡ r → sent q (Some y) (Some (stamp_of x)) ≡ newest (files (match_ordering (ordering_reverse r) (Gimme q ∷ []) [] (file_of q y ∷ []))) q
    found r h = ap (λ s. newest (files (match_ordering s (Gimme q ∷ []) [] (file_of q y ∷ []))) q) (back x y r h)

    by : (r : Ordering) → stamp_cmp x y ≡ r → most (Some x) (sent q (Some y) (Some (stamp_of x))) ≡ most (Some x) (Some y)
    by Less h = ap (most (Some x)) (found Less h ∙ newest-one q y)
    by Equal h = ap (most (Some x)) (found Equal h) ∙ either (is_lt (version_cmp x y)) x y (same x y refl refl h)
    by Greater h = ap (most (Some x)) (found Greater h) ∙ ap (λ t. Some (cond t y x)) (sym (by_stamp x y Greater h))

-- the newest file in what is given for the answer
abbrev returned : Map → List ℕ → Option Version → Option (ℕ × List ℕ) → Option Version
returned u q b offer = newest (files (given u (answer_at q b offer))) q

asked : (q : List ℕ) (a : Option Version) → newest (files (file_at q a ++ [])) q ≡ a
asked q None = refl
asked q (Some x) = newest-one q x

there-at : (u : Map) (q : List ℕ) (a b : Option Version) → value_at u q ≡ a → Same a b → most b (returned u q b (option_map stamp_of a)) ≡ most a b
there-at u q None None is same = refl
there-at u q None (Some y) is same = refl
there-at u q (Some x) None is same = ap (λ o. newest (files (file_at q o ++ [])) q) is ∙ asked q (Some x)
there-at u q (Some x) (Some y) is same = by (stamp_cmp x y) refl
  where
    found : (r : Ordering) → stamp_cmp x y ≡ r → returned u q (Some y) (Some (stamp_of x)) ≡ newest (files (given u (match_ordering (ordering_reverse r) (Gimme q ∷ []) [] (file_of q y ∷ [])))) q
    found r h = ap (λ s. newest (files (given u (match_ordering s (Gimme q ∷ []) [] (file_of q y ∷ [])))) q) (back x y r h)

    by : (r : Ordering) → stamp_cmp x y ≡ r → most (Some y) (returned u q (Some y) (Some (stamp_of x))) ≡ most (Some x) (Some y)
    by Less h = ap (most (Some y)) (found Less h) ∙ ap (λ t. Some (cond t y x)) (sym (by_stamp x y Less h))
    by Equal h = ap (most (Some y)) (found Equal h) ∙ ap Some (sym (same x y refl refl h)) ∙ either (is_lt (version_cmp x y)) x y (same x y refl refl h)
    by Greater h =
        ap (most (Some y)) (found Greater h ∙ ap (λ o. newest (files (file_at q o ++ [])) q) is ∙ asked q (Some x))
        ∙ ap (λ t. Some (cond t x y)) (by_stamp y x Less (back x y Greater h))
        ∙ ap (λ t. Some (cond t y x)) (sym (by_stamp x y Greater h))

-- ---- all paths

has-key : (m : Map) (q : List ℕ) (x : Version) → value_at m q ≡ Some x → has (keys_of m) q ≡ true
has-key [] q x h = absurd cc
has-key (e ∷ m) q x h =
    elim (bytes_eq q e.0) as (λ b. cond b (Some e.1) (value_at m q) ≡ Some x → (b || has (keys_of m) q) ≡ true) [
      | true ↦ λ k. refl
      | false ↦ λ k. has-key m q x k
    ] (ap (λ b. cond b (Some e.1) (value_at m q)) (texts_ties q e.0) ∙ h)

abbrev pub all_paths : Map → Map → List (List ℕ)
all_paths u v = ascending (keys_of v ++ offered_paths (offered u))

has-paths : (u v : Map) (q : List ℕ) → has (all_paths u v) q ≡ (has (keys_of v) q || has (keys_of u) q)
has-paths u v q =
    has-ascending (keys_of v ++ offered_paths (offered u)) q ∙ list_any-append (bytes_eq q) (keys_of v) (offered_paths (offered u))
    ∙ ap (λ ps. has (keys_of v) q || has ps q) (paths-offered u)

answer-own : (p : List ℕ) (b : Option Version) (offer : Option (ℕ × List ℕ)) → OfPath p (files (answer_at p b offer))
answer-own p None None = tt
answer-own p None (Some s) = tt
answer-own p (Some y) None = (refl, tt)
answer-own p (Some y) (Some s) =
    elim (dated_cmp (stamp_of y) s) as (λ r. OfPath p (files (match_ordering r (Gimme p ∷ []) [] (file_of p y ∷ [])))) [ Less ↦ tt | Equal ↦ tt | Greater ↦ (refl, tt) ]

file-own : (p : List ℕ) (a : Option Version) → OfPath p (files (file_at p a ++ []))
file-own p None = tt
file-own p (Some x) = (refl, tt)

given-own : (u : Map) (p : List ℕ) (b : Option Version) (offer : Option (ℕ × List ℕ)) → OfPath p (files (given u (answer_at p b offer)))
given-own u p None None = tt
given-own u p None (Some s) = file-own p (value_at u p)
given-own u p (Some y) None = tt
given-own u p (Some y) (Some s) =
    elim (dated_cmp (stamp_of y) s) as (λ r. OfPath p (files (given u (match_ordering r (Gimme p ∷ []) [] (file_of p y ∷ []))))) [ Less ↦ file-own p (value_at u p) | Equal ↦ tt | Greater ↦ tt ]

module _ (u v : Map) where
  abbrev pub ans : List ℕ → List Card
  ans p = answer_at p (value_at v p) (offer_at (offered u) p)

  pub sent-is : (q : List ℕ) → newest (files (peer_answer u v)) q ≡ cond (has (all_paths u v) q) (sent q (value_at v q) (offer_at (offered u) q)) None
  sent-is q =
      ap (λ (es : List Entry). newest es q) (files-flat ans (all_paths u v))
      ∙ newest-flat (λ p. files (ans p)) (λ p. answer-own p (value_at v p) (offer_at (offered u) p)) (all_paths u v) q

  returned-is : (q : List ℕ) → newest (files (given u (peer_answer u v))) q ≡ cond (has (all_paths u v) q) (returned u q (value_at v q) (offer_at (offered u) q)) None
  returned-is q =
      ap (λ (cs : List Card). newest (files cs) q) (given-flat u ans (all_paths u v))
      ∙ ap (λ (es : List Entry). newest es q) (files-flat (λ p. given u (ans p)) (all_paths u v))
      ∙ newest-flat (λ p. files (given u (ans p))) (λ p. given-own u p (value_at v p) (offer_at (offered u) p)) (all_paths u v) q

  -- of a path that neither has nothing is sent or returned
  sent-all : (q : List ℕ) (a b : Option Version) → value_at u q ≡ a → value_at v q ≡ b → cond (has (all_paths u v) q) (sent q b (option_map stamp_of a)) None ≡ sent q b (option_map stamp_of a)
  sent-all q None None is has_b = elim (has (all_paths u v) q) as (λ t. cond t (sent q None None) None ≡ sent q None None) [ true ↦ refl | false ↦ refl ]
  sent-all q (Some x) b is has_b = ap (λ t. cond t (sent q b (Some (stamp_of x))) None) (has-paths u v q ∙ ap (λ t. has (keys_of v) q || t) (has-key u q x is) ∙ or_true (has (keys_of v) q))
  sent-all q None (Some y) is has_b = ap (λ t. cond t (sent q (Some y) None) None) (has-paths u v q ∙ ap (λ t. t || has (keys_of u) q) (has-key v q y has_b))

  returned-all : (q : List ℕ) (a b : Option Version) → value_at u q ≡ a → value_at v q ≡ b → cond (has (all_paths u v) q) (returned u q b (option_map stamp_of a)) None ≡ returned u q b (option_map stamp_of a)
  returned-all q None None is has_b = elim (has (all_paths u v) q) as (λ t. cond t (returned u q None None) None ≡ returned u q None None) [ true ↦ refl | false ↦ refl ]
  returned-all q (Some x) b is has_b = ap (λ t. cond t (returned u q b (Some (stamp_of x))) None) (has-paths u v q ∙ ap (λ t. has (keys_of v) q || t) (has-key u q x is) ∙ or_true (has (keys_of v) q))
  returned-all q None (Some y) is has_b = ap (λ t. cond t (returned u q (Some y) None) None) (has-paths u v q ∙ ap (λ t. t || has (keys_of u) q) (has-key v q y has_b))

  value-here : (q : List ℕ) → AgreeAt u v q → value_at (synced_here u v) q ≡ greater_at u v q
  value-here q same =
      value-merge u (uv (files (peer_answer u v))) q ∙ ap (most (value_at u q)) (value-uv (files (peer_answer u v)) q ∙ sent-is q)
      ∙ ap (λ o. most (value_at u q) (cond (has (all_paths u v) q) (sent q (value_at v q) o) None)) (offer-offered u q)
      ∙ ap (most (value_at u q)) (sent-all q (value_at u q) (value_at v q) refl refl)
      ∙ here-at q (value_at u q) (value_at v q) same

  value-there : (q : List ℕ) → AgreeAt u v q → value_at (synced_there u v) q ≡ greater_at u v q
  value-there q same =
      value-merge v (uv (files (given u (peer_answer u v)))) q ∙ ap (most (value_at v q)) (value-uv (files (given u (peer_answer u v))) q ∙ returned-is q)
      ∙ ap (λ o. most (value_at v q) (cond (has (all_paths u v) q) (returned u q (value_at v q) o) None)) (offer-offered u q)
      ∙ ap (most (value_at v q)) (returned-all q (value_at u q) (value_at v q) refl refl)
      ∙ there-at u q (value_at u q) (value_at v q) refl same

pub sync_merges_at : SyncMergesAt
sync_merges_at = record { here = value-here; there = value-there }

merged-here : (u v : Map) → Agree u v → synced_here u v ≡ merge u v
merged-here u v same = only-merge u v (synced_here u v) (rises-merge u (uv (files (peer_answer u v)))) (λ q. value-here u v q (same q))

merged-there : (u v : Map) → Agree u v → synced_there u v ≡ merge u v
merged-there u v same = only-merge u v (synced_there u v) (rises-merge v (uv (files (given u (peer_answer u v))))) (λ q. value-there u v q (same q))

-- the merge agrees with each of its parts as these do with each other
still-agree : (u v : Map) → Agree u v → Agree (merge u v) v
still-agree u v same q x y has_x has_y tie = by (value_at u q) refl (sym (value-merge u v q ∙ ap (most (value_at u q)) has_y) ∙ has_x)
  where
    inside : (a b : Version) → Some a ≡ Some b → a ≡ b
    inside a b e = cc

    chosen : (z : Version) (t : Bool) → value_at u q ≡ Some z → cond t y z ≡ x → x ≡ y
    chosen z true is e = sym e
    chosen z false is e = same q x y (is ∙ ap Some e) has_y tie

    by : (a : Option Version) → value_at u q ≡ a → most a (Some y) ≡ Some x → x ≡ y
    by None is e = sym (inside y x e)
    by (Some z) is e = chosen z (is_lt (version_cmp z y)) is (inside (cond (is_lt (version_cmp z y)) y z) x e)

merge-again : (u v : Map) → merge (merge u v) v ≡ merge u v
merge-again u v =
    sym (merges_in_any_order.associative u v v)
    ∙ only-merge u v (merge u (merge v v)) (rises-merge u (merge v v))
    (λ q. value-merge u (merge v v) q ∙ ap (most (value_at u q)) (value-merge v v q ∙ most-same (value_at v q)))

equal-at : (p : List ℕ) (o : Option Version) → answer_at p o (option_map stamp_of o) ≡ []
equal-at p None = refl
equal-at p (Some v) = ap (λ r. match_ordering r (Gimme p ∷ []) [] (file_of p v ∷ [])) (tied_itself dated_cmp-IsTotalOrder (stamp_of v))

flat-none : (g : List ℕ → List Card) → ((p : List ℕ) → g p ≡ []) → (paths : List (List ℕ)) → flat_map g paths ≡ []
flat-none g none [] = refl
flat-none g none (p ∷ paths) = ap (λ (cs : List Card). cs ++ flat_map g paths) (none p) ∙ flat-none g none paths

pub sync_merges : SyncMerges
sync_merges = record {
  here = merged-here;
  there = merged-there;
  full = λ u v same fits. ap is_over (merged-there u v same ∙ sym (merged-here u v same)) ∙ fits;
  again_here = λ u v same. merged-here (merge u v) v (still-agree u v same) ∙ merge-again u v;
  again_there = λ u v same. merged-there (merge u v) v (still-agree u v same) ∙ merge-again u v;
  equal = λ m. flat-none (ans m m) (λ p. ap (answer_at p (value_at m p)) (offer-offered m p) ∙ equal-at p (value_at m p)) (all_paths m m);
}
