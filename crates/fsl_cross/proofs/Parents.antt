-- The facts of tags while check-ins whose primary parent came late are changed, one after another.
use Rattle.std.proofs.Common.{◌≡◌, ℕ, true, false, cond, ◌&&◌, List, [], ◌∷◌, Bool, Option, Some, None, map, not, refl, sym, ap, ◌∙◌, subst}
use Rattle.std.specs.Prelude.{IfSome, IsTrue, is_some, option_map, option_and_then, filter_map, OnOk, Result}
use Rattle.std.specs.Option.{option_map_or}
use Rattle.std.specs.List.{cons_option}
use Rattle.std.specs.Str.{bytes_eq}
use Rattle.std.specs.Cmp.Lexicographic.{bytes_decides, nat_list_eq_equiv}
use mathlib.Core.Bool.{true≢false}
use Rattle.std.proofs.lemmas.Bool.{or_parts}
use Rattle.fsl_order.specs.TableState.{TableState, Change}
use Rattle.fsl_order.specs.Names.{has}
use Rattle.fsl_order.specs.Rows.{by_name, named}
use Rattle.fsl_order.proofs.NamedLemmas.{named-by_name}
use Rattle.fsl_table.specs.Pairs.{is_name}
use Rattle.fsl_grammar.specs.declared.TagCard.{TagCard}
use Rattle.fsl_artifact.specs.declared.Artifact.TheVariants.{Plain, Manifest, Cluster, Control, Wiki, Ticket, Attachment, Technote, Forum}
use Rattle.fsl_links.specs.declared.Fact as links
use Rattle.fsl_links.specs.Links.{primary, links_row}
use Rattle.fsl_tags.specs.declared.Fact as tags
use Rattle.fsl_tags.specs.Tags.{IsTagFact}
use Rattle.fsl_tags.specs.Conditions.{IsParentChange}
use Rattle.fsl_cross.specs.declared.Item.{Item}
use Rattle.fsl_cross.specs.Facts.{as_manifest, tag_cards, links_fact, assertions}
use Rattle.fsl_cross.specs.Checkins.{links_facts, tags_fact, tags_facts, checkin}
use Rattle.fsl_cross.specs.Tables.{without}
use Rattle.fsl_cross.specs.Mixed.{mixed, tags_mixed, IsMixture, GoesOn, pushed, is_child, all_changed}
use Rattle.fsl_cross.specs.Trails.{Leads, LinksTold}
use Rattle.fsl_cross.proofs.Mapped.{named-given, by_name-given}
use Rattle.fsl_cross.proofs.Moved.{item_name}
use Rattle.fsl_cross.proofs.FactLemmas.{Rise, links_own, tags_own, fact-fit}
use Rattle.fsl_cross.proofs.Sets.{set_at, mixed-own, mixed-next, mixed-end}
use Rattle.fsl_cross.proofs.Added.{given-added, given-absent, mixed-added, rising-out}
use Rattle.fsl_cross.proofs.Gifts.{if_some, gift-behind, gift-none}
use Rattle.fsl_cross.proofs.Going.{goes-put, goes-none}
use Rattle.fsl_cross.proofs.Late.{primary-other}
use Rattle.fsl_cross.proofs.Pushing.{pushed-before, pushed-out, told-same}

-- ---- whether a found fact is a check-in's

abbrev says_checkin : Option tags.Fact → Bool
says_checkin o = option_map_or (λ f. f.checkin) o false

fact_says : (up : Option (List ℕ)) (item : Item)
    → says_checkin (option_map (λ cards. let g : tags.Fact = record { name = item.name; checkin = is_some (as_manifest item.artifact); parent = up; tags = assertions item cards } in g) (tag_cards item.artifact)) ≡ is_some (as_manifest item.artifact)
fact_says up item =
    elim item.artifact as (λ a. says_checkin (option_map (λ cards. let g : tags.Fact = record { name = item.name; checkin = is_some (as_manifest a); parent = up; tags = assertions item cards } in g) (tag_cards a)) ≡ is_some (as_manifest a)) [
      | Manifest m ↦ refl
      | Plain ↦ refl
      | Cluster m ↦ refl
      | Control m ↦ refl
      | Wiki m ↦ refl
      | Ticket m ↦ refl
      | Attachment m ↦ refl
      | Technote m ↦ refl
      | Forum m ↦ refl
    ]

given_says : (give : Item → Option tags.Fact) → ((item : Item) → IfSome (give item) (λ f. f.name ≡ item.name)) → ((item : Item) → says_checkin (give item) ≡ is_some (as_manifest item.artifact)) → (items : List Item) → Rise items → (q : List ℕ)
    → says_checkin (named (λ f. f.name) (filter_map give items) q) ≡ is_some (checkin items q)
given_says give own says items rise q =
    ap says_checkin (named-given item_name (λ (f : tags.Fact). f.name) give own items rise q)
    ∙ elim (named item_name items q) as (λ o. says_checkin (option_and_then give o) ≡ is_some (option_and_then (λ item. as_manifest item.artifact) o)) [ None ↦ refl | Some item ↦ says item ]

-- the fact of an artifact with its cards and a primary parent
abbrev fact_with : Item → Option (List ℕ) → ℕ × List TagCard → tags.Fact
fact_with item up cards = record { name = item.name; checkin = is_some (as_manifest item.artifact); parent = up; tags = assertions item cards }

-- a fact that is fit among some is fit where the same check-ins are found
refit : (fs gs : List tags.Fact) (f : tags.Fact) → ((q : List ℕ) → says_checkin (named (λ f. f.name) fs q) ≡ says_checkin (named (λ f. f.name) gs q)) → IsTagFact fs f → IsTagFact gs f
refit fs gs f same fit = record {
  child = child f.parent fit.child;
  sources = fit.sources;
  places = fit.places;
}
  where
    child : (o : Option (List ℕ)) → IfSome o (λ up. IsTrue f.checkin × IsTrue (says_checkin (named (λ f. f.name) fs up))) → IfSome o (λ up. IsTrue f.checkin × IsTrue (says_checkin (named (λ f. f.name) gs up)))
    child None h = tt
    child (Some up) h = (h.0, subst IsTrue (same up) h.1)

inside : {X : Type 0} (x y : X) → Some x ≡ Some y → x ≡ y
inside x y e = cc

module _ (items : List Item) (rise : Rise items) (x : Item) (at : named item_name items x.name ≡ Some x) where
  abbrev n : List ℕ
  n = x.name

  abbrev old : List Item
  old = without x.name items

  rise_old : Rise old
  rise_old = rising-out item_name x.name items rise

  abbrev give : List (List ℕ) → Item → Option tags.Fact
  give done = mixed item_name (tags_fact old) (tags_fact items) done

  give_own : (done : List (List ℕ)) (item : Item) → IfSome (give done item) (λ f. f.name ≡ item.name)
  give_own done = mixed-own item_name (λ (f : tags.Fact). f.name) (tags_fact old) (tags_fact items) (tags_own old) (tags_own items) done

  give_says : (done : List (List ℕ)) (item : Item) → says_checkin (give done item) ≡ is_some (as_manifest item.artifact)
  give_says done item =
      elim (has done item.name) as (λ b. says_checkin (cond b (tags_fact items item) (tags_fact old item)) ≡ is_some (as_manifest item.artifact)) [
        | true ↦ fact_says (primary (links_facts items) item.name) item
        | false ↦ fact_says (primary (links_facts old) item.name) item
      ]

  -- each mixture says of the same names that they are check-ins
  mixture_says : (done : List (List ℕ)) (q : List ℕ) → says_checkin (named (λ f. f.name) (tags_mixed items n done) q) ≡ is_some (checkin items q)
  mixture_says done q = given_says (give done) (give_own done) (give_says done) items rise q

  facts_say : (q : List ℕ) → says_checkin (named (λ f. f.name) (tags_facts items) q) ≡ is_some (checkin items q)
  facts_say q = given_says (tags_fact items) (tags_own items) (λ item. fact_says (primary (links_facts items) item.name) item) items rise q

  -- ---- the new artifact

  pub tags-added : tags_mixed items n (n ∷ []) ≡ by_name (λ f. f.name) (cons_option (tags_fact items x) (tags_facts old))
  tags-added = mixed-added item_name (λ (f : tags.Fact). f.name) (tags_fact old) (tags_fact items) (tags_own old) (tags_own items) items rise x at

  pub tags-absent : has (map (λ f. f.name) (tags_facts old)) n ≡ false
  tags-absent = given-absent item_name (λ (f : tags.Fact). f.name) (tags_fact old) (tags_own old) items rise n

  pub tags-fit-added : (f : tags.Fact) → tags_fact items x ≡ Some f → IsTagFact (f ∷ tags_facts old) f
  tags-fit-added f is =
      refit (tags_facts items) (f ∷ tags_facts old) f
      (λ q. facts_say q ∙ sym (mixture_says (n ∷ []) q) ∙ ap (λ fs. says_checkin (named (λ f. f.name) fs q)) (tags-added ∙ ap (λ o. by_name (λ (f : tags.Fact). f.name) (cons_option o (tags_facts old))) is)
      ∙ ap says_checkin (named-by_name (λ (f : tags.Fact). f.name) (f ∷ tags_facts old) q))
      (if_some (IsTagFact (tags_facts items)) (tags_fact items x) f is (fact-fit items rise x at))

  -- ---- a check-in that is changed

  -- the mixture where the fact of a name is its new one
  pub tags-next : (done : List (List ℕ)) (y : Item) (f : tags.Fact) → named item_name items y.name ≡ Some y → tags_fact items y ≡ Some f → tags_mixed items n (y.name ∷ done) ≡ by_name (λ f. f.name) (f ∷ tags_mixed items n done)
  tags-next done y f found is =
      mixed-next item_name (λ (f : tags.Fact). f.name) (tags_fact old) (tags_fact items) (tags_own old) (tags_own items) items rise done y found
      ∙ ap (λ o. set_at (λ (f : tags.Fact). f.name) y.name o (tags_mixed items n done)) is

  change_of : (done : List (List ℕ)) (y : Item) (f : tags.Fact) → named (λ f. f.name) (tags_mixed items n done) f.name ≡ give done y → tags_fact items y ≡ Some f → IsParentChange (tags_mixed items n done) f
  change_of done y f found is =
      elim (has done y.name) as (λ b. named (λ (f : tags.Fact). f.name) (tags_mixed items n done) f.name ≡ cond b (tags_fact items y) (tags_fact old y) → IsParentChange (tags_mixed items n done) f) [
        | true ↦ λ e. record { old = f; there = e ∙ is; kept = refl }
        | false ↦ λ e. elim (tag_cards y.artifact) as (λ o. named (λ (f : tags.Fact). f.name) (tags_mixed items n done) f.name ≡ option_map (fact_with y (primary (links_facts old) y.name)) o → option_map (fact_with y (primary (links_facts items) y.name)) o ≡ Some f → IsParentChange (tags_mixed items n done) f) [
          | None ↦ λ e t. cc
          | Some cards ↦ λ e t.
              let new : fact_with y (primary (links_facts items) y.name) cards ≡ f = inside _ _ t in
              record { old = fact_with y (primary (links_facts old) y.name) cards; there = e; kept = subst (λ (g : tags.Fact). g ≡ record (fact_with y (primary (links_facts old) y.name) cards) { parent = g.parent }) new refl }
        ] e is
      ] found

  pub tags-change : (done : List (List ℕ)) (y : Item) (f : tags.Fact) → named item_name items y.name ≡ Some y → tags_fact items y ≡ Some f → IsParentChange (tags_mixed items n done) f
  tags-change done y f found is =
      let own : f.name ≡ y.name = if_some (λ (f : tags.Fact). f.name ≡ y.name) (tags_fact items y) f is (tags_own items y) in
      change_of done y f (ap (named (λ (f : tags.Fact). f.name) (tags_mixed items n done)) own ∙ named-given item_name (λ (f : tags.Fact). f.name) (give done) (give_own done) items rise y.name ∙ ap (option_and_then (give done)) found) is

  pub tags-fit-changed : (done : List (List ℕ)) (y : Item) (f : tags.Fact) → named item_name items y.name ≡ Some y → tags_fact items y ≡ Some f → IsTagFact (tags_mixed items n done) f
  tags-fit-changed done y f found is =
      refit (tags_facts items) (tags_mixed items n done) f (λ q. facts_say q ∙ sym (mixture_says done q)) (if_some (IsTagFact (tags_facts items)) (tags_fact items y) f is (fact-fit items rise y found))

  -- ---- at the end

  links-is : links_facts items ≡ by_name (λ f. f.name) (cons_option (links_fact x) (links_facts old))
  links-is = given-added item_name (λ (f : links.Fact). f.name) links_fact links_own items rise x at

  -- another check-in whose primary parent isn't the new one has the primary parent that it had
  pub primary-same : (q : List ℕ) → bytes_eq q n ≡ false → is_name (primary (links_facts items) q) n ≡ false → primary (links_facts items) q ≡ primary (links_facts old) q
  primary-same q apart other = by (links_fact x) refl (links_own x)
    where
      by : (o : Option links.Fact) → links_fact x ≡ o → IfSome o (λ f. f.name ≡ x.name) → primary (links_facts items) q ≡ primary (links_facts old) q
      by None e own =
          ap (λ fs. primary fs q) (links-is ∙ ap (λ o. by_name (λ (f : links.Fact). f.name) (cons_option o (links_facts old))) e ∙ by_name-given item_name (λ (f : links.Fact). f.name) links_fact links_own old rise_old)
      by (Some f) e own =
          let is : links_facts items ≡ by_name (λ f. f.name) (f ∷ links_facts old) = links-is ∙ ap (λ o. by_name (λ (f : links.Fact). f.name) (cons_option o (links_facts old))) e in
          ap (λ fs. primary fs q) is
          ∙ primary-other f (links_facts old) q (ap (λ m. bytes_eq m q) own ∙ nat_list_eq_equiv.symm n q ∙ apart)
          (λ h. true≢false (sym (ap (λ o. is_name o n) (ap (λ fs. primary fs q) is ∙ h) ∙ (bytes_decides f.name n).1 own) ∙ other))

  -- when all check-ins are changed whose primary parent came late, the facts are those of the set
  pub tags-end : (first : TableState links.Fact) (us : List (Change links.Fact)) (now : TableState links.Fact) → Leads first us now → LinksTold us → first.facts ≡ links_facts old → now.facts ≡ links_facts items
      → tags_mixed items n (pushed (is_child items n) (all_changed us) (n ∷ [])) ≡ tags_facts items
  tags-end first us now lead told before after =
      mixed-end item_name (λ (f : tags.Fact). f.name) (tags_fact old) (tags_fact items) (tags_own old) (tags_own items) items rise (pushed (is_child items n) (all_changed us) (n ∷ []))
      (λ y found out. ap (λ up. option_map (λ cards. let g : tags.Fact = record { name = y.name; checkin = is_some (as_manifest y.artifact); parent = up; tags = assertions y cards } in g) (tag_cards y.artifact)) (parent_same y.name out))
    where
      parent_same : (q : List ℕ) → has (pushed (is_child items n) (all_changed us) (n ∷ [])) q ≡ false → primary (links_facts items) q ≡ primary (links_facts old) q
      parent_same q out =
          let apart : bytes_eq q n ≡ false = (or_parts (bytes_eq q n) false (pushed-before (is_child items n) (all_changed us) (n ∷ []) q out)).0 in
          elim (is_name (primary (links_facts items) q) n) as (λ b. is_name (primary (links_facts items) q) n ≡ b → primary (links_facts items) q ≡ primary (links_facts old) q) [
            | true ↦ λ t.
                let same = told-same links_row first us now lead told q (pushed-out (is_child items n) (all_changed us) (n ∷ []) q out (λ i. not (apart i) && t i)) in
                ap (λ fs. primary fs q) (sym after) ∙ ap (λ (r : Option (List ℕ) × List (List ℕ)). r.0) same ∙ ap (λ fs. primary fs q) before
            | false ↦ λ t. primary-same q apart t
          ] refl

  -- ---- by the name of a check-in

  pub tags-change-at : (q : List ℕ) (f : tags.Fact) (facts : List tags.Fact) → option_and_then (tags_fact items) (named item_name items q) ≡ Some f → IsMixture (tags_mixed items n) facts → IsParentChange facts f
  tags-change-at q f facts is m =
      let y = gift-behind item_name (tags_fact items) items q f is in
      subst (λ fs. IsParentChange fs f) (sym m.1) (tags-change m.0 y.0 f y.1 y.2)

  pub tags-fit-at : (q : List ℕ) (f : tags.Fact) (facts : List tags.Fact) → option_and_then (tags_fact items) (named item_name items q) ≡ Some f → IsMixture (tags_mixed items n) facts → IsTagFact facts f
  tags-fit-at q f facts is m =
      let y = gift-behind item_name (tags_fact items) items q f is in
      subst (λ fs. IsTagFact fs f) (sym m.1) (tags-fit-changed m.0 y.0 f y.1 y.2)

  -- the new fact of a check-in is put, where its primary parent is the new one
  pub tags-goes : {X E : Type 0} (r : Result X E) (q : List ℕ) (f : tags.Fact) (before after : List tags.Fact) → option_and_then (tags_fact items) (named item_name items q) ≡ Some f → is_child items n q ≡ true
      → OnOk r (after ≡ by_name (λ f. f.name) (f ∷ before)) → OnOk r (GoesOn (tags_mixed items n) (pushed (is_child items n) (q ∷ [])) before after)
  tags-goes r q f before after is child put =
      let y = gift-behind item_name (tags_fact items) items q f is in
      goes-put (tags_mixed items n) (is_child items n) r (λ fs. by_name (λ (f : tags.Fact). f.name) (f ∷ fs)) q before after child
      (λ done. subst (λ p. tags_mixed items n (p ∷ done) ≡ by_name (λ (f : tags.Fact). f.name) (f ∷ tags_mixed items n done)) y.3 (tags-next done y.0 f y.1 y.2)) put

  tags_none : (y : Item) → tags_fact items y ≡ None → tags_fact old y ≡ None
  tags_none y =
      elim (tag_cards y.artifact) as (λ o. option_map (λ cards. let g : tags.Fact = record { name = y.name; checkin = is_some (as_manifest y.artifact); parent = primary (links_facts items) y.name; tags = assertions y cards } in g) o ≡ None
      → option_map (λ cards. let g : tags.Fact = record { name = y.name; checkin = is_some (as_manifest y.artifact); parent = primary (links_facts old) y.name; tags = assertions y cards } in g) o ≡ None) [ None ↦ λ e. refl | Some cards ↦ λ e. cc ]

  -- an artifact that gives no fact
  pub tags-goes-none : (test : List ℕ → Bool) (q : List ℕ) (facts : List tags.Fact) → option_and_then (tags_fact items) (named item_name items q) ≡ None → GoesOn (tags_mixed items n) (pushed test (q ∷ [])) facts facts
  tags-goes-none test q facts none =
      goes-none (tags_mixed items n) test q facts (λ done. gift-none item_name (λ (f : tags.Fact). f.name) (tags_fact old) (tags_fact items) (tags_own old) (tags_own items) items rise tags_none done q none)
