-- The rows of posts before and after one more.
use Rattle.std.proofs.Common.{◌≡◌, ℕ, ◌≤◌, true, false, Bool, List, [], ◌∷◌, length, Option, Some, None, refl, sym, ap, ◌∙◌, subst}
use Rattle.std.specs.Prelude.{◌&&◌, ◌||◌, not, filter_map, is_some, is_none, unwrap_or, option_map, option_and_then, if◌then◌else◌}
use Rattle.std.specs.List.{cons_option, list_any}
use Rattle.std.specs.Option.{option_eq, option_map_or}
use Rattle.std.specs.Str.{bytes_eq}
use Rattle.std.proofs.lemmas.Bool.{not-true, not-false, or_parts}
use Rattle.fsl_order.specs.TableState.{TableState, Change}
use Rattle.fsl_order.specs.Names.{has}
use Rattle.fsl_order.specs.Rows.{by_name, named}
use Rattle.fsl_order.proofs.RowLemmas.{is_some-named}
use Rattle.fsl_forms.specs.declared.forum.Forum.{Forum}
use Rattle.fsl_artifact.specs.declared.Artifact.{Artifact}
use Rattle.fsl_artifact.specs.declared.Artifact.TheVariants as kind
use Rattle.fsl_name.specs.Name.{name_text}
use Rattle.fsl_wiki.specs.declared.Note.{Note}
use Rattle.fsl_wiki.specs.Pages as pages
use Rattle.fsl_wiki.specs.Pages.{fact_name}
use Rattle.fsl_ticket.specs.declared.Fact as ticket
use Rattle.fsl_forum.specs.declared.Fact.{Fact}
use Rattle.fsl_forum.specs.declared.PostKind.{PostKind}
use Rattle.fsl_forum.specs.Threads as threads
use Rattle.fsl_forum.specs.Threads.{place, threads_row, InvalidStays}
use Rattle.fsl_timeline.specs.declared.Row.{Row}
use Rattle.fsl_timeline.specs.declared.RowKind.TheVariants as row
use Rattle.fsl_cross.specs.declared.Item.{Item}
use Rattle.fsl_cross.specs.Facts.{as_manifest, tag_cards, pages_fact, pages_fact_of, ticket_fact, ticket_fact_of, forum_fact, forum_fact_of}
use Rattle.fsl_cross.specs.Checkins.{tags_facts}
use Rattle.fsl_cross.specs.Gone.{is_rowless, is_gone, has_row, AreShown}
use Rattle.fsl_cross.specs.Inside.{checkin_row, kind_by}
use Rattle.fsl_cross.specs.Mixed.{rows_mixed, timeline_row, pushed, all_changed}
use Rattle.fsl_cross.specs.Tables.{pages_facts, ticket_facts, forum_facts, attachment_kind, timeline_rows, timeline_row_of, without}
use Rattle.fsl_cross.specs.Trails.{Leads, ThreadsTold}
use Rattle.fsl_cross.proofs.Moved.{item_name}
use Rattle.fsl_cross.proofs.FactLemmas.{Rise}
use Rattle.fsl_cross.proofs.TableLemmas.{pages-own, ticket-own, forum-own, row-own}
use Rattle.fsl_cross.proofs.Sets.{mixed-end}
use Rattle.fsl_cross.proofs.Added.{given-added, given-absent}
use Rattle.fsl_cross.proofs.Pushing.{pushed-before, pushed-out, told-same}
use Rattle.fsl_cross.proofs.Retagged.{row-checkin}
use Rattle.fsl_cross.proofs.Stays.{facts-stay}
use Rattle.fsl_cross.proofs.Alike.{other-same, tags-stay, gave, gives}
use Rattle.fsl_cross.proofs.Retiring.{gone-behind, old-shown, told-other}

abbrev post_name : Fact → List ℕ
post_name f = f.name

-- a post has a row where it has a place
shown : (o : Option Fact) (p : Option (List ℕ)) → (o ≡ None → p ≡ None) → is_some (option_and_then (λ f. option_map (λ root. let r : List ℕ × PostKind = (root, threads.kind f) in r) p) o) ≡ is_some p
shown None p none = ap is_some (sym (none refl))
shown (Some f) None none = refl
shown (Some f) (Some r) none = refl

shown-place : (fs : List Fact) (q : List ℕ) → is_some (threads_row fs q) ≡ is_some (place fs q)
shown-place fs q = shown (threads.post fs q) (place fs q) (λ e. ap (option_and_then (λ f. if threads.is_valid fs f then Some (threads.thread_of fs f) else None)) e)

-- without a fact there is none
no-row : (fs : List Fact) (q : List ℕ) → threads.post fs q ≡ None → threads_row fs q ≡ None
no-row fs q none = ap (option_and_then (λ f. option_map (λ root. let r : List ℕ × PostKind = (root, threads.kind f) in r) (place fs q))) none

some-unless : {X : Type 0} (o : Option X) → (o ≡ None → ⊥) → is_some o ≡ true
some-unless None never = absurd (never refl)
some-unless (Some x) never = refl

none-is : {X : Type 0} (o : Option X) → is_some o ≡ false → o ≡ None
none-is None e = refl
none-is (Some x) e = cc

is-some-on : (b : Bool) (r : Row) → b ≡ true → is_some (if b then Some r else None) ≡ true
is-some-on b r e = ap (λ b. is_some (if b then Some r else None)) e

apart-bits : true ≡ false → ⊥
apart-bits e = cc

module _ (items : List Item) (rise : Rise items) (x : Item) (at : named item_name items x.name ≡ Some x) (p : Forum) (is_post : x.artifact ≡ kind.Forum p) where
  abbrev n : List ℕ
  n = x.name

  abbrev old : List Item
  old = without x.name items

  abbrev more : Fact
  more = record { name = x.name; date = p.date; user = p.user; root = p.root; reply = p.reply; prior = p.prior }

  -- ---- what the post leaves as it was

  tags-same : tags_facts items ≡ tags_facts old
  tags-same = tags-stay items rise x at (ap as_manifest is_post) (ap tag_cards is_post)

  pages-same : pages_facts items ≡ pages_facts old
  pages-same = facts-stay items rise x at fact_name pages_fact pages-own (ap (pages_fact_of x.name) is_post)

  tickets-same : ticket_facts items ≡ ticket_facts old
  tickets-same = facts-stay items rise x at (λ (f : ticket.Fact). f.name) ticket_fact ticket-own (ap (ticket_fact_of x.name) is_post)

  kind-same : (target : List ℕ) → attachment_kind items target ≡ attachment_kind old target
  kind-same target = λ i.
      kind_by (list_any (λ (f : ticket.Fact). bytes_eq (name_text f.id) target) (tickets-same i)) (list_any (λ (n : Note). bytes_eq (name_text n.id) target) (filter_map pages.as_note (pages-same i)))

  -- ---- posts

  posts-added : forum_facts items ≡ by_name (λ f. f.name) (more ∷ forum_facts old)
  posts-added = given-added item_name post_name forum_fact forum-own items rise x at ∙ ap (λ a. by_name post_name (cons_option (forum_fact_of x.name a) (forum_facts old))) is_post

  -- a post that is valid now was so before
  valid-before : InvalidStays → (y : Item) (f : Forum) → named item_name items y.name ≡ Some y → bytes_eq y.name n ≡ false → y.artifact ≡ kind.Forum f
      → is_some (place (forum_facts items) y.name) ≡ true → is_some (place (forum_facts old) y.name) ≡ true
  valid-before law y f found apart is now =
      some-unless (place (forum_facts old) y.name)
      (λ none. apart-bits (sym now ∙ ap (λ fs. is_some (place fs y.name)) posts-added
      ∙ ap is_some (law (forum_facts old) more y.name
      (sym (is_some-named post_name (forum_facts old) y.name) ∙ ap is_some (gave items rise x at post_name forum_fact forum-own y found apart ∙ ap (forum_fact_of y.name) is))
      (given-absent item_name post_name forum_fact forum-own items rise x.name) none)))

  -- whether it is gone
  gone-is : (y : Item) (f : Forum) → named item_name items y.name ≡ Some y → bytes_eq y.name n ≡ false → y.artifact ≡ kind.Forum f → is_gone items n y.name ≡ is_none (place (forum_facts items) y.name)
  gone-is y f found apart is =
      (λ i. not (apart i) && option_map_or (λ (item : Item). is_rowless (pages_facts items) (forum_facts items) y.name item.artifact) (found i) false)
      ∙ ap (is_rowless (pages_facts items) (forum_facts items) y.name) is

  module _ (first now : TableState Fact) (us : List (Change Fact)) (lead : Leads first us now) (told : ThreadsTold us) (single : length us ≤ 1) (before : first.facts ≡ forum_facts old) (after : now.facts ≡ forum_facts items) where
    abbrev names : List (List ℕ)
    names = all_changed us

    -- a row that isn't listed is the same
    unlisted : (q : List ℕ) → has names q ≡ false → threads_row (forum_facts items) q ≡ threads_row (forum_facts old) q
    unlisted q out = ap (λ fs. threads_row fs q) (sym after) ∙ told-same threads_row first us now lead told q out ∙ ap (λ fs. threads_row fs q) before

    -- one that is listed isn't
    listed-differs : (q : List ℕ) → has names q ≡ true → threads_row (forum_facts items) q ≡ threads_row (forum_facts old) q → ⊥
    listed-differs q listed same =
        told-other threads_row first now us single lead told q listed (ap (λ fs. threads_row fs q) after ∙ same ∙ ap (λ fs. threads_row fs q) (sym before))

    -- a post that isn't done is valid where it was
    valid-same : InvalidStays → (y : Item) (f : Forum) → named item_name items y.name ≡ Some y → has (pushed (is_gone items n) names (n ∷ [])) y.name ≡ false → y.artifact ≡ kind.Forum f
        → is_some (place (forum_facts items) y.name) ≡ is_some (place (forum_facts old) y.name)
    valid-same law y f found out is = by (has names y.name) refl (is_gone items n y.name) refl
      where
        apart : bytes_eq y.name n ≡ false
        apart = (or_parts (bytes_eq y.name n) false (pushed-before (is_gone items n) names (n ∷ []) y.name out)).0

        by : (listed : Bool) → has names y.name ≡ listed → (gone : Bool) → is_gone items n y.name ≡ gone → is_some (place (forum_facts items) y.name) ≡ is_some (place (forum_facts old) y.name)
        by false h gone g = sym (shown-place (forum_facts items) y.name) ∙ ap is_some (unlisted y.name h) ∙ shown-place (forum_facts old) y.name
        by true h true g = absurd (apart-bits (sym h ∙ pushed-out (is_gone items n) names (n ∷ []) y.name out g))
        by true h false g =
            let valid : is_some (place (forum_facts items) y.name) ≡ true = not-false (is_some (place (forum_facts items) y.name)) (sym (gone-is y f found apart is) ∙ g) in
            valid ∙ sym (valid-before law y f found apart is valid)

    -- one that is listed and isn't valid has its row still
    pub posts-shown : (rows : List Row) → rows ≡ rows_mixed items n (n ∷ []) → AreShown items n names rows
    posts-shown rows are q listed gone = by y.1.artifact refl
      where
        y : (bytes_eq q n ≡ false) × (y : Item) × (named item_name items y.name ≡ Some y) × (y.name ≡ q) × (is_rowless (pages_facts items) (forum_facts items) y.name y.artifact ≡ true)
        y = gone-behind items rise n q gone

        apart : bytes_eq y.1.name n ≡ false
        apart = ap (λ p. bytes_eq p n) y.3 ∙ y.0

        listed_y : has names y.1.name ≡ true
        listed_y = ap (has names) y.3 ∙ listed

        -- it had its row before
        was-some : (f : Forum) → y.1.artifact ≡ kind.Forum f → is_some (place (forum_facts old) y.1.name) ≡ true
        was-some f is =
            let invalid : is_some (place (forum_facts items) y.1.name) ≡ false = not-true (is_some (place (forum_facts items) y.1.name)) (sym (ap (is_rowless (pages_facts items) (forum_facts items) y.1.name) is) ∙ y.4) in
            some-unless (place (forum_facts old) y.1.name)
            (λ none. listed-differs y.1.name listed_y
            (none-is (threads_row (forum_facts items) y.1.name) (shown-place (forum_facts items) y.1.name ∙ invalid)
            ∙ sym (none-is (threads_row (forum_facts old) y.1.name) (shown-place (forum_facts old) y.1.name ∙ ap is_some none))))

        there : is_some (timeline_row old y.1) ≡ true → has_row rows q ≡ true
        there was = ap (λ rs. has_row rs q) are ∙ subst (λ p. has_row (rows_mixed items n (n ∷ [])) p ≡ true) y.3 (old-shown items rise n (n ∷ []) y.1 y.2 (none-of y.1.name apart) was)
          where
            none-of : (q : List ℕ) → bytes_eq q n ≡ false → has (n ∷ []) q ≡ false
            none-of q e = ap (λ b. b || false) e

        no-post : forum_fact_of y.1.name y.1.artifact ≡ None → has_row rows q ≡ true
        no-post none =
            absurd (listed-differs y.1.name listed_y
            (no-row (forum_facts items) y.1.name (gives items rise x at post_name forum_fact forum-own y.1 y.2 ∙ none)
            ∙ sym (no-row (forum_facts old) y.1.name (gave items rise x at post_name forum_fact forum-own y.1 y.2 apart ∙ none))))

        by : (a : Artifact) → y.1.artifact ≡ a → has_row rows q ≡ true
        by (kind.Forum f) is =
            there (ap is_some (ap (timeline_row_of old y.1.name) is) ∙ is-some-on (is_some (place (forum_facts old) y.1.name)) (record { time = f.date; name = y.1.name; kind = row.Forum; user = f.user; text = unwrap_or f.title [] }) (was-some f is))
        by kind.Plain is = no-post (ap (forum_fact_of y.1.name) is)
        by (kind.Manifest m) is = no-post (ap (forum_fact_of y.1.name) is)
        by (kind.Cluster m) is = no-post (ap (forum_fact_of y.1.name) is)
        by (kind.Control m) is = no-post (ap (forum_fact_of y.1.name) is)
        by (kind.Wiki m) is = no-post (ap (forum_fact_of y.1.name) is)
        by (kind.Ticket m) is = no-post (ap (forum_fact_of y.1.name) is)
        by (kind.Attachment m) is = no-post (ap (forum_fact_of y.1.name) is)
        by (kind.Technote m) is = no-post (ap (forum_fact_of y.1.name) is)

    -- when all are done
    pub posts-end : InvalidStays → rows_mixed items n (pushed (is_gone items n) names (n ∷ [])) ≡ timeline_rows items
    posts-end law =
        mixed-end item_name (λ (r : Row). r.name) (timeline_row old) (timeline_row items) (row-own old) (row-own items) items rise (pushed (is_gone items n) names (n ∷ []))
        (λ y found out. elim (as_manifest y.artifact) as (λ o. as_manifest y.artifact ≡ o → timeline_row items y ≡ timeline_row old y) [
          | None ↦ λ e.
              other-same items old y.name y.artifact e
              (λ t is. ap (λ ps. option_eq bytes_eq (pages.note ps t.id) (Some y.name)) pages-same)
              (λ f is. kind-same f.target)
              (λ f is. valid-same law y f found out is)
          | Some m ↦ λ e. row-checkin items y.name y.artifact m e ∙ ap (λ ts. Some (checkin_row ts y.name m)) tags-same ∙ sym (row-checkin old y.name y.artifact m e)
        ] refl)
