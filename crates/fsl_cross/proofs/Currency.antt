-- The rows of technotes before and after one more.
use Rattle.std.proofs.Common.{◌≡◌, ℕ, ◌≤◌, true, false, cond, Bool, List, [], ◌∷◌, length, Option, Some, None, map, refl, sym, ap, ◌∙◌, subst}
use Rattle.std.specs.Prelude.{◌&&◌, ◌||◌, not, filter_map, is_some, unwrap_or, option_map, option_and_then, IfSome, if◌then◌else◌}
use Rattle.std.specs.List.{AllByRecursion, IsDistinct, cons_option, list_any}
use Rattle.std.specs.Option.{option_eq, option_map_or}
use Rattle.std.specs.Str.{bytes_eq}
use Rattle.std.specs.Cmp.Lexicographic.{bytes_decides, nat_list_eq_equiv}
use Rattle.std.proofs.lemmas.Bool.{not-true, not-false, or_parts}
use Rattle.fsl_order.specs.TableState.{TableState, Change}
use Rattle.fsl_order.specs.Names.{has}
use Rattle.fsl_order.specs.Rows.{by_name, named, AreDistinct}
use Rattle.fsl_order.proofs.Booleans.{or_false}
use Rattle.fsl_name.specs.Name.{IsName}
use Rattle.fsl_forms.specs.declared.technote.Technote.{Technote}
use Rattle.fsl_artifact.specs.declared.Artifact.{Artifact}
use Rattle.fsl_artifact.specs.declared.Artifact.TheVariants as kind
use Rattle.fsl_tags.specs.declared.Fact as tags
use Rattle.fsl_wiki.specs.declared.Fact.{Fact}
use Rattle.fsl_wiki.specs.declared.Fact.TheVariants as fact
use Rattle.fsl_wiki.specs.declared.Page.{Page}
use Rattle.fsl_wiki.specs.declared.Note.{Note}
use Rattle.fsl_wiki.specs.declared.Attached as wiki
use Rattle.fsl_wiki.specs.Laws.{NoOtherCurrent}
use Rattle.fsl_wiki.specs.Pages as pages
use Rattle.fsl_wiki.specs.Pages.{fact_name, pages_row}
use Rattle.fsl_forum.specs.Threads.{place}
use Rattle.fsl_timeline.specs.declared.Row.{Row}
use Rattle.fsl_timeline.specs.declared.RowKind.TheVariants as row
use Rattle.fsl_cross.specs.declared.Item.{Item}
use Rattle.fsl_cross.specs.declared.attached.Attached.{Attached}
use Rattle.fsl_cross.specs.Built.{IsAttachedOf}
use Rattle.fsl_cross.specs.Facts.{as_manifest, pages_fact, pages_fact_of, forum_fact_of}
use Rattle.fsl_cross.specs.Gone.{is_rowless, is_gone, has_row, AreShown}
use Rattle.fsl_cross.specs.Kinds.{as_attachment, is_attachment, own_id, own_names}
use Rattle.fsl_cross.specs.Mixed.{rows_mixed, timeline_row, pushed, is_other_checkin, all_changed, tagged_done}
use Rattle.fsl_cross.specs.Tables.{pages_facts, forum_facts, timeline_row_of, without}
use Rattle.fsl_cross.specs.Trails.{Leads, PagesTold}
use Rattle.fsl_cross.proofs.Moved.{item_name}
use Rattle.fsl_cross.proofs.FactLemmas.{Rise}
use Rattle.fsl_cross.proofs.TableLemmas.{pages-own}
use Rattle.fsl_cross.proofs.Mapped.{distinct-given, rising-given, named-given}
use Rattle.fsl_cross.proofs.Sets.{named-out}
use Rattle.fsl_cross.proofs.Added.{given-added, given-absent, rising-out}
use Rattle.fsl_cross.proofs.Pushing.{pushed-before, pushed-out, told-same}
use Rattle.fsl_cross.proofs.Stays.{posts-stay}
use Rattle.fsl_cross.proofs.Rekinded.{attachment-kept}
use Rattle.fsl_cross.proofs.Alike.{other-same}
use Rattle.fsl_cross.proofs.Retiring.{gone-behind, old-shown, told-other}

true-unless : (b : Bool) → (b ≡ false → ⊥) → b ≡ true
true-unless true never = refl
true-unless false never = absurd (never refl)

apart-bits : true ≡ false → ⊥
apart-bits e = cc

is-some-on : (b : Bool) (r : Row) → b ≡ true → is_some (if b then Some r else None) ≡ true
is-some-on b r e = ap (λ b. is_some (if b then Some r else None)) e

-- ---- one of a name

module _ {X : Type 0} (name : X → List ℕ) where
  none-any : (p : X → Bool) (q : List ℕ) (xs : List X) → AllByRecursion (λ z. bytes_eq q z ≡ false) (map name xs) → list_any (λ x. bytes_eq (name x) q && p x) xs ≡ false
  none-any p q [] all = refl
  none-any p q (x ∷ xs) all = λ i. ((nat_list_eq_equiv.symm (name x) q ∙ all.0) i && p x) || none-any p q xs all.1 i

  -- whether that of a name, among some whose names differ, passes a test
  any-named : (p : X → Bool) (xs : List X) → AreDistinct (map name xs) → (q : List ℕ) → list_any (λ x. bytes_eq (name x) q && p x) xs ≡ option_map_or p (named name xs q) false
  unfolding IsDistinct
  any-named p [] apart q = refl
  any-named p (x ∷ xs) apart q =
      elim (bytes_eq (name x) q) as (λ b. bytes_eq (name x) q ≡ b → ((b && p x) || list_any (λ x. bytes_eq (name x) q && p x) xs) ≡ option_map_or p (cond b (Some x) (named name xs q)) false) [
        | true ↦ λ t. ap (λ b. p x || b) (subst (λ n. list_any (λ x. bytes_eq (name x) n && p x) xs ≡ false) ((bytes_decides (name x) q).0 t) (none-any p (name x) xs apart.0)) ∙ or_false (p x)
        | false ↦ λ t. any-named p xs apart.1 q
      ] refl

  -- whether there is one
  any-is : (xs : List X) (q : List ℕ) → list_any (λ x. bytes_eq (name x) q) xs ≡ is_some (named name xs q)
  any-is [] q = refl
  any-is (x ∷ xs) q = elim (bytes_eq (name x) q) as (λ b. (b || list_any (λ x. bytes_eq (name x) q) xs) ≡ is_some (cond b (Some x) (named name xs q))) [ true ↦ refl | false ↦ any-is xs q ]

-- ---- rows of pages

page-own : (f : Fact) → IfSome (pages.as_page f) (λ p. p.name ≡ fact_name f)
page-own (fact.Page p) = refl
page-own (fact.Note n) = tt
page-own (fact.Attached a) = tt

note-own : (f : Fact) → IfSome (pages.as_note f) (λ n. n.name ≡ fact_name f)
note-own (fact.Page p) = tt
note-own (fact.Note n) = refl
note-own (fact.Attached a) = tt

attached-own : (f : Fact) → IfSome (pages.as_attached f) (λ a. a.name ≡ fact_name f)
attached-own (fact.Page p) = tt
attached-own (fact.Note n) = tt
attached-own (fact.Attached a) = refl

abbrev is_current : List Fact → List ℕ → Note → Bool
is_current fs q n = option_map_or (λ c. bytes_eq c.name q) (pages.current_note fs n.id) false

abbrev is_newest : List Fact → List ℕ → wiki.Attached → Bool
is_newest fs q a = option_map_or (λ c. bytes_eq c.name q) (pages.current fs a.target a.file) false

-- the row of a name, by the fact that is there
abbrev row_by : List Fact → List ℕ → Option Fact → Bool × Bool × Bool
row_by fs q o = (is_some (option_and_then pages.as_page o), option_map_or (is_current fs q) (option_and_then pages.as_note o) false, option_map_or (is_newest fs q) (option_and_then pages.as_attached o) false)

current-is : (q : List ℕ) (o : Option Note) → option_map_or (λ (c : Note). bytes_eq c.name q) o false ≡ option_eq bytes_eq (option_map (λ (c : Note). c.name) o) (Some q)
current-is q None = refl
current-is q (Some c) = refl

module _ (s : List Item) (rise : Rise s) (y : Item) (found : named item_name s y.name ≡ Some y) where
  fact-named : {F : Type 0} (sub : F → List ℕ) (as_sub : Fact → Option F) → ((f : Fact) → IfSome (as_sub f) (λ g. sub g ≡ fact_name f)) → named sub (filter_map as_sub (pages_facts s)) y.name ≡ option_and_then as_sub (pages_fact y)
  fact-named sub as_sub own =
      named-given fact_name sub as_sub own (pages_facts s) (rising-given item_name fact_name pages_fact pages-own s rise) y.name
      ∙ ap (option_and_then as_sub) (named-given item_name fact_name pages_fact pages-own s rise y.name ∙ ap (option_and_then pages_fact) found)

  fact-distinct : {F : Type 0} (sub : F → List ℕ) (as_sub : Fact → Option F) → ((f : Fact) → IfSome (as_sub f) (λ g. sub g ≡ fact_name f)) → AreDistinct (map sub (filter_map as_sub (pages_facts s)))
  fact-distinct sub as_sub own = distinct-given fact_name sub as_sub own (pages_facts s) (rising-given item_name fact_name pages_fact pages-own s rise)

  row-is : pages_row (pages_facts s) y.name ≡ row_by (pages_facts s) y.name (pages_fact y)
  row-is = λ i. (page i, note i, newest i)
    where
      page : list_any (λ (p : Page). bytes_eq p.name y.name) (filter_map pages.as_page (pages_facts s)) ≡ is_some (option_and_then pages.as_page (pages_fact y))
      page = any-is (λ (p : Page). p.name) (filter_map pages.as_page (pages_facts s)) y.name ∙ ap is_some (fact-named (λ (p : Page). p.name) pages.as_page page-own)

      note : list_any (λ (n : Note). bytes_eq n.name y.name && is_current (pages_facts s) y.name n) (filter_map pages.as_note (pages_facts s)) ≡ option_map_or (is_current (pages_facts s) y.name) (option_and_then pages.as_note (pages_fact y)) false
      note =
          any-named (λ (n : Note). n.name) (is_current (pages_facts s) y.name) (filter_map pages.as_note (pages_facts s)) (fact-distinct (λ (n : Note). n.name) pages.as_note note-own) y.name
          ∙ ap (λ o. option_map_or (is_current (pages_facts s) y.name) o false) (fact-named (λ (n : Note). n.name) pages.as_note note-own)

      newest : list_any (λ (a : wiki.Attached). bytes_eq a.name y.name && is_newest (pages_facts s) y.name a) (filter_map pages.as_attached (pages_facts s)) ≡ option_map_or (is_newest (pages_facts s) y.name) (option_and_then pages.as_attached (pages_fact y)) false
      newest =
          any-named (λ (a : wiki.Attached). a.name) (is_newest (pages_facts s) y.name) (filter_map pages.as_attached (pages_facts s)) (fact-distinct (λ (a : wiki.Attached). a.name) pages.as_attached attached-own) y.name
          ∙ ap (λ o. option_map_or (is_newest (pages_facts s) y.name) o false) (fact-named (λ (a : wiki.Attached). a.name) pages.as_attached attached-own)

  -- a technote's row: whether it is the current one of its id
  abbrev currency : Technote → Bool
  currency t = option_eq bytes_eq (pages.note (pages_facts s) t.id) (Some y.name)

  pub row-note : (t : Technote) → y.artifact ≡ kind.Technote t → pages_row (pages_facts s) y.name ≡ (false, currency t, false)
  row-note t is = row-is ∙ ap (λ a. row_by (pages_facts s) y.name (pages_fact_of y.name a)) is ∙ (λ i. (false, current-is y.name (pages.current_note (pages_facts s) t.id) i, false))

  -- without a fact there is none
  pub row-none : pages_fact_of y.name y.artifact ≡ None → pages_row (pages_facts s) y.name ≡ (false, false, false)
  row-none none = row-is ∙ ap (row_by (pages_facts s) y.name) none

-- ---- one technote more

-- names that fail a test aren't put in front
pub pushed-skips : (test : List ℕ → Bool) (names done : List (List ℕ)) (q : List ℕ) → test q ≡ false → has (pushed test names done) q ≡ has done q
pushed-skips test [] done q out = refl
pushed-skips test (x ∷ names) done q out =
    pushed-skips test names (cond (test x) (x ∷ done) done) q out
    ∙ elim (test x) as (λ b. test x ≡ b → has (cond b (x ∷ done) done) q ≡ has done q) [
      | true ↦ λ t. elim (bytes_eq q x) as (λ b. bytes_eq q x ≡ b → (b || has done q) ≡ has done q) [
        | true ↦ λ same. absurd (apart-bits (sym t ∙ ap test (sym ((bytes_decides q x).0 same)) ∙ out))
        | false ↦ λ _. refl
      ] refl
      | false ↦ λ _. refl
    ] refl

all-other : (n : List ℕ) (names : List (List ℕ)) → has names n ≡ false → AllByRecursion (λ z. bytes_eq n z ≡ false) names
all-other n [] h = tt
all-other n (x ∷ names) h = let parts = or_parts (bytes_eq n x) (has names n) h in (parts.0, all-other n names parts.1)

more-distinct : (n : List ℕ) (names : List (List ℕ)) → has names n ≡ false → AreDistinct names → AreDistinct (n ∷ names)
unfolding IsDistinct
more-distinct n names absent apart = (all-other n names absent, apart)

module _ (items : List Item) (rise : Rise items) (x : Item) (at : named item_name items x.name ≡ Some x) (t : Technote) (is_note : x.artifact ≡ kind.Technote t) where
  abbrev n : List ℕ
  n = x.name

  abbrev old : List Item
  old = without x.name items

  abbrev more : Note
  more = record { name = x.name; date = t.date; time = t.time; id = t.id }

  rise_old : Rise old
  rise_old = rising-out item_name x.name items rise

  -- another artifact was there before
  before-found : (y : Item) → named item_name items y.name ≡ Some y → bytes_eq y.name n ≡ false → named item_name old y.name ≡ Some y
  before-found y found apart = named-out item_name x.name y.name items ∙ (λ i. cond ((nat_list_eq_equiv.symm x.name y.name ∙ apart) i) None (found i))

  pages-added : pages_facts items ≡ by_name fact_name (fact.Note more ∷ pages_facts old)
  pages-added = given-added item_name fact_name pages_fact pages-own items rise x at ∙ ap (λ a. by_name fact_name (cons_option (pages_fact_of x.name a) (pages_facts old))) is_note

  -- a technote that is current now was so before
  current-before : NoOtherCurrent → (y : Item) (u : Technote) → named item_name items y.name ≡ Some y → bytes_eq y.name n ≡ false → y.artifact ≡ kind.Technote u
      → option_eq bytes_eq (pages.note (pages_facts items) u.id) (Some y.name) ≡ true → option_eq bytes_eq (pages.note (pages_facts old) u.id) (Some y.name) ≡ true
  current-before law y u found apart is now =
      sym (ap (λ (r : Bool × Bool × Bool). r.1) (row-note old rise_old y (before-found y found apart) u is))
      ∙ law (pages_facts old) more y.name
      (more-distinct x.name (map fact_name (pages_facts old)) (given-absent item_name fact_name pages_fact pages-own items rise x.name) (distinct-given item_name fact_name pages_fact pages-own old rise_old))
      (nat_list_eq_equiv.symm x.name y.name ∙ apart)
      (ap (λ fs. (pages_row fs y.name).1) (sym pages-added) ∙ ap (λ (r : Bool × Bool × Bool). r.1) (row-note items rise y found u is) ∙ now)

  -- whether it is gone
  gone-is : (y : Item) (u : Technote) → named item_name items y.name ≡ Some y → bytes_eq y.name n ≡ false → y.artifact ≡ kind.Technote u → is_gone items n y.name ≡ not (option_eq bytes_eq (pages.note (pages_facts items) u.id) (Some y.name))
  gone-is y u found apart is =
      (λ i. not (apart i) && option_map_or (λ (item : Item). is_rowless (pages_facts items) (forum_facts items) y.name item.artifact) (found i) false)
      ∙ ap (is_rowless (pages_facts items) (forum_facts items) y.name) is

  module _ (first now : TableState Fact) (us : List (Change Fact)) (lead : Leads first us now) (told : PagesTold us) (single : length us ≤ 1) (before : first.facts ≡ pages_facts old) (after : now.facts ≡ pages_facts items) where
    abbrev names : List (List ℕ)
    names = all_changed us

    -- a row that isn't listed is the same
    unlisted : (q : List ℕ) → has names q ≡ false → pages_row (pages_facts items) q ≡ pages_row (pages_facts old) q
    unlisted q out = ap (λ fs. pages_row fs q) (sym after) ∙ told-same pages_row first us now lead told q out ∙ ap (λ fs. pages_row fs q) before

    -- one that is listed isn't
    listed-differs : (q : List ℕ) → has names q ≡ true → pages_row (pages_facts items) q ≡ pages_row (pages_facts old) q → ⊥
    listed-differs q listed same =
        told-other pages_row first now us single lead told q listed (ap (λ fs. pages_row fs q) after ∙ same ∙ ap (λ fs. pages_row fs q) (sym before))

    -- a technote that isn't done is current where it was
    current-same : NoOtherCurrent → (done : List (List ℕ)) (y : Item) (u : Technote) → named item_name items y.name ≡ Some y → bytes_eq y.name n ≡ false → has (pushed (is_gone items n) names done) y.name ≡ false → y.artifact ≡ kind.Technote u
        → option_eq bytes_eq (pages.note (pages_facts items) u.id) (Some y.name) ≡ option_eq bytes_eq (pages.note (pages_facts old) u.id) (Some y.name)
    current-same law done y u found apart out is = by (has names y.name) refl (is_gone items n y.name) refl
      where
        by : (listed : Bool) → has names y.name ≡ listed → (gone : Bool) → is_gone items n y.name ≡ gone
            → option_eq bytes_eq (pages.note (pages_facts items) u.id) (Some y.name) ≡ option_eq bytes_eq (pages.note (pages_facts old) u.id) (Some y.name)
        by false h gone g =
            ap (λ (r : Bool × Bool × Bool). r.1) (sym (row-note items rise y found u is) ∙ unlisted y.name h ∙ row-note old rise_old y (before-found y found apart) u is)
        by true h true g = absurd (apart-bits (sym h ∙ pushed-out (is_gone items n) names done y.name out g))
        by true h false g =
            let current = not-false (option_eq bytes_eq (pages.note (pages_facts items) u.id) (Some y.name)) (sym (gone-is y u found apart is) ∙ g) in
            current ∙ sym (current-before law y u found apart is current)

    -- one that is listed and isn't current has its row still
    pub notes-shown : (done : List (List ℕ)) → ((y : Item) → named item_name items y.name ≡ Some y → bytes_eq y.name n ≡ false → as_manifest y.artifact ≡ None → has done y.name ≡ false)
        → (rows : List Row) → rows ≡ rows_mixed items n done → AreShown items n names rows
    notes-shown done undone rows are q listed gone = by y.1.artifact refl
      where
        y : (bytes_eq q n ≡ false) × (y : Item) × (named item_name items y.name ≡ Some y) × (y.name ≡ q) × (is_rowless (pages_facts items) (forum_facts items) y.name y.artifact ≡ true)
        y = gone-behind items rise n q gone

        apart : bytes_eq y.1.name n ≡ false
        apart = ap (λ p. bytes_eq p n) y.3 ∙ y.0

        listed_y : has names y.1.name ≡ true
        listed_y = ap (has names) y.3 ∙ listed

        found_old : named item_name old y.1.name ≡ Some y.1
        found_old = before-found y.1 y.2 apart

        -- it had its row before
        was-current : (u : Technote) → y.1.artifact ≡ kind.Technote u → option_eq bytes_eq (pages.note (pages_facts old) u.id) (Some y.1.name) ≡ true
        was-current u is =
            let gone_now : option_eq bytes_eq (pages.note (pages_facts items) u.id) (Some y.1.name) ≡ false
            = not-true (option_eq bytes_eq (pages.note (pages_facts items) u.id) (Some y.1.name)) (sym (ap (is_rowless (pages_facts items) (forum_facts items) y.1.name) is) ∙ y.4) in
            true-unless (option_eq bytes_eq (pages.note (pages_facts old) u.id) (Some y.1.name))
            (λ none. listed-differs y.1.name listed_y
            (row-note items rise y.1 y.2 u is ∙ (λ i. (false, (gone_now ∙ sym none) i, false)) ∙ sym (row-note old rise_old y.1 found_old u is)))

        there : as_manifest y.1.artifact ≡ None → is_some (timeline_row old y.1) ≡ true → has_row rows q ≡ true
        there none was = ap (λ rs. has_row rs q) are ∙ subst (λ p. has_row (rows_mixed items n done) p ≡ true) y.3 (old-shown items rise n done y.1 y.2 (undone y.1 y.2 apart none) was)

        no-page : pages_fact_of y.1.name y.1.artifact ≡ None → has_row rows q ≡ true
        no-page none = absurd (listed-differs y.1.name listed_y (row-none items rise y.1 y.2 none ∙ sym (row-none old rise_old y.1 found_old none)))

        never : is_rowless (pages_facts items) (forum_facts items) y.1.name y.1.artifact ≡ false → has_row rows q ≡ true
        never off = absurd (apart-bits (sym y.4 ∙ off))

        by : (a : Artifact) → y.1.artifact ≡ a → has_row rows q ≡ true
        by (kind.Technote u) is =
            there (ap as_manifest is)
            (ap is_some (ap (timeline_row_of old y.1.name) is)
            ∙ is-some-on (option_eq bytes_eq (pages.note (pages_facts old) u.id) (Some y.1.name)) (record { time = u.time; name = y.1.name; kind = row.Note; user = unwrap_or u.user []; text = unwrap_or u.comment [] }) (was-current u is))
        by (kind.Forum f) is = no-page (ap (pages_fact_of y.1.name) is)
        by kind.Plain is = no-page (ap (pages_fact_of y.1.name) is)
        by (kind.Manifest m) is = no-page (ap (pages_fact_of y.1.name) is)
        by (kind.Cluster m) is = no-page (ap (pages_fact_of y.1.name) is)
        by (kind.Control m) is = no-page (ap (pages_fact_of y.1.name) is)
        by (kind.Ticket m) is = no-page (ap (pages_fact_of y.1.name) is)
        by (kind.Wiki m) is = never (ap (is_rowless (pages_facts items) (forum_facts items) y.1.name) is)
        by (kind.Attachment m) is = never (ap (is_rowless (pages_facts items) (forum_facts items) y.1.name) is)

    -- what isn't done and is no check-in's stays
    pub note-kept : NoOtherCurrent → (attached : Attached) → IsAttachedOf items attached → IsName t.id → (done : List (List ℕ)) → ((q : List ℕ) → has done q ≡ false → bytes_eq q n ≡ false) → (y : Item) → named item_name items y.name ≡ Some y
        → has (pushed (is_attachment items) (own_names attached x.artifact) (pushed (is_gone items n) names done)) y.name ≡ false → as_manifest y.artifact ≡ None → timeline_row items y ≡ timeline_row old y
    note-kept law attached are named_id done others y found out none =
        elim (as_attachment y.artifact) as (λ o. as_attachment y.artifact ≡ o → timeline_row items y ≡ timeline_row old y) [
          | Some file ↦ λ is. attachment-kept items rise x at attached are t.id named_id (ap own_id is_note) (pushed (is_gone items n) names done) y file found is out
          | None ↦ λ is.
              let out_gone : has (pushed (is_gone items n) names done) y.name ≡ false = pushed-before (is_attachment items) (own_names attached x.artifact) (pushed (is_gone items n) names done) y.name out in
              other-same items old y.name y.artifact none
              (λ u e. current-same law done y u found (others y.name (pushed-before (is_gone items n) names done y.name out_gone)) out_gone e)
              (λ f e. let no : None ≡ Some f = sym is ∙ ap as_attachment e in cc)
              (λ f e. ap (λ fs. is_some (place fs y.name)) (posts-stay items rise x at (ap (forum_fact_of x.name) is_note)))
        ] refl

-- a name that is no check-in's isn't among those whose tags changed
pub tagged-skips : (items : List Item) (n : List ℕ) (us : List (Change tags.Fact)) (y : Item) → named item_name items y.name ≡ Some y → bytes_eq y.name n ≡ false → as_manifest y.artifact ≡ None → has (tagged_done items n us) y.name ≡ false
tagged-skips items n us y found apart none =
    pushed-skips (is_other_checkin items n) (all_changed us) (n ∷ []) y.name
    (ap (λ o. not (bytes_eq y.name n) && is_some o) (ap (option_and_then (λ (item : Item). as_manifest item.artifact)) found ∙ none) ∙ and-false (not (bytes_eq y.name n)))
    ∙ ap (λ b. b || false) apart
  where
    and-false : (b : Bool) → (b && false) ≡ false
    and-false true = refl
    and-false false = refl
