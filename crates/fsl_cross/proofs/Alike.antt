-- Rows and facts that stay when a technote or a post comes.
use Rattle.std.proofs.Common.{◌≡◌, ℕ, false, cond, List, Option, Some, None, refl, ap, ◌∙◌}
use Rattle.std.specs.Prelude.{filter_map, is_some, option_map, option_and_then, unwrap_or, [], IfSome}
use Rattle.std.specs.Option.{option_eq}
use Rattle.std.specs.Str.{bytes_eq}
use Rattle.std.specs.Cmp.Lexicographic.{nat_list_eq_equiv}
use Rattle.fsl_order.specs.Rows.{named}
use Rattle.fsl_forms.specs.declared.attachment.Attachment.{Attachment}
use Rattle.fsl_forms.specs.declared.technote.Technote.{Technote}
use Rattle.fsl_forms.specs.declared.forum.Forum.{Forum}
use Rattle.fsl_artifact.specs.declared.Artifact.{Artifact}
use Rattle.fsl_artifact.specs.declared.Artifact.TheVariants as kind
use Rattle.fsl_links.specs.declared.Fact as links
use Rattle.fsl_links.specs.Links.{primary}
use Rattle.fsl_tags.specs.declared.Fact as tags
use Rattle.fsl_wiki.specs.Pages as pages
use Rattle.fsl_forum.specs.Threads as threads
use Rattle.fsl_timeline.specs.declared.RowKind.TheVariants as row
use Rattle.fsl_cross.specs.declared.Item.{Item}
use Rattle.fsl_cross.specs.Facts.{as_manifest, tag_cards, links_fact, assertions, parent_names}
use Rattle.fsl_cross.specs.Checkins.{links_facts, tags_fact, tags_facts}
use Rattle.fsl_cross.specs.Inside.{tags_fact_over, attachment_row}
use Rattle.fsl_cross.specs.Tables.{pages_facts, forum_facts, attachment_kind, timeline_row_of, without}
use Rattle.fsl_cross.proofs.Moved.{item_name}
use Rattle.fsl_cross.proofs.FactLemmas.{Rise, links_own, tags_own}
use Rattle.fsl_cross.proofs.Mapped.{named-given}
use Rattle.fsl_cross.proofs.Sets.{named-out}
use Rattle.fsl_cross.proofs.Added.{rising-out}
use Rattle.fsl_cross.proofs.Stays.{facts-stay}

-- a row of an artifact that is no check-in, where what it depends on is the same
pub other-same : (items old : List Item) (name : List ℕ) (a : Artifact) → as_manifest a ≡ None
    → ((t : Technote) → a ≡ kind.Technote t → option_eq bytes_eq (pages.note (pages_facts items) t.id) (Some name) ≡ option_eq bytes_eq (pages.note (pages_facts old) t.id) (Some name))
    → ((f : Attachment) → a ≡ kind.Attachment f → attachment_kind items f.target ≡ attachment_kind old f.target)
    → ((f : Forum) → a ≡ kind.Forum f → is_some (threads.place (forum_facts items) name) ≡ is_some (threads.place (forum_facts old) name))
    → timeline_row_of items name a ≡ timeline_row_of old name a
other-same items old name (kind.Manifest m) none note attached post = cc
other-same items old name (kind.Technote t) none note attached post =
    ap (λ b. cond b (Some (record { time = t.time; name = name; kind = row.Note; user = unwrap_or t.user []; text = unwrap_or t.comment [] })) None) (note t refl)
other-same items old name (kind.Attachment a) none note attached post = ap (λ k. Some (attachment_row k name a)) (attached a refl)
other-same items old name (kind.Forum f) none note attached post =
    ap (λ b. cond b (Some (record { time = f.date; name = name; kind = row.Forum; user = f.user; text = unwrap_or f.title [] })) None) (post f refl)
other-same items old name kind.Plain none note attached post = refl
other-same items old name (kind.Cluster c) none note attached post = refl
other-same items old name (kind.Control c) none note attached post = refl
other-same items old name (kind.Wiki w) none note attached post = refl
other-same items old name (kind.Ticket t) none note attached post = refl

module _ (items : List Item) (rise : Rise items) (x : Item) (at : named item_name items x.name ≡ Some x) where
  abbrev old : List Item
  old = without x.name items

  -- an artifact that is no check-in leaves the facts of parentage
  pub links-stay : as_manifest x.artifact ≡ None → links_facts items ≡ links_facts old
  links-stay none = facts-stay items rise x at (λ (f : links.Fact). f.name) links_fact links_own (ap (option_map (λ m. let f : links.Fact = record { name = x.name; parents = parent_names m } in f)) none)

  -- .. and where it has no T cards those of tags
  pub tags-stay : as_manifest x.artifact ≡ None → tag_cards x.artifact ≡ None → tags_facts items ≡ tags_facts old
  tags-stay none bare =
      (λ i. filter_map (tags_fact_over (links-stay none i)) items)
      ∙ facts-stay items rise x at (λ (f : tags.Fact). f.name) (tags_fact old) (tags_own old)
      (ap (option_map (λ cards. let f : tags.Fact = record { name = x.name; checkin = is_some (as_manifest x.artifact); parent = primary (links_facts old) x.name; tags = assertions x cards } in f)) bare)

  -- what another artifact gave before
  pub gave : {F : Type 0} (fact_name : F → List ℕ) (give : Item → Option F) → ((item : Item) → IfSome (give item) (λ f. fact_name f ≡ item.name)) → (y : Item) → named item_name items y.name ≡ Some y → bytes_eq y.name x.name ≡ false
      → named fact_name (filter_map give old) y.name ≡ give y
  gave fact_name give own y found apart =
      named-given item_name fact_name give own old (rising-out item_name x.name items rise) y.name
      ∙ ap (option_and_then give) (named-out item_name x.name y.name items ∙ (λ i. cond ((nat_list_eq_equiv.symm x.name y.name ∙ apart) i) None (found i)))

  -- .. and gives now
  pub gives : {F : Type 0} (fact_name : F → List ℕ) (give : Item → Option F) → ((item : Item) → IfSome (give item) (λ f. fact_name f ≡ item.name)) → (y : Item) → named item_name items y.name ≡ Some y
      → named fact_name (filter_map give items) y.name ≡ give y
  gives fact_name give own y found = named-given item_name fact_name give own items rise y.name ∙ ap (option_and_then give) found
