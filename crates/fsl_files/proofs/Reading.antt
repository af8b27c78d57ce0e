-- The row of a name, read off the entries.
use Rattle.std.proofs.Common.{◌≡◌, ℕ, List, Option, Some, None, option_map, option_and_then, refl, ap, ◌∙◌}
use Rattle.std.specs.Option.{option_map_or, option_zip}
use Rattle.fsl_order.specs.Names.{bytes_cmp}
use Rattle.fsl_table.specs.Contents.{value_at}
use Rattle.fsl_table.proofs.Facts.{named-facts}
use Rattle.fsl_files.specs.declared.Fact.{Fact}
use Rattle.fsl_files.specs.declared.FileRow.{FileRow}
use Rattle.fsl_files.specs.declared.Listing.TheVariants.{NotCheckin, Known}
use Rattle.fsl_files.specs.declared.entry.Entry.{Entry}
use Rattle.fsl_files.specs.Files.{checkin, over, listing, files, known, differences, changes, files_row}
use Rattle.fsl_files.specs.Kept.{Lines, fact_of, facts_of, parent_at}
use Rattle.fsl_files.specs.At.{over_entry, listing_at, files_at, changes_at}

module _ (es : Lines) where
  checkin-is : (q : List ℕ) → checkin (facts_of es) q ≡ option_map (λ v. fact_of (q, v)) (value_at bytes_cmp q es)
  checkin-is q = named-facts fact_of (λ f. f.name) (λ e. refl) es q

  over-is : (rows : List FileRow) (b : List ℕ) (o : Option Entry) → over rows (option_map (λ v. fact_of (b, v)) o) ≡ over_entry rows o
  over-is rows b None = refl
  over-is rows b (Some v) = refl

  listing-is : (q : List ℕ) (e : Entry) → listing (facts_of es) (fact_of (q, e)) ≡ listing_at es e
  listing-is q e = by e.baseline
    where
      by : (s : Option (List ℕ)) → option_map_or (λ base. over e.files (checkin (facts_of es) base)) s (Known e.files) ≡ option_map_or (λ b. over_entry e.files (value_at bytes_cmp b es)) s (Known e.files)
      by None = refl
      by (Some b) = ap (over e.files) (checkin-is b) ∙ over-is e.files b (value_at bytes_cmp b es)

  pub files-at : (q : List ℕ) → files (facts_of es) q ≡ files_at es q
  files-at q = ap (λ o. option_map_or (listing (facts_of es)) o NotCheckin) (checkin-is q) ∙ by (value_at bytes_cmp q es)
    where
      by : (o : Option Entry) → option_map_or (listing (facts_of es)) (option_map (λ v. fact_of (q, v)) o) NotCheckin ≡ option_map_or (listing_at es) o NotCheckin
      by None = refl
      by (Some e) = listing-is q e

  parent-is : (q : List ℕ) → option_and_then (λ f. f.parent) (checkin (facts_of es) q) ≡ parent_at es q
  parent-is q = ap (option_and_then (λ f. f.parent)) (checkin-is q) ∙ by (value_at bytes_cmp q es)
    where
      by : (o : Option Entry) → option_and_then (λ (f : Fact). f.parent) (option_map (λ v. fact_of (q, v)) o) ≡ option_and_then (λ e. e.parent) o
      by None = refl
      by (Some e) = refl

  pub changes-at : (q : List ℕ) → changes (facts_of es) q ≡ changes_at es q
  changes-at q = λ i. option_map (λ lists. differences lists.0 lists.1) (option_zip (old i) (known (files-at q i)))
    where
      each : (s : Option (List ℕ)) → option_and_then (λ up. known (files (facts_of es) up)) s ≡ option_and_then (λ up. known (files_at es up)) s
      each None = refl
      each (Some up) = ap known (files-at up)

      old : option_and_then (λ up. known (files (facts_of es) up)) (option_and_then (λ f. f.parent) (checkin (facts_of es) q)) ≡ option_and_then (λ up. known (files_at es up)) (parent_at es q)
      old = ap (option_and_then (λ up. known (files (facts_of es) up))) (parent-is q) ∙ each (parent_at es q)

  pub row-at : (q : List ℕ) → files_row (facts_of es) q ≡ (files_at es q, changes_at es q)
  row-at q = λ i. (files-at q i, changes-at q i)
