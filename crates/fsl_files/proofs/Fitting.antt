-- Check-ins that meet their condition, and the files of one without a baseline.
use Rattle.std.proofs.Common.{◌≡◌, ℕ, true, false, Bool, cond, List, [], ◌∷◌, map, filter, refl, sym, ap, ◌∙◌, subst}
use Rattle.std.specs.Prelude.{Option, Some, None, is_some, IsTrue, IfSome, IfNone}
use Rattle.std.specs.Str.{bytes_eq}
use Rattle.std.specs.List.{list_all}
use Rattle.std.proofs.lemmas.List.{append-nil}
use Rattle.std.proofs.lemmas.Bool.{and_parts}
use Rattle.fsl_order.specs.Names.{bytes_cmp}
use Rattle.fsl_order.specs.Rows.{in_order, rises}
use Rattle.fsl_order.proofs.SortedLemmas.{in_order-sorted}
use Rattle.fsl_table.specs.Contents.{value_at, with_entry}
use Rattle.fsl_table.proofs.Finding.{value-with}
use Rattle.fsl_files.specs.declared.Fact.{Fact}
use Rattle.fsl_files.specs.declared.FileRow.{FileRow}
use Rattle.fsl_files.specs.declared.entry.Entry.{Entry}
use Rattle.fsl_files.specs.Conditions.{IsFilesFact}
use Rattle.fsl_files.specs.Files.{overlay}
use Rattle.fsl_files.specs.Kept.{Lines, IsFit, AreFit, entry_of}
use Rattle.fsl_files.proofs.Ordered.{sorted-rises}

-- a check-in that is found meets the condition
pub fit_at : (es : Lines) (q : List ℕ) (e : Entry) → AreFit es → Some e ≡ value_at bytes_cmp q es → IsFit e
fit_at es q e all is = subst (λ o. IfSome o IsFit) (sym is) (all q)

pub fit_if : (es : Lines) (q : List ℕ) (o : Option Entry) → AreFit es → o ≡ value_at bytes_cmp q es → IfSome o IsFit
fit_if es q o all is = subst (λ o. IfSome o IsFit) (sym is) (all q)

-- all do, with one more that does
pub fit_with : (name : List ℕ) (e : Entry) (es : Lines) → AreFit es → IsFit e → AreFit (with_entry bytes_cmp name e es)
fit_with name e es all fit = λ q. subst (λ o. IfSome o IsFit) (sym (value-with name e es q)) (by (bytes_eq q name) (value_at bytes_cmp q es) (all q))
  where
    by : (b : Bool) (o : Option Entry) → IfSome o IsFit → IfSome (cond b (Some e) o) IsFit
    by true o h = fit
    by false o h = h

-- a fact that meets its condition does so under any name
pub fit_fact : (f : Fact) → IsFilesFact f → IsFit (entry_of f)
fit_fact f h = record { rising = h.rising; whole = h.whole }

kept : (rows : List FileRow) → list_all (λ r. is_some r.hash) rows ≡ true → filter (λ r. is_some r.hash) rows ≡ rows
kept [] h = refl
kept (r ∷ rows) h =
    ap (λ b. cond b (r ∷ filter (λ r. is_some r.hash) rows) (filter (λ r. is_some r.hash) rows)) (and_parts (is_some r.hash) (list_all (λ r. is_some r.hash) rows) h).0
    ∙ ap (λ l. r ∷ l) (kept rows (and_parts (is_some r.hash) (list_all (λ r. is_some r.hash) rows) h).1)

-- over nothing, files that rise and have hashes are as they stand
pub alone : (rows : List FileRow) → IsTrue (rises (map (λ r. r.path) rows)) → IsTrue (list_all (λ r. is_some r.hash) rows) → overlay [] rows ≡ rows
alone rows h w =
    ap (filter (λ r. is_some r.hash)) (
    ap (in_order bytes_cmp (λ r. r.path)) (append-nil rows) ∙ in_order-sorted bytes_cmp (λ r. r.path) rows (sorted-rises (map (λ r. r.path) rows) h)
    )
    ∙ kept rows w

pub own_files : (e : Entry) → IsFit e → e.baseline ≡ None → overlay [] e.files ≡ e.files
own_files e fit own = alone e.files fit.rising (subst (λ o. IfNone o (IsTrue (list_all (λ r. is_some r.hash) e.files))) own fit.whole)
