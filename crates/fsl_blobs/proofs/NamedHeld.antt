-- Held artifacts have the names of their bytes.
use Rattle.std.proofs.Common.{◌≡◌, ℕ, Bool, true, false, cond, List, [], ◌∷◌, Option, Some, None, refl, sym, ◌∙◌, subst}
use Rattle.std.specs.Prelude.{◌&&◌, if◌then◌else◌, IfSome, fold}
use Rattle.std.specs.List.{AllByRecursion}
use Rattle.std.specs.Option.{option_map}
use Rattle.std.specs.FinMap as map_of
use Rattle.std.proofs.lemmas.Bool.{and_parts}
use Rattle.fsl_name.specs.Name.{name_of}
use Rattle.fsl_order.specs.Names.{bytes_cmp}
use Rattle.fsl_record.specs.Receipts.{Brought}
use Rattle.fsl_record.specs.declared.Record.{Record}
use Rattle.fsl_record.specs.declared.Record.TheVariants as record_of
use Rattle.fsl_record.specs.Records.{IsFit}
use Rattle.fsl_blobs.specs.Fold.{Held, Contents, AreNamed, nothing, after, is_new}
use Rattle.fsl_blobs.specs.Kept.{is_same}
use Rattle.fsl_blobs.specs.Laws.{HeldAreNamed}
use Rattle.fsl_blobs.proofs.KeptLemmas.{is_same-means, shown, blob-get, publish-get, shun-get}

abbrev IsNamed : List ℕ → Option Held → Type 0
IsNamed name o = IfSome o (λ a. name ≡ name_of a.bytes)

named_shown : (name q : List ℕ) (o : Option Held) → IsNamed q o → IsNamed q (option_map (shown name q) o)
named_shown name q None h = tt
named_shown name q (Some a) h = elim (is_same name q) as (λ b. q ≡ name_of (if b then record a { private = false } else a).bytes) [ true ↦ h | false ↦ h ]

named_less : (b : Bool) (q : List ℕ) (o : Option Held) → IsNamed q o → IsNamed q (cond b None o)
named_less true q o h = tt
named_less false q o h = h

named-after : (c : Contents) (r : Record) → IsFit r → AreNamed c.held → AreNamed (after c r).held
named-after c (record_of.Config config) fit h = h
named-after c (record_of.Blob private name receipt bytes) fit h = λ q.
    subst (IsNamed q) (sym (blob-get c name private receipt bytes q))
    (elim (is_same name q && is_new c name) as (λ b. (is_same name q && is_new c name) ≡ b → IsNamed q (cond b (Some (record { private = private; bytes = bytes })) (map_of.get c.held q))) [
      | true ↦ λ e. sym (is_same-means name q (and_parts (is_same name q) (is_new c name) e).0) ∙ fit.1.0
      | false ↦ λ _. h q
    ] refl)
named-after c (record_of.Publish name) fit h = λ q. subst (IsNamed q) (sym (publish-get c name q)) (named_shown name q (map_of.get c.held q) (h q))
named-after c (record_of.Shun name) fit h = λ q. subst (IsNamed q) (sym (shun-get c name q)) (named_less (is_same name q) q (map_of.get c.held q) (h q))
named-after c (record_of.Unshun name) fit h = h

named-fold : (records : List Record) (c : Contents) → AllByRecursion IsFit records → AreNamed c.held → AreNamed (fold after c records).held
named-fold [] c fit h = h
named-fold (r ∷ records) c fit h = named-fold records (after c r) fit.1 (named-after c r fit.0 h)

pub held_are_named : HeldAreNamed
held_are_named records fit = named-fold records nothing fit (λ q. subst (IsNamed q) (sym (map_of.get-empty bytes_cmp q)) tt)
