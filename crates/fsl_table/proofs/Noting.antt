-- A name more, or less, in a set of names.
use Rattle.std.proofs.Common.{◌≡◌, ℕ, List, Bool, true, false, cond, ◌||◌, ◌&&◌, not, if◌then◌else◌, refl, sym, ap, ◌∙◌}
use Rattle.std.specs.Str.{bytes_eq}
use Rattle.std.specs.List.{list_any}
use Rattle.std.specs.BTreeMap.{is_at}
use Rattle.std.specs.Cmp.Lexicographic.{texts_ties, bytes_decides, nat_list_eq_equiv}
use Rattle.fsl_order.specs.Names.{bytes_cmp, has}

pub has-contains : (ks : List (List ℕ)) (q : List ℕ) → has ks q ≡ list_any (is_at (bytes_cmp q)) ks
has-contains ks q = λ i. list_any (λ k. texts_ties q k i) ks

at-name : (name q : List ℕ) → is_at (bytes_cmp name) q ≡ bytes_eq q name
at-name name q = sym (texts_ties name q) ∙ nat_list_eq_equiv.symm name q

cond-or : (b c : Bool) → cond b true c ≡ (b || c)
cond-or true c = refl
cond-or false c = refl

pub has_noted : (ks ns : List (List ℕ)) (name q : List ℕ) → list_any (is_at (bytes_cmp q)) ns ≡ cond (is_at (bytes_cmp name) q) true (list_any (is_at (bytes_cmp q)) ks) → has ns q ≡ (bytes_eq q name || has ks q)
has_noted ks ns name q h =
    has-contains ns q ∙ h ∙ cond-or (is_at (bytes_cmp name) q) (list_any (is_at (bytes_cmp q)) ks)
    ∙ (λ i. at-name name q i || sym (has-contains ks q) i)

-- a name that was there and is put in or taken out, against the set before
pub flipped_out : (ks ns : List (List ℕ)) (name q : List ℕ) → list_any (is_at (bytes_cmp name)) ks ≡ true → list_any (is_at (bytes_cmp q)) ns ≡ cond (is_at (bytes_cmp name) q) false (list_any (is_at (bytes_cmp q)) ks)
    → has ns q ≡ (if bytes_eq q name then not (has ks q) else has ks q)
flipped_out ks ns name q there h =
    has-contains ns q ∙ h ∙ (λ i. cond (at-name name q i) false (sym (has-contains ks q) i))
    ∙ elim (bytes_eq q name) as (λ b. bytes_eq q name ≡ b → cond b false (has ks q) ≡ (if b then not (has ks q) else has ks q)) [
      | true ↦ λ e. ap not (sym (has-contains ks q ∙ ap (λ n. list_any (is_at (bytes_cmp n)) ks) ((bytes_decides q name).0 e) ∙ there))
      | false ↦ λ e. refl
    ] refl

pub flipped_in : (ks ns : List (List ℕ)) (name q : List ℕ) → list_any (is_at (bytes_cmp name)) ks ≡ false → list_any (is_at (bytes_cmp q)) ns ≡ cond (is_at (bytes_cmp name) q) true (list_any (is_at (bytes_cmp q)) ks)
    → has ns q ≡ (if bytes_eq q name then not (has ks q) else has ks q)
flipped_in ks ns name q absent h =
    has-contains ns q ∙ h ∙ (λ i. cond (at-name name q i) true (sym (has-contains ks q) i))
    ∙ elim (bytes_eq q name) as (λ b. bytes_eq q name ≡ b → cond b true (has ks q) ≡ (if b then not (has ks q) else has ks q)) [
      | true ↦ λ e. ap not (sym (has-contains ks q ∙ ap (λ n. list_any (is_at (bytes_cmp n)) ks) ((bytes_decides q name).0 e) ∙ absent))
      | false ↦ λ e. refl
    ] refl

pub or-step : (e r h w : Bool) → ((e || r) || h) ≡ w → (r || (e || h)) ≡ w
or-step true true h w p = p
or-step true false h w p = p
or-step false r h w p = p

-- one that another set has is passed over
pub unless-step : (e r n h w : Bool) → (((e || r) && n) || h) ≡ w → ((r && n) || ((e && n) || h)) ≡ w
unless-step true true true h w p = p
unless-step true true false h w p = p
unless-step true false n h w p = p
unless-step false r n h w p = p

pub passed : (e b h : Bool) → (e ≡ true → b ≡ true) → h ≡ ((e && not b) || h)
passed true true h f = refl
passed true false h f = let no : false ≡ true = f refl in absurd cc
passed false b h f = refl

pub taken : (e b h : Bool) → (e ≡ true → b ≡ false) → (e || h) ≡ ((e && not b) || h)
taken true false h f = refl
taken true true h f = let no : true ≡ false = f refl in absurd cc
taken false b h f = refl

pub put_again : (a r : Bool) → cond a true (cond a false r) ≡ cond a true r
put_again true r = refl
put_again false r = refl
