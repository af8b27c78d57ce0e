-- Ids of tickets and of technotes, and texts that are such an id.
use Rattle.std.proofs.Common.{◌≡◌, ℕ, true, false, List, [], ◌∷◌, Bool, Option, Some, None, All, refl, sym, ap, ◌∙◌, subst}
use Rattle.std.specs.Prelude.{◌||◌, map, filter_map, option_and_then, IfSome}
use Rattle.std.specs.List.{list_any, cons_option, AllByRecursion}
use Rattle.std.specs.Str.{bytes_eq}
use Rattle.std.specs.Cmp.Lexicographic.{bytes_decides}
use Rattle.std.proofs.lemmas.List.Elements.{All-head, All-tail}
use Rattle.fsl_name.specs.Name.{IsName, name_in, name_text}
use Rattle.fsl_name.proofs.ReadAgain.{name_again, name_from_text}
use Rattle.fsl_date.specs.Moment.{date_in}
use Rattle.fsl_grammar.specs.Forms.{hash_form, ◌>>=◌}
use Rattle.fsl_forms.specs.Kinds.{event_form}
use Rattle.fsl_artifact.specs.declared.Artifact.{Artifact}
use Rattle.fsl_artifact.specs.declared.Artifact.TheVariants as kind
use Rattle.fsl_artifact.specs.Kind.{IsKind}
use Rattle.fsl_wiki.specs.declared.Fact as wiki
use Rattle.fsl_wiki.specs.declared.Fact.TheVariants as wiki_fact
use Rattle.fsl_wiki.specs.Pages as pages
use Rattle.fsl_ticket.specs.declared.Fact as ticket
use Rattle.fsl_cross.specs.declared.Item.{Item}
use Rattle.fsl_cross.specs.Facts.{pages_fact, pages_fact_of, ticket_fact, ticket_fact_of}
use Rattle.fsl_cross.specs.Kinds.{own_id}
use Rattle.fsl_cross.specs.Tables.{IsItem, pages_facts, ticket_facts}

some_is : {X : Type 0} {a b : X} → Some a ≡ Some b → a ≡ b
some_is e = cc

head_is : {X : Type 0} {a b : X} {xs ys : List X} → a ∷ xs ≡ b ∷ ys → a ≡ b
head_is e = cc

-- two tests that follow from each other
pub same-test : (x y : Bool) → (x ≡ true → y ≡ true) → (y ≡ true → x ≡ true) → x ≡ y
same-test true y forth back = sym (forth refl)
same-test false true forth back = back refl
same-test false false forth back = refl

-- ---- texts of names

-- the digits of two names are the same where the names are
pub text-same : (a b : List ℕ) → IsName a → IsName b → bytes_eq (name_text a) (name_text b) ≡ bytes_eq a b
text-same a b is_a is_b =
    same-test (bytes_eq (name_text a) (name_text b)) (bytes_eq a b)
    (λ e. (bytes_decides a b).1 (some_is (sym (name_again a is_a) ∙ ap name_in ((bytes_decides (name_text a) (name_text b)).0 e) ∙ name_again b is_b)))
    (λ e. (bytes_decides (name_text a) (name_text b)).1 (ap name_text ((bytes_decides a b).0 e)))

-- a text that is no name isn't that of one
pub text-other : (a text : List ℕ) → IsName a → name_in text ≡ None → bytes_eq (name_text a) text ≡ false
text-other a text is none =
    elim (bytes_eq (name_text a) text) as (λ b. bytes_eq (name_text a) text ≡ b → b ≡ false) [
      | true ↦ λ e. let no : Some a ≡ None = sym (name_again a is) ∙ ap name_in ((bytes_decides (name_text a) text).0 e) ∙ none in cc
      | false ↦ λ e. refl
    ] refl

module _ {X : Type 0} (id_of : X → List ℕ) where
  -- a test of texts is one of ids
  pub any-text : (id : List ℕ) → IsName id → (xs : List X) → AllByRecursion (λ x. IsName (id_of x)) xs → list_any (λ x. bytes_eq (name_text (id_of x)) (name_text id)) xs ≡ list_any (λ x. bytes_eq (id_of x) id) xs
  any-text id is [] all = refl
  any-text id is (x ∷ xs) all = λ i. text-same (id_of x) id all.0 is i || any-text id is xs all.1 i

  pub none-text : (text : List ℕ) → name_in text ≡ None → (xs : List X) → AllByRecursion (λ x. IsName (id_of x)) xs → list_any (λ x. bytes_eq (name_text (id_of x)) text) xs ≡ false
  none-text text none [] all = refl
  none-text text none (x ∷ xs) all = λ i. text-other (id_of x) text all.0 none i || none-text text none xs all.1 i

-- ---- the ids of artifacts are names

one-named : (args : List (List (List ℕ))) (id : List ℕ) → map hash_form args ≡ Some id ∷ [] → IsName id
one-named [] id e = cc
one-named (arg ∷ args) id e = by arg (head_is e)
  where
    by : (arg : List (List ℕ)) → hash_form arg ≡ Some id → IsName id
    by [] h = cc
    by (text ∷ []) h = (name_from_text text id h).0
    by (text ∷ more ∷ rest) h = cc

-- what is made of a time and an id, where both are there
both-there : {E : Type 0} (make : ℕ → List ℕ → E) (time : Option ℕ) (id : Option (List ℕ)) (e : E) → (time >>= (λ t. id >>= (λ i. Some (make t i)))) ≡ Some e → (t : ℕ) × (i : List ℕ) × (id ≡ Some i) × (make t i ≡ e)
both-there make None id e h = cc
both-there make (Some t) None e h = cc
both-there make (Some t) (Some i) e h = (t, i, refl, some_is h)

event-named : (args : List (List (List ℕ))) (time : ℕ) (id : List ℕ) → map event_form args ≡ Some (record { time = time; id = id }) ∷ [] → IsName id
event-named [] time id e = cc
event-named (arg ∷ args) time id e = by arg (head_is e)
  where
    by : (arg : List (List ℕ)) → event_form arg ≡ Some (record { time = time; id = id }) → IsName id
    by [] h = cc
    by (date ∷ []) h = cc
    by (date ∷ hash ∷ []) h =
        let r = both-there _ (date_in date) (name_in hash) _ h in
        (name_from_text hash id (r.2 ∙ ap Some (λ j. (r.3 j).id))).0
    by (date ∷ hash ∷ more ∷ rest) h = cc

pub own-named : (text : List ℕ) (a : Artifact) (id : List ℕ) → IsKind text a → own_id a ≡ Some id → IsName id
own-named text (kind.Ticket t) id is e = subst IsName (some_is e) (one-named _ t.id is.2.id)
own-named text (kind.Technote t) id is e = subst IsName (some_is e) (event-named _ t.time t.id is.2.event)
own-named text kind.Plain id is e = cc
own-named text (kind.Manifest m) id is e = cc
own-named text (kind.Cluster c) id is e = cc
own-named text (kind.Control c) id is e = cc
own-named text (kind.Wiki w) id is e = cc
own-named text (kind.Attachment a) id is e = cc
own-named text (kind.Forum f) id is e = cc

ticket-named_of : (name text : List ℕ) (a : Artifact) → IsKind text a → IfSome (ticket_fact_of name a) (λ f. IsName f.id)
ticket-named_of name text (kind.Ticket t) is = own-named text (kind.Ticket t) t.id is refl
ticket-named_of name text (kind.Technote t) is = tt
ticket-named_of name text kind.Plain is = tt
ticket-named_of name text (kind.Manifest m) is = tt
ticket-named_of name text (kind.Cluster c) is = tt
ticket-named_of name text (kind.Control c) is = tt
ticket-named_of name text (kind.Wiki w) is = tt
ticket-named_of name text (kind.Attachment a) is = tt
ticket-named_of name text (kind.Forum f) is = tt

note-named_of : (name text : List ℕ) (a : Artifact) → IsKind text a → IfSome (option_and_then pages.as_note (pages_fact_of name a)) (λ n. IsName n.id)
note-named_of name text (kind.Technote t) is = own-named text (kind.Technote t) t.id is refl
note-named_of name text (kind.Ticket t) is = tt
note-named_of name text kind.Plain is = tt
note-named_of name text (kind.Manifest m) is = tt
note-named_of name text (kind.Cluster c) is = tt
note-named_of name text (kind.Control c) is = tt
note-named_of name text (kind.Wiki w) is = tt
note-named_of name text (kind.Attachment a) is = tt
note-named_of name text (kind.Forum f) is = tt

pub tickets-named : (items : List Item) → All IsItem items → AllByRecursion (λ f. IsName f.id) (ticket_facts items)
tickets-named [] all = tt
tickets-named (item ∷ items) all =
    let is = All-head IsItem item items all in
    by (ticket_fact item) (ticket-named_of item.name is.0 item.artifact is.1) (tickets-named items (All-tail IsItem item items all))
  where
    by : (o : Option ticket.Fact) → IfSome o (λ f. IsName f.id) → AllByRecursion (λ f. IsName f.id) (ticket_facts items) → AllByRecursion (λ f. IsName f.id) (cons_option o (ticket_facts items))
    by None is rest = rest
    by (Some f) is rest = (is, rest)

pub notes-named : (items : List Item) → All IsItem items → AllByRecursion (λ n. IsName n.id) (filter_map pages.as_note (pages_facts items))
notes-named [] all = tt
notes-named (item ∷ items) all =
    let is = All-head IsItem item items all in
    by (pages_fact item) (note-named_of item.name is.0 item.artifact is.1) (notes-named items (All-tail IsItem item items all))
  where
    by : (o : Option wiki.Fact) → IfSome (option_and_then pages.as_note o) (λ n. IsName n.id) → AllByRecursion (λ n. IsName n.id) (filter_map pages.as_note (pages_facts items)) → AllByRecursion (λ n. IsName n.id) (filter_map pages.as_note (cons_option o (pages_facts items)))
    by None is rest = rest
    by (Some (wiki_fact.Page p)) is rest = rest
    by (Some (wiki_fact.Attached a)) is rest = rest
    by (Some (wiki_fact.Note n)) is rest = (is, rest)
